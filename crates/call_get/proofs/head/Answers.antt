-- `call_get::head` meets its contract: refused by 1, or over whole memory. Assumes nothing.
use mathlib.Core.Path.{◌≡◌}
use Rattle.std.proofs.Common.{rules, Err}
use Rattle.call_types.specs.declared.Refusal.TheVariants.{NotAStore}
use Rattle.call_contract.proofs.MadeLaws.{not-whole}
use Rattle.call_get.proofs.Replies.{made-head}
use Rattle.call_get.proofs.head.Goals as goal

pub returns-in_err-offsets_of : goal.returns-in_err-offsets_of
returns-in_err-offsets_of c =
    let told : c.from_residual.result ≡ Err NotAStore = search rules in
    rw told (not-whole c.in_err-offsets_of.ensures.not_whole.1)

pub returns : goal.returns
returns c = made-head _ _ (λ j. (c.type_inv.tables j).fits) c.in_ok-offsets_of.ensures.is_whole.0 _ _ _ (rw (c.of.ensures.tables, c.of.ensures.arena) at c.head_whole.ensures)
