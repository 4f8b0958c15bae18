-- `call_list::list` meets its contract: refused by 1, or over whole memory. Assumes nothing.
use mathlib.Core.Path.{◌≡◌}
use Rattle.std.proofs.Common.{rules, Err}
use Rattle.call_types.specs.declared.Refusal.TheVariants.{NotAStore}
use Rattle.call_contract.proofs.MadeLaws.{not-whole}
use Rattle.call_list.proofs.Replies.{made_list}
use Rattle.call_list.proofs.list.Goals as goal

pub returns-in_err-offsets_of : goal.returns-in_err-offsets_of
returns-in_err-offsets_of c =
    let told : c.from_residual.result ≡ Err NotAStore = search rules in
    rw told (not-whole c.in_err-offsets_of.ensures.not_whole.1)

pub returns : goal.returns
returns c = made_list _ _ _ _ _ (λ j. (c.type_inv.tables j).fits) c.in_ok-offsets_of.ensures.is_whole.0 _ (rw (c.of.ensures.tables, c.of.ensures.arena) at c.list_whole.ensures)
