-- `call_uploads::uploads` meets its contract: refused by 1, or over whole memory. Assumes nothing.
use mathlib.Core.Path.{◌≡◌}
use Rattle.std.proofs.Common.{rules, Err}
use Rattle.call_types.specs.declared.Refusal.TheVariants.{NotAStore}
use Rattle.call_contract.proofs.MadeLaws.{not-whole}
use Rattle.call_uploads.proofs.Replies.{made-uploads}
use Rattle.call_uploads.proofs.uploads.Goals as goal

pub returns-in_err-offsets : goal.returns-in_err-offsets
returns-in_err-offsets c =
    let told : c.from_residual.result ≡ Err NotAStore = search rules in
    rw told (not-whole c.in_err-offsets.ensures.not_whole.1)

pub returns : goal.returns
returns c = made-uploads _ _ _ _ (λ j. (c.type_inv.tables j).fits) c.in_ok-offsets.ensures.is_whole.0 _ (rw (c.of-memory.ensures.tables, c.of-memory.ensures.arena) at c.uploads_whole.ensures)
