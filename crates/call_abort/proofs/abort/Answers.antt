-- `call_abort::abort` meets its contract: refused by 1, or over whole memory. Assumes nothing.
use mathlib.Core.Path.{◌≡◌}
use Rattle.std.proofs.Common.{rules, Err}
use Rattle.call_types.specs.declared.Refusal.TheVariants.{NotAStore}
use Rattle.call_contract.proofs.MadeLaws.{not-whole, over-whole}
use Rattle.call_abort.proofs.abort.Goals as goal

pub returns-in_err-offsets : goal.returns-in_err-offsets
returns-in_err-offsets c =
    let told : c.from_residual.result ≡ Err NotAStore = search rules in
    rw told (not-whole c.in_err-offsets.ensures.not_whole.1)

pub returns : goal.returns
returns c = over-whole c.in_ok-offsets.ensures.is_whole.0 c.abort_whole.ensures
