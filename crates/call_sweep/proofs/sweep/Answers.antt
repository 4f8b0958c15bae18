-- `call_sweep::sweep` meets its contract: refused by 1 or 2, or swept. Assumes nothing.
use mathlib.Core.Path.{◌≡◌, ap}
use mathlib.Core.Bool.{not}
use Rattle.std.proofs.Common.{rules, Err}
use Rattle.call_types.specs.declared.Refusal.TheVariants.{NotAStore}
use Rattle.machine.proofs.Tests.{said-no, said-yes}
use Rattle.call_contract.specs.Made.{memory}
use Rattle.call_contract.proofs.MadeLaws.{not-whole, over-whole}
use Rattle.call_sweep.proofs.Accepting.{bad-stamp, swept-made}
use Rattle.call_sweep.proofs.sweep.Goals as goal

pub returns-in_err-offsets : goal.returns-in_err-offsets
returns-in_err-offsets c =
    let told : c.from_residual.result ≡ Err NotAStore = search rules in
    rw told (not-whole c.in_err-offsets.ensures.not_whole.1)

pub returns-then-not-stamp_ok : goal.returns-then-not-stamp_ok
returns-then-not-stamp_ok c =
    let a = c.args in
    over-whole c.in_ok-offsets.ensures.is_whole.0
    (bad-stamp a.stamp.0 a.most (memory a.tables.now a.arena.now) (said-no c.stamp_ok.ensures (ap not c.if-not-stamp_ok.true)))

pub returns : goal.returns
returns c =
    let a = c.args in
    let w = c.sweep_whole in
    over-whole c.in_ok-offsets.ensures.is_whole.0
    (swept-made a.stamp.0 a.most (memory a.tables.now a.arena.now) (said-yes c.stamp_ok.ensures (ap not c.if-not-stamp_ok.false)) w.result _ w.ensures w.auto.tables w.auto.arena)
