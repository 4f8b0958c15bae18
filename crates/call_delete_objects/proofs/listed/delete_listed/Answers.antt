-- `call_delete_objects::listed::delete_listed` meets its contract: judged, then each place. Assumes nothing.
use mathlib.Core.Path.{◌≡◌, refl}
use native.Mathlib.Omega.{arith}
use Rattle.std.proofs.Common.{rules, Err}
use Rattle.call_contract.proofs.MadeLaws.{refusal-not-zero}
use Rattle.call_delete_objects.proofs.Walking.{stopped, start, ready, turn, finish}
use Rattle.call_delete_objects.proofs.listed.delete_listed.Goals as goal

pub returns-in_err-judge : goal.returns-in_err-judge
returns-in_err-judge g c ps is =
    let r = c.in_err-judge.field-0.0 in
    let told : c.from_residual.result ≡ Err r = search rules in
    rw told (stopped _ _ _ _ _ _ _ c.in_err-judge.ensures (refusal-not-zero r) ps is)

pub loop-i-init : goal.loop-i-init
loop-i-init g c = start _ _ _ _ _ _ _ c.in_ok-judge.ensures refl

pub delete_at-requires : goal.delete_at-requires
delete_at-requires g c = ready _ _ _ _ _ _ _ c.in_ok-judge.ensures refl _ _ _ c.loop-i.invariant c.loop-i-test.true

pub loop-i-preserved : goal.loop-i-preserved
loop-i-preserved g c =
    let d = c.delete_at in
    turn _ _ _ _ _ _ _ c.in_ok-judge.ensures refl _ _ _ c.loop-i.invariant c.loop-i-test.true _ c.at-p.ensures _ _ d.ensures d.auto.tables d.auto.arena d.auto.results

pub returns : goal.returns
returns g c ps is =
    let over : c.loop-i.i ≡ c.args.count = omega arith in
    finish _ _ _ _ _ _ _ c.in_ok-judge.ensures refl _ _ _ c.loop-i.invariant over ps is
