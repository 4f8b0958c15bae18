-- `recording_run::print_result` meets its contract. Assumes nothing.
use native.Mathlib.Omega.{arith}
use Prim.Native.Nat.{◌+◌}
use lib.ListN.{length-set}
use Rattle.recording_run.proofs.Feeding.{two-stored}
use Rattle.recording_run.proofs.print_result.Goals as goal

pub bounds-out-k-2 : goal.bounds-out-k-2
bounds-out-k-2 c =
    let a = c.args in
    omega (arith, c.requires.0, length-set a.out.now a.k (48 + a.number))

pub returns : goal.returns
returns c =
    let a = c.args in
    two-stored a.out.now a.k (48 + a.number) 10 c.requires.0
