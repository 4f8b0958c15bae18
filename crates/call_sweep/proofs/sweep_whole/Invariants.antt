-- `call_sweep::sweep_whole` meets its contract. The invariant: so many ABORTs are made, a sweep of the rest leaves what the whole sweep leaves, and
-- the first row that is due is here. Assumes nothing.
use Prim.Native.Nat.{◌-◌}
use Rattle.call_contract.specs.Made.{memory}
use Rattle.call_sweep.proofs.Sweeping.{Going}
use Rattle.call_sweep.proofs.sweep_whole.Given as goal

abbrev pub invariant-loop-here : goal.invariant-loop-here
invariant-loop-here l = Going l.stamp l.most (memory l.initial.tables l.initial.arena) l.count (memory l.tables l.arena) l.here l.end

abbrev pub decreases-loop-here : goal.decreases-loop-here
decreases-loop-here l = l.most - l.count
