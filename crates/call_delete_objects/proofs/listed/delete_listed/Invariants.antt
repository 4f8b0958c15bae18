-- `call_delete_objects::listed::delete_listed` meets its contract: judged, then each place. Assumes nothing.
use Rattle.call_contract.specs.Made.{memory}
use Rattle.call_delete_objects.proofs.Walking.{Walked}
use Rattle.call_delete_objects.proofs.listed.delete_listed.Given as goal

abbrev pub invariant-loop-i : goal.invariant-loop-i
invariant-loop-i g l = Walked l.names (goal.F-post g l.at) l.count (memory l.fn.tables l.fn.arena) l.fn.results l.i (memory l.tables l.arena) l.results
