-- `call_commit::judge_list` meets its contract. In order it fits. The invariant of other lists: the first i numbers fit. Assumes nothing.
use Rattle.mem_find.specs.Known.{OfOpenBefore}
use Rattle.call_commit.proofs.Fitting.{Passed}
use Rattle.call_commit.proofs.judge_list.Given as goal

abbrev pub invariant-loop-i : goal.invariant-loop-i
invariant-loop-i l = OfOpenBefore l.memory.tables.now l.memory.arena.now l.first (λ s u x. Passed x.parts l.list l.i)
