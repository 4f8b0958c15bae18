-- `call_commit::pass_listed` meets its contract. The invariant: the rows passed are the parts that the list's first i numbers name. Assumes nothing.
use Rattle.mem_layout.specs.Memory.{state_of}
use Rattle.call_commit.proofs.Ordered.{Walked}
use Rattle.call_commit.proofs.pass_listed.Given as goal

abbrev pub invariant-loop-i : goal.invariant-loop-i
invariant-loop-i l = Walked (state_of l.memory.tables.now l.memory.arena.now) l.initial.here.row l.list l.i l.here
