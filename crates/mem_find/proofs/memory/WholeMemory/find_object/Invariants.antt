-- `mem_find::objects::WholeMemory::find_object` meets its contract. The invariant: the paths of the rows passed are below the path. Assumes nothing.
use Rattle.mem_layout.specs.Memory.{state_of}
use Rattle.mem_find.specs.Places.{Passed}
use Rattle.mem_find.proofs.memory.WholeMemory.find_object.Given as goal

abbrev pub invariant-loop-i : goal.invariant-loop-i
invariant-loop-i l = Passed (state_of l.self.tables.now l.self.arena.now) l.path l.i l.at l.base
