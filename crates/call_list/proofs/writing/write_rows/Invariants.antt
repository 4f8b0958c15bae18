-- `call_list::writing::write_rows` meets its contract. The invariant: the first i records stand at the front. Assumes nothing.
use Rattle.mem_layout.specs.Memory.{state_of}
use Rattle.call_list.proofs.Places.{Put}
use Rattle.call_list.proofs.writing.write_rows.Given as goal

abbrev pub invariant-loop-i : goal.invariant-loop-i
invariant-loop-i l = Put (state_of l.memory.tables.now l.memory.arena.now) l.prefix l.suffix l.initial.answer l.answer l.i l.to
