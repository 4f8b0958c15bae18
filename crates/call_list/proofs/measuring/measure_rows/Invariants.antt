-- `call_list::measuring::measure_rows` meets its contract. The invariant: the records and bytes of the objects passed. Assumes nothing.
use mathlib.Core.Path.{◌≡◌}
use lib.ListN.{length}
use Rattle.mem_layout.specs.Memory.{state_of}
use Rattle.call_list.specs.Rows.{AllListed}
use Rattle.call_list.proofs.ObjectRows.{Walked}
use Rattle.call_list.proofs.measuring.measure_rows.Given as goal

abbrev pub invariant-loop-i : goal.invariant-loop-i
invariant-loop-i l =
    Walked (state_of l.memory.tables.now l.memory.arena.now) l.prefix l.suffix l.i l.at l.records l.bytes
    × AllListed (state_of l.memory.tables.now l.memory.arena.now) l.prefix l.suffix l.places l.records
    × (length l.places ≡ length l.initial.places)
