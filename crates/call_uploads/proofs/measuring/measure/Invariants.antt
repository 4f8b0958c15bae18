-- `call_uploads::measuring::measure` meets its contract. The invariant: the uploads passed are measured, and those that have a record noted. Assumes nothing.
use mathlib.Core.Path.{◌≡◌}
use lib.ListN.{length}
use Rattle.mem_layout.specs.Memory.{state_of}
use Rattle.call_uploads.specs.Notes.{AllNoted}
use Rattle.call_uploads.proofs.Measured.{Measured}
use Rattle.call_uploads.proofs.measuring.measure.Given as goal

abbrev pub invariant-loop-i : goal.invariant-loop-i
invariant-loop-i l =
    Measured (state_of l.memory.whole.tables.now l.memory.whole.arena.now) l.prefix l.i l.here l.records l.bytes
    × AllNoted (state_of l.memory.whole.tables.now l.memory.whole.arena.now) l.prefix l.notes l.records
    × (length l.notes ≡ length l.initial.notes)
