-- `mem_find_uploads::search::pass_rows` meets its contract. The invariant: the search from here on ends where the whole search does. Assumes nothing.
use Prim.Native.Nat.{◌-◌, ◌≤◌}
use mathlib.Core.Path.{◌≡◌}
use mathlib.Core.Bool.{Bool}
use Rattle.mem_row.specs.declared.Head.{Head}
use Rattle.mem_layout.specs.Memory.{state_of, rows_of}
use Rattle.mem_find.specs.RowPlaces.{IsRowPlace}
use Rattle.mem_find_uploads.specs.Search.{Goal, sought, stops_at}
use Rattle.mem_find_uploads.proofs.search.pass_rows.Given as goal

abbrev pub invariant-loop-here : goal.invariant-loop-here
invariant-loop-here g l =
    IsRowPlace (rows_of (state_of l.memory.tables.now l.memory.arena.now)) l.here
    × ((x : Goal) → ((h : Head) (r : Bool) → g.F.Fn.post l.stops (h, tt) r → r ≡ stops_at x h)
    → sought x (rows_of (state_of l.memory.tables.now l.memory.arena.now)) l.initial.here.row ≡ sought x (rows_of (state_of l.memory.tables.now l.memory.arena.now)) l.here.row)
    × (l.initial.here.row ≤ l.here.row)

abbrev pub decreases-loop-here : goal.decreases-loop-here
decreases-loop-here g l = l.rows - l.here.row
