-- `mem_scan_rows::read_row` meets its contract: the tests are those of `inside`. Assumes nothing.
use Prim.Native.Nat.{◌-◌}
use mathlib.Core.Path.{◌≡◌, refl}
use mathlib.Core.Bool.{◌&&◌, cond}
use lib.Dec.{leb}
use lib.ListN.{length, drop}
use Rattle.machine.proofs.Tests.{tests}
use Rattle.mem_row.specs.Row.{head_length}
use Rattle.mem_scan_rows.specs.Scan.{reading_of}
use Rattle.mem_scan_rows.proofs.Readings.{reading-is}
use Rattle.mem_scan_rows.proofs.read_row.Goals as goal
use Rattle.std.specs.Prelude.{Option, Some, None}

pub returns-then-left-lt-HEAD_LENGTH-clause-reading : goal.returns-then-left-lt-HEAD_LENGTH-clause-reading
returns-then-left-lt-HEAD_LENGTH-clause-reading c = let a = c.args in rw (reading-is a.t.now a.at a.arena.now a.base _ _ refl refl) (search tests)

pub returns-then-left-span-clause-reading : goal.returns-then-left-span-clause-reading
returns-then-left-span-clause-reading c =
    let reading : let a = c.args in
    let h = c.read_head-h.result in
    reading_of (drop a.at a.t.now) (drop a.base a.arena.now)
    ≡ cond (leb head_length (length a.t.now - a.at) && (leb c.span.result (length a.t.now - a.at) && leb h.size (length a.arena.now - a.base))) (Some h) None = let a = c.args in reading-is a.t.now a.at a.arena.now a.base c.read_head-h.result c.span.result c.read_head-h.ensures c.span.ensures in
    rw (reading) (search tests)

pub returns-then-arena-base-clause-reading : goal.returns-then-arena-base-clause-reading
returns-then-arena-base-clause-reading c =
    let reading : let a = c.args in
    let h = c.read_head-h.result in
    reading_of (drop a.at a.t.now) (drop a.base a.arena.now)
    ≡ cond (leb head_length (length a.t.now - a.at) && (leb c.span.result (length a.t.now - a.at) && leb h.size (length a.arena.now - a.base))) (Some h) None = let a = c.args in reading-is a.t.now a.at a.arena.now a.base c.read_head-h.result c.span.result c.read_head-h.ensures c.span.ensures in
    rw (reading) (search tests)

pub returns-clause-reading : goal.returns-clause-reading
returns-clause-reading c =
    let reading : let a = c.args in
    let h = c.read_head-h.result in
    reading_of (drop a.at a.t.now) (drop a.base a.arena.now)
    ≡ cond (leb head_length (length a.t.now - a.at) && (leb c.span.result (length a.t.now - a.at) && leb h.size (length a.arena.now - a.base))) (Some h) None = let a = c.args in reading-is a.t.now a.at a.arena.now a.base c.read_head-h.result c.span.result c.read_head-h.ensures c.span.ensures in
    rw (reading) (search tests)
