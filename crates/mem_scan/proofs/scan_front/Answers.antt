-- `mem_scan::scan_front` meets its contract: the header, then the rows of objects. Assumes nothing.
use mathlib.Core.Path.{ap}
use mathlib.Core.Bool.{not}
use Rattle.mem_scan.proofs.Ends.{too_short, header-bad, header-good}
use Rattle.mem_scan.proofs.scan_front.Goals as goal

pub returns-then-tables-lt-HEADER_LENGTH : goal.returns-then-tables-lt-HEADER_LENGTH
returns-then-tables-lt-HEADER_LENGTH c = let a = c.args in too_short a.length a.most a.tables.now a.arena.now c.if-tables-lt-HEADER_LENGTH.true c.requires

pub returns-then-not-header_ok : goal.returns-then-not-header_ok
returns-then-not-header_ok c = let a = c.args in header-bad a.length a.most a.tables.now a.arena.now _ c.read_header-h.ensures _ c.header_ok.ensures (ap not c.if-not-header_ok.true)

pub returns : goal.returns
returns c = let a = c.args in header-good a.length a.most a.tables.now a.arena.now _ c.read_header-h.ensures _ c.header_ok.ensures (ap not c.if-not-header_ok.false) _ c.scan_objects.ensures
