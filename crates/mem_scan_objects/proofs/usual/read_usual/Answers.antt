-- `mem_scan_objects::usual::read_usual` meets its contract: a row without pairs ends where its path ends. Assumes nothing.
use native.Mathlib.Omega.{arith}
use Rattle.mem_scan_rows.proofs.Readings.{row_fits}
use Rattle.mem_scan_objects.proofs.usual.read_usual.Goals as goal

pub returns-clause-usual : goal.returns-clause-usual
returns-clause-usual c =
    let a = c.args in
    let r = c.read_head-h in
    (row_fits a.t.now a.at a.arena.now a.base r.result r.ensures (omega arith) (omega arith), omega arith)
