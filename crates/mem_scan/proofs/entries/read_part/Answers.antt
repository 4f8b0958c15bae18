-- `mem_scan::entries::read_part` meets its contract: a part's row is its head alone, so it fits where that does. Assumes nothing.
use mathlib.Core.Path.{ap, refl}
use mathlib.Core.Bool.{not}
use native.Mathlib.Omega.{arith}
use Rattle.machine.proofs.Tests.{said-yes}
use Rattle.mem_scan.proofs.Readings.{part-fits}
use Rattle.mem_scan.proofs.entries.read_part.Goals as goal

pub returns-clause-part : goal.returns-clause-part
returns-clause-part c =
    let a = c.args in
    part-fits a.m _ (said-yes c.part_ok.ensures (ap not c.if-not-part_ok.false)) a.t.now a.at a.arena.now a.base c.read_head-h.ensures (omega arith) (omega arith) _ refl
