-- `call_copy::copy_judge` meets its contract: stamp and paths, then the source. Assumes nothing.
use mathlib.Core.Path.{◌≡◌, ap}
use mathlib.Core.Bool.{not, false, ◌&&◌}
use Rattle.machine.specs.Names.{stamp_ok, request_path_ok, new_path_ok}
use Rattle.machine.proofs.Tests.{said-no, said-yes}
use Rattle.call_contract.specs.Made.{memory}
use Rattle.call_copy.proofs.Sources.{copy-bad, copy-judged}
use Rattle.call_copy.proofs.copy_judge.Goals as goal
use Rattle.call_copy.proofs.copy_judge.Goals.{then-not-stamp_ok-via-then-not-stamp_ok, then-not-stamp_ok-via-else-not-stamp_ok+then-not-request_path_ok, then-not-stamp_ok-via-else-not-stamp_ok+else-not-request_path_ok+then-not-new_path_ok}

pub returns-then-not-stamp_ok-clause-judged : goal.returns-then-not-stamp_ok-clause-judged
returns-then-not-stamp_ok-clause-judged c =
    let a = c.args in
    let bad : (stamp_ok a.stamp.0 && request_path_ok a.source.now && new_path_ok a.destination.now) ≡ false = elim c.then-not-stamp_ok.branch [
      | then-not-stamp_ok-via-then-not-stamp_ok w ↦ rw (said-no c.stamp_ok.ensures (ap not w.if-not-stamp_ok.true))
      | then-not-stamp_ok-via-else-not-stamp_ok+then-not-request_path_ok w ↦ rw (said-yes c.stamp_ok.ensures (ap not w.if-not-stamp_ok.false), said-no w.request_path_ok.ensures (ap not w.if-not-request_path_ok.true))
      | then-not-stamp_ok-via-else-not-stamp_ok+else-not-request_path_ok+then-not-new_path_ok w ↦ rw (said-yes c.stamp_ok.ensures (ap not w.if-not-stamp_ok.false), said-yes w.request_path_ok.ensures (ap not w.if-not-request_path_ok.false), said-no w.new_path_ok.ensures (ap not w.if-not-new_path_ok.true))
    ] in
    copy-bad (memory a.memory.whole.tables.now a.memory.whole.arena.now) a.stamp.0 a.source.now a.destination.now bad

pub returns-clause-judged : goal.returns-clause-judged
returns-clause-judged c =
    let a = c.args in
    copy-judged (memory a.memory.whole.tables.now a.memory.whole.arena.now) a.stamp.0 a.source.now a.destination.now (said-yes c.stamp_ok.ensures (ap not c.if-not-stamp_ok.false)) (said-yes c.request_path_ok.ensures (ap not c.if-not-request_path_ok.false)) (said-yes c.new_path_ok.ensures (ap not c.if-not-new_path_ok.false)) _
    c.source_judge.ensures.judged
