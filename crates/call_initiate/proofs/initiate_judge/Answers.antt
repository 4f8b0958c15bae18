-- `call_initiate::initiate_judge` meets its contract: stamp, path and pairs, then the ceilings. Assumes nothing.
use mathlib.Core.Path.{ap, ◌≡◌}
use mathlib.Core.Bool.{not, false, ◌&&◌}
use Rattle.machine.proofs.Tests.{said-no, said-yes}
use Rattle.machine.specs.Names.{stamp_ok, new_path_ok}
use Rattle.machine.specs.Pairs.{pairs_ok, pair_list}
use Rattle.call_contract.specs.Made.{memory}
use Rattle.call_initiate.proofs.Initiating.{bad, initiate-judged}
use Rattle.call_initiate.proofs.initiate_judge.Goals as goal
use Rattle.call_initiate.proofs.initiate_judge.Goals.{then-not-stamp_ok-via-then-not-stamp_ok, then-not-stamp_ok-via-else-not-stamp_ok+then-not-new_path_ok, then-not-stamp_ok-via-else-not-stamp_ok+else-not-new_path_ok+then-not-judge}

pub returns-then-not-stamp_ok-clause-judged : goal.returns-then-not-stamp_ok-clause-judged
returns-then-not-stamp_ok-clause-judged c =
    let a = c.args in
    let not-taken : (stamp_ok a.stamp.0 && new_path_ok a.path.now && pairs_ok (pair_list a.pairs.now)) ≡ false = elim c.then-not-stamp_ok.branch [
      | then-not-stamp_ok-via-then-not-stamp_ok w ↦ rw (said-no c.stamp_ok.ensures (ap not w.if-not-stamp_ok.true))
      | then-not-stamp_ok-via-else-not-stamp_ok+then-not-new_path_ok w ↦ rw (said-yes c.stamp_ok.ensures (ap not w.if-not-stamp_ok.false), said-no w.new_path_ok.ensures (ap not w.if-not-new_path_ok.true))
      | then-not-stamp_ok-via-else-not-stamp_ok+else-not-new_path_ok+then-not-judge w ↦ rw (said-yes c.stamp_ok.ensures (ap not w.if-not-stamp_ok.false), said-yes w.new_path_ok.ensures (ap not w.if-not-new_path_ok.false), said-no w.judge.ensures (ap not w.if-not-judge.true))
    ] in
    bad (memory a.memory.whole.tables.now a.memory.whole.arena.now) a.stamp.0 a.path.now (pair_list a.pairs.now) not-taken

pub returns-clause-judged : goal.returns-clause-judged
returns-clause-judged c =
    let a = c.args in
    initiate-judged (memory a.memory.whole.tables.now a.memory.whole.arena.now) a.stamp.0 a.path.now (pair_list a.pairs.now) (said-yes c.stamp_ok.ensures (ap not c.if-not-stamp_ok.false)) (said-yes c.new_path_ok.ensures (ap not c.if-not-new_path_ok.false)) (said-yes c.judge.ensures (ap not c.if-not-judge.false)) _
    (c.initiate_room.ensures.judged a.stamp.0 a.path.now)
