-- `call_put::put_judge` meets its contract: stamp, path and pairs, then the ceilings. Assumes nothing.
use Prim.Native.Nat.{ℕ, ◌+◌}
use mathlib.Core.Path.{◌≡◌, sym, ap, ◌∙◌}
use mathlib.Core.Bool.{not, false, ◌&&◌}
use native.Mathlib.Omega.{arith}
use lib.ListN.{length}
use Rattle.machine.specs.Names.{stamp_ok, new_path_ok}
use Rattle.machine.specs.Pairs.{pairs_ok, pair_map, pairs_held, pair_list}
use Rattle.machine.proofs.PairLaws.{formed-is, held-is, kept-held, taken-kept}
use Rattle.machine.proofs.Tests.{said-no, said-yes}
use Rattle.call_contract.specs.Made.{memory}
use Rattle.call_put.proofs.Putting.{put-bad, put-judged}
use Rattle.call_put.proofs.put_judge.Goals as goal
use Rattle.call_put.proofs.put_judge.Goals.{then-not-stamp_ok-via-then-not-stamp_ok, then-not-stamp_ok-via-else-not-stamp_ok+then-not-new_path_ok, then-not-stamp_ok-via-else-not-stamp_ok+else-not-new_path_ok+then-not-judge}

pub returns-then-not-stamp_ok-clause-judged : goal.returns-then-not-stamp_ok-clause-judged
returns-then-not-stamp_ok-clause-judged c =
    let a = c.args in
    let bad : (stamp_ok a.stamp.0 && new_path_ok a.path.now && pairs_ok (pair_list a.pairs.now)) ≡ false = elim c.then-not-stamp_ok.branch [
      | then-not-stamp_ok-via-then-not-stamp_ok w ↦ rw (said-no c.stamp_ok.ensures (ap not w.if-not-stamp_ok.true))
      | then-not-stamp_ok-via-else-not-stamp_ok+then-not-new_path_ok w ↦ rw (said-yes c.stamp_ok.ensures (ap not w.if-not-stamp_ok.false), said-no w.new_path_ok.ensures (ap not w.if-not-new_path_ok.true))
      | then-not-stamp_ok-via-else-not-stamp_ok+else-not-new_path_ok+then-not-judge w ↦ rw (said-yes c.stamp_ok.ensures (ap not w.if-not-stamp_ok.false), said-yes w.new_path_ok.ensures (ap not w.if-not-new_path_ok.false), said-no w.judge.ensures (ap not w.if-not-judge.true))
    ] in
    put-bad (memory a.memory.whole.tables.now a.memory.whole.arena.now) a.stamp.0 a.path.now a.content.now (pair_list a.pairs.now) bad

pub held-requires : goal.held-requires
held-requires c = formed-is _ (said-yes c.judge.ensures (ap not c.if-not-judge.false))

pub overflow_add-n : goal.overflow_add-n
overflow_add-n c =
    let taken = said-yes c.judge.ensures (ap not c.if-not-judge.false) in
    let ps = pair_list c.args.pairs.now in
    omega (arith, kept-held (pair_map ps) (taken-kept ps taken), c.held.ensures, held-is ps taken)

pub returns-clause-judged : goal.returns-clause-judged
returns-clause-judged c =
    let a = c.args in
    let ps = pair_list a.pairs.now in
    let taken = said-yes c.judge.ensures (ap not c.if-not-judge.false) in
    let held-there : c.held.result ≡ pairs_held (pair_map ps) = c.held.ensures ∙ sym (held-is ps taken) in
    put-judged (memory a.memory.whole.tables.now a.memory.whole.arena.now) a.stamp.0 a.path.now a.content.now ps (said-yes c.stamp_ok.ensures (ap not c.if-not-stamp_ok.false)) (said-yes c.new_path_ok.ensures (ap not c.if-not-new_path_ok.false)) taken _
    (c.object_judge.ensures.judged a.stamp.0 a.content.now (pair_map ps) (ap (λ (n : ℕ). n + length a.content.now) (sym held-there)))
