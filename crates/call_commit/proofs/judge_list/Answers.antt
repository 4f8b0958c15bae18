-- `call_commit::judge_list` meets its contract. In order it fits. The invariant of other lists: the first i numbers fit. Assumes nothing.
use mathlib.Core.Path.{◌≡◌, sym, ap, ◌∙◌, subst}
use mathlib.Core.Bool.{not}
use native.Mathlib.Omega.{arith}
use borrow.Author.Tests.{not-true, not-false}
use Rattle.machine.specs.Map.{by_number, lookup}
use Rattle.mem_layout.specs.Memory.{state_of}
use Rattle.mem_find.proofs.Found.{is-some}
use Rattle.mem_find_uploads.proofs.Answers.{open-row-place, first-part-row, parts-row-place}
use Rattle.call_commit.proofs.Fitting.{unfit-number, Passed, passed_none, passed-next, unfit-list, ordered-list, fit-list, count-few, first-is, parts_are, parts-counted}
use Rattle.call_commit.proofs.Ordered.{reached-after, reached-row-place, ordered-numbers}
use Rattle.call_commit.proofs.judge_list.Goals as goal

pub next_row-first-requires : goal.next_row-first-requires
next_row-first-requires c =
    let o = c.requires.1 in
    open-row-place (state_of c.args.memory.tables.now c.args.memory.arena.now) o.0 c.args.here o.1 o.2

pub pass_listed-reached-requires : goal.pass_listed-reached-requires
pass_listed-reached-requires c =
    let a = c.args in
    let s = state_of a.memory.tables.now a.memory.arena.now in
    let o = c.requires.1 in
    parts-row-place s o.0 c.next_row-first.result (first-part-row s o.0 a.here c.next_row-first.result o.1 c.next_row-first.ensures) o.2

pub pass_parts_from-parts-requires : goal.pass_parts_from-parts-requires
pass_parts_from-parts-requires c =
    let a = c.args in
    let s = state_of a.memory.tables.now a.memory.arena.now in
    let r = c.pass_listed-reached in
    let o = c.requires.1 in
    let x = is-some (lookup by_number o.0 s.U) o.2 in
    let q = first-is a.memory.tables.now a.memory.arena.now a.here c.next_row-first.result c.next_row-first.ensures a.list.now r.result r.ensures o.0 o.1 in
    (reached-row-place s o.0 x.0 x.1 c.next_row-first.result q a.list.now r.result r.ensures, reached-after s o.0 x.0 x.1 c.next_row-first.result q a.list.now r.result r.ensures)

pub overflow_mul-count : goal.overflow_mul-count
overflow_mul-count c =
    let a = c.args in
    let s = state_of a.memory.tables.now a.memory.arena.now in
    let r = c.pass_listed-reached in
    let p = c.pass_parts_from-parts in
    let o = c.requires.1 in
    omega (arith, count-few a.memory.tables.now a.memory.arena.now c.args.memory.bytes c.args.memory.is_whole o.0 p.result.count o.2 (λ x e. parts-counted a.memory.tables.now a.memory.arena.now a.here c.next_row-first.result c.next_row-first.ensures a.list.now r.result r.ensures p.result p.ensures o.0 x o.1 e))

pub returns-then-list-count-clause-unfit : goal.returns-then-list-count-clause-unfit
returns-then-list-count-clause-unfit c v x q e =
    let a = c.args in
    let s = state_of a.memory.tables.now a.memory.arena.now in
    let r = c.pass_listed-reached in
    let p = c.pass_parts_from-parts in
    sym (unfit-list a.memory.tables.now a.memory.arena.now c.args.memory.bytes c.args.memory.is_whole v p.result.count x e (parts-counted a.memory.tables.now a.memory.arena.now a.here c.next_row-first.result c.next_row-first.ensures a.list.now r.result r.ensures p.result p.ensures v x q e) a.list.now (omega (arith, c.if-list-count.true)))

pub returns-then-reached-next-clause-fits : goal.returns-then-reached-next-clause-fits
returns-then-reached-next-clause-fits c v x q e =
    let a = c.args in
    let s = state_of a.memory.tables.now a.memory.arena.now in
    let r = c.pass_listed-reached in
    let p = c.pass_parts_from-parts in
    sym (ordered-list a.memory.tables.now a.memory.arena.now c.args.memory.bytes c.args.memory.is_whole v p.result.count x e (parts-counted a.memory.tables.now a.memory.arena.now a.here c.next_row-first.result c.next_row-first.ensures a.list.now r.result r.ensures p.result p.ensures v x q e) c.next_row-first.result (first-is a.memory.tables.now a.memory.arena.now a.here c.next_row-first.result c.next_row-first.ensures a.list.now r.result r.ensures v q) a.list.now r.result r.ensures p.result (parts_are a.memory.tables.now a.memory.arena.now a.here c.next_row-first.result c.next_row-first.ensures a.list.now r.result r.ensures p.result p.ensures v x q e) c.if-reached-next.true (omega arith))

pub returns-then-reached-next-clause-ordered : goal.returns-then-reached-next-clause-ordered
returns-then-reached-next-clause-ordered c v x q e =
    let a = c.args in
    let s = state_of a.memory.tables.now a.memory.arena.now in
    let r = c.pass_listed-reached in
    let p = c.pass_parts_from-parts in
    let counted = parts-counted a.memory.tables.now a.memory.arena.now a.here c.next_row-first.result c.next_row-first.ensures a.list.now r.result r.ensures p.result p.ensures v x q e in
    λ z. ordered-numbers s v x e c.next_row-first.result (first-is a.memory.tables.now a.memory.arena.now a.here c.next_row-first.result c.next_row-first.ensures a.list.now r.result r.ensures v q) a.list.now r.result r.ensures p.result (parts_are a.memory.tables.now a.memory.arena.now a.here c.next_row-first.result c.next_row-first.ensures a.list.now r.result r.ensures p.result p.ensures v x q e) c.if-reached-next.true (omega (arith, counted))

pub returns-then-reached-next-clause-passed : goal.returns-then-reached-next-clause-passed
returns-then-reached-next-clause-passed c v x q e =
    let a = c.args in
    let s = state_of a.memory.tables.now a.memory.arena.now in
    let r = c.pass_listed-reached in
    let p = c.pass_parts_from-parts in
    parts_are a.memory.tables.now a.memory.arena.now a.here c.next_row-first.result c.next_row-first.ensures a.list.now r.result r.ensures p.result p.ensures v x q e

pub loop-i-init : goal.loop-i-init
loop-i-init c = λ v x q e. passed_none x.parts c.args.list.now

pub number_fits-requires : goal.number_fits-requires
number_fits-requires c =
    let a = c.args in
    let s = state_of a.memory.tables.now a.memory.arena.now in
    let o = c.requires.1 in (
      parts-row-place s o.0 c.next_row-first.result (first-part-row s o.0 a.here c.next_row-first.result o.1 c.next_row-first.ensures) o.2,
      omega arith,
    )

pub returns-then-not-number_fits-clause-unfit : goal.returns-then-not-number_fits-clause-unfit
returns-then-not-number_fits-clause-unfit c v x q e =
    let a = c.args in
    let s = state_of a.memory.tables.now a.memory.arena.now in
    let r = c.pass_listed-reached in
    sym (unfit-number x.parts a.list.now c.loop-i.i (omega arith) (sym (c.number_fits.ensures v x (first-is a.memory.tables.now a.memory.arena.now a.here c.next_row-first.result c.next_row-first.ensures a.list.now r.result r.ensures v q) e) ∙ not-true _ (ap not c.if-not-number_fits.true)))

pub loop-i-preserved : goal.loop-i-preserved
loop-i-preserved c v x q e =
    passed-next x.parts c.args.list.now c.loop-i.i (omega arith) (c.loop-i.invariant v x q e) (sym (c.number_fits.ensures v x q e) ∙ not-false _ (ap not c.if-not-number_fits.false))

pub returns-clause-fits : goal.returns-clause-fits
returns-clause-fits c v x q e =
    let a = c.args in
    let s = state_of a.memory.tables.now a.memory.arena.now in
    let r = c.pass_listed-reached in
    let p = c.pass_parts_from-parts in
    let end : c.loop-i.i ≡ p.result.count = omega arith in
    sym (fit-list a.memory.tables.now a.memory.arena.now c.args.memory.bytes c.args.memory.is_whole v p.result.count x e (parts-counted a.memory.tables.now a.memory.arena.now a.here c.next_row-first.result c.next_row-first.ensures a.list.now r.result r.ensures p.result p.ensures v x q e) a.list.now (omega arith) (subst (Passed x.parts a.list.now) end (c.loop-i.invariant v x (first-is a.memory.tables.now a.memory.arena.now a.here c.next_row-first.result c.next_row-first.ensures a.list.now r.result r.ensures v q) e)))

pub returns-clause-passed : goal.returns-clause-passed
returns-clause-passed c v x q e =
    let a = c.args in
    let s = state_of a.memory.tables.now a.memory.arena.now in
    let r = c.pass_listed-reached in
    let p = c.pass_parts_from-parts in
    parts_are a.memory.tables.now a.memory.arena.now a.here c.next_row-first.result c.next_row-first.ensures a.list.now r.result r.ensures p.result p.ensures v x q e
