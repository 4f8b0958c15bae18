-- `mem_find_uploads::search::seek` meets its contract: it stops at a row where the test says so, or at the end. Assumes nothing.
use Prim.Native.Nat.{◌+◌}
use mathlib.Core.Path.{◌≡◌, sym, ap, ◌∙◌}
use native.Mathlib.Omega.{arith}
use Rattle.mem_find.specs.declared.RowPlace.{RowPlace}
use Rattle.mem_find.specs.Known.{rows_in}
use Rattle.mem_find.specs.RowPlaces.{row_place_at}
use Rattle.mem_find_uploads.specs.Search.{sought}
use Rattle.mem_find_uploads.proofs.Walk.{sought-end, sought-here, sought-on}
use Rattle.mem_find_uploads.proofs.search.seek.Goals as goal

pub returns-then-stops : goal.returns-then-stops
returns-then-stops g c x says =
    let h = c.row_head.result in
    let stops = sought-here x _ c.loop-here.here h c.row_head.ensures.row (sym (says h c.stops.result c.stops.ensures) ∙ c.if-stops.true) in
    c.loop-here.invariant.0.0 ∙ sym (c.pass_rows-here.ensures.same x says ∙ c.loop-here.invariant.1 x says ∙ stops)

pub loop-here-preserved : goal.loop-here-preserved
unfolding row_place_at
loop-here-preserved g c =
    let here = c.loop-here.here in
    let h = c.row_head.result in
    let number : c.next_row-next.result.row ≡ here.row + 1 = ap (λ (p : RowPlace). p.row) c.next_row-next.ensures in (
      c.pass_rows-here-in-loop-here.ensures.place,
      λ x says.
          c.loop-here.invariant.1 x says
          ∙ sought-on x _ here h c.row_head.ensures.row (sym (says h c.stops.result c.stops.ensures) ∙ c.if-stops.false)
          ∙ ap (sought x (rows_in c.args.memory.tables.now c.args.memory.arena.now)) (sym number)
          ∙ c.pass_rows-here-in-loop-here.ensures.same x says,
    )

pub returns : goal.returns
returns g c x says =
    c.loop-here.invariant.0.0
    ∙ sym (c.pass_rows-here.ensures.same x says ∙ c.loop-here.invariant.1 x says ∙ sought-end x _ _ (omega (arith, c.counts-rows.ensures.rows, c.loop-here-test.false)))
