-- `mem_find_uploads::search::pass_rows` meets its contract: a row without pairs ends where its path ends. Assumes nothing.
use Prim.Native.Nat.{◌+◌}
use mathlib.Core.Path.{◌≡◌, sym, ◌∙◌}
use native.Mathlib.Omega.{arith}
use Rattle.mem_row.specs.Row.{head_length, span}
use Rattle.mem_find_uploads.proofs.Walk.{sought-on}
use Rattle.mem_find_uploads.proofs.search.pass_rows.Goals as goal

pub loop-here-preserved : goal.loop-here-preserved
loop-here-preserved g c =
    let here = c.loop-here.here in
    let h = c.row_head-h.result in
    let told = c.row_head-h.ensures.row in
    let next : here.at + (head_length + h.pathlen) ≡ here.at + span h = omega arith in (
      (rw next told.next, omega (arith, c.counts-rows.ensures.rows, c.loop-here-test.true)),
      λ x says. c.loop-here.invariant.1 x says ∙ sought-on x _ here h told (sym (says h c.stops.result c.stops.ensures) ∙ c.if-stops.false),
      omega arith,
    )
