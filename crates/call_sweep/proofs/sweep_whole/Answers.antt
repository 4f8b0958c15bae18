-- `call_sweep::sweep_whole` meets its contract. The invariant: so many ABORTs are made, a sweep of the rest leaves what the whole sweep leaves, and
-- the first row that is due is here. Assumes nothing.
use Rattle.mem_layout.proofs.StandsLaws.{stands-whole}
use Rattle.call_contract.specs.Made.{memory}
use Rattle.call_sweep.proofs.Sweeping.{First, first-place, start, one-due, open-here, place-there, turn, none-due, most-done}
use Rattle.call_sweep.proofs.sweep_whole.Goals as goal

pub find_due-here-requires : goal.find_due-here-requires
find_due-here-requires c =
    let m = c.of-memory.result.whole in
    first-place (memory m.tables.now m.arena.now) c.first_upload-first.result c.first_upload-first.ensures

pub loop-here-init : goal.loop-here-init
loop-here-init c =
    let o = c.of-memory.ensures in
    let m = c.of-memory.result.whole in
    let started = start c.args.stamp c.args.most (memory m.tables.now m.arena.now) m.bytes m.is_whole _ _ _ c.first_upload-first.ensures c.find_due-here.ensures c.rows_end-end.ensures in
    rw (o.tables, o.arena) at started

pub returns-then-count-most : goal.returns-then-count-most
returns-then-count-most c = most-done _ _ _ _ _ _ _ c.loop-here.invariant c.if-count-most.true c.loop-here-test.true

pub remove_upload-end-requires : goal.remove_upload-end-requires
remove_upload-end-requires c =
    let g = c.loop-here.invariant in
    (open-here _ _ _ _ _ _ _ g (one-due _ _ _ _ _ _ _ g c.loop-here-test.true), g.last)

pub of-requires : goal.of-requires
of-requires c =
    let f : First _ _ _ _ _ _ _ c.loop-here.invariant = one-due _ _ _ _ _ _ _ c.loop-here.invariant c.loop-here-test.true in
    stands-whole _ _ _ (c.remove_upload-end.ensures.0 f.number f.upload f.place f.is_open)

pub find_due-here-requires-in-loop-here : goal.find_due-here-requires-in-loop-here
find_due-here-requires-in-loop-here c =
    let f : First _ _ _ _ _ _ _ c.loop-here.invariant = one-due _ _ _ _ _ _ _ c.loop-here.invariant c.loop-here-test.true in
    let o = c.of.ensures in
    rw (o.tables, o.arena) (place-there _ _ _ _ _ _ _ c.loop-here.invariant f _ (c.remove_upload-end.ensures.0 f.number f.upload f.place f.is_open))

pub loop-here-preserved : goal.loop-here-preserved
loop-here-preserved c =
    let f : First _ _ _ _ _ _ _ c.loop-here.invariant = one-due _ _ _ _ _ _ _ c.loop-here.invariant c.loop-here-test.true in
    let o = c.of.ensures in
    let r = c.remove_upload-end in
    let found = rw (o.tables, o.arena) at c.find_due-here-in-loop-here.ensures in
    turn _ _ _ _ _ _ _ c.loop-here.invariant f _ (r.ensures.0 f.number f.upload f.place f.is_open) c.if-count-most.false _ _ found r.ensures.1 r.auto.tables r.auto.arena

pub returns : goal.returns
returns c = none-due _ _ _ _ _ _ _ c.loop-here.invariant c.loop-here-test.false
