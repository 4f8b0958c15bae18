-- `call_delete_objects::place::delete_place` meets its contract: outside the names, or the DELETE of the path there. Assumes nothing.
use mathlib.Core.Path.{refl}
use Rattle.call_contract.specs.Answers.{name_place}
use Rattle.call_contract.specs.Made.{memory}
use Rattle.call_delete_objects.proofs.OnePlace.{outside, inside}
use Rattle.call_delete_objects.proofs.place.delete_place.Goals as goal

pub returns-then-names-to : goal.returns-then-names-to
returns-then-names-to c =
    let a = c.args in
    rw c.from.ensures (outside (memory a.tables.now a.arena.now) (λ j. (c.slice_known-1.given j).fits) c.requires a.names.now (name_place a.place) c.if-names-to.true)

pub returns-in-Ok : goal.returns-in-Ok
returns-in-Ok c =
    let a = c.args in
    inside (memory a.tables.now a.arena.now) (λ j. (c.slice_known-1.given j).fits) c.requires a.names.now (name_place a.place) _ refl c.if-names-to.false
    _ c.in-Ok.ensures 0 refl

pub returns-in-Err : goal.returns-in-Err
returns-in-Err c =
    let a = c.args in
    inside (memory a.tables.now a.arena.now) (λ j. (c.slice_known-1.given j).fits) c.requires a.names.now (name_place a.place) _ refl c.if-names-to.false
    _ c.in-Err.ensures _ c.from-in-Err.ensures
