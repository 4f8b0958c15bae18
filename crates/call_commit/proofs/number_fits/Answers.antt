-- `call_commit::number_fits` meets its contract: no part has the number, or one before it is the same, or it fits. Assumes nothing.
use mathlib.Core.Path.{◌∙◌}
use Rattle.mem_layout.specs.Memory.{state_of}
use Rattle.call_commit.proofs.Fitting.{number-absent, number-there}
use Rattle.call_commit.proofs.number_fits.Goals as goal

pub returns-then-place : goal.returns-then-place
returns-then-place c =
    let a = c.args in
    let g = c.get_u16-number in
    let f = c.find_part_from-place in
    let l = c.is_listed_before in
    λ u x p e. number-there (state_of a.memory.tables.now a.memory.arena.now) u x a.list.now a.i g.result g.ensures f.result (f.ensures u x p e) c.if-place.true l.result l.ensures

pub returns-else-place : goal.returns-else-place
returns-else-place c =
    let a = c.args in
    let g = c.get_u16-number in
    let f = c.find_part_from-place in
    λ u x p e. c.if-place.false ∙ number-absent (state_of a.memory.tables.now a.memory.arena.now) u x a.list.now a.i g.result g.ensures f.result (f.ensures u x p e) c.if-place.false
