-- `call_fresh::fresh` meets its contract: two lengths, then the header. Assumes nothing.
use Rattle.call_fresh.proofs.Freshness.{other-tables, large-arena, made-fresh}
use Rattle.call_fresh.proofs.fresh.Goals as goal

pub returns-then-tables-ne-TABLES_LENGTH : goal.returns-then-tables-ne-TABLES_LENGTH
returns-then-tables-ne-TABLES_LENGTH c =
    let a = c.args in
    other-tables a.tables.now a.arena.now c.if-tables-ne-TABLES_LENGTH.true

pub returns-then-arena-gt-ARENA_MOST : goal.returns-then-arena-gt-ARENA_MOST
returns-then-arena-gt-ARENA_MOST c =
    let a = c.args in
    large-arena a.tables.now a.arena.now c.if-tables-ne-TABLES_LENGTH.false c.if-arena-gt-ARENA_MOST.true

pub returns : goal.returns
returns c =
    let a = c.args in
    let w = c.write_header in
    made-fresh a.tables.now a.arena.now c.if-tables-ne-TABLES_LENGTH.false c.if-arena-gt-ARENA_MOST.false w.new.tables w.auto.tables w.ensures
