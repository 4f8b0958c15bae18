-- `call_carry_over::carry_over` meets its contract: a length, the former test, and a copy. Assumes nothing.
use mathlib.Core.Path.{ap}
use mathlib.Core.Bool.{not}
use Rattle.machine.proofs.Tests.{said-no, said-yes}
use Rattle.call_carry_over.proofs.Carrying.{other_length, not-whole, former-fits, carried-over}
use Rattle.call_carry_over.proofs.carry_over.Goals as goal
use Rattle.call_carry_over.proofs.carry_over.Goals.{then-tables-ne-TABLES_LENGTH-via-then-tables-ne-TABLES_LENGTH, then-tables-ne-TABLES_LENGTH-via-else-tables-ne-TABLES_LENGTH+then-not-whole_of}

pub returns-then-tables-ne-TABLES_LENGTH : goal.returns-then-tables-ne-TABLES_LENGTH
returns-then-tables-ne-TABLES_LENGTH c =
    let a = c.args in
    elim c.then-tables-ne-TABLES_LENGTH.branch [
      | then-tables-ne-TABLES_LENGTH-via-then-tables-ne-TABLES_LENGTH w ↦ other_length a.former.now a.arena.now a.tables.now w.if-tables-ne-TABLES_LENGTH.true
      | then-tables-ne-TABLES_LENGTH-via-else-tables-ne-TABLES_LENGTH+then-not-whole_of w ↦ not-whole a.former.now a.arena.now a.tables.now w.if-tables-ne-TABLES_LENGTH.false (said-no w.whole_of.ensures (ap not w.if-not-whole_of.true))
    ]

pub copy_at-requires : goal.copy_at-requires
copy_at-requires c = let a = c.args in former-fits a.former.now a.arena.now a.tables.now c.if-tables-ne-TABLES_LENGTH.false (λ j. (c.type_inv.former j).fits) (said-yes c.whole_of.ensures (ap not c.if-not-whole_of.false))

pub returns : goal.returns
returns c =
    let a = c.args in
    let f = c.copy_at in
    carried-over a.former.now a.arena.now a.tables.now c.if-tables-ne-TABLES_LENGTH.false (λ j. (c.type_inv.former j).fits) (said-yes c.whole_of.ensures (ap not c.if-not-whole_of.false)) f.new.dst f.ensures f.auto.dst
