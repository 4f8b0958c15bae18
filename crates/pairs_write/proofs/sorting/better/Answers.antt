-- `pairs_write::sorting::better` meets its contract. Assumes nothing.
use mathlib.Core.Path.{sym}
use Rattle.pairs_write.proofs.Picking.{better-system, better-low, better-first, better-pick, better-at}
use Rattle.pairs_write.proofs.sorting.better.Goals.{then-system_key-via-then-system_key, then-system_key-via-else-system_key+then-not-is_below}
use Rattle.pairs_write.proofs.sorting.better.Goals as goal

pub returns-then-system_key : goal.returns-then-system_key
returns-then-system_key c =
    elim c.then-system_key.branch [
      | then-system_key-via-then-system_key w ↦
          better-system c.key-key.ensures c.requires.2 (sym w.if-system_key.ensures)
      | then-system_key-via-else-system_key+then-not-is_below w ↦
          better-low c.key-key.ensures (sym w.if-system_key.ensures) c.requires.2 (sym w.if-not-is_below.ensures)
    ]

pub returns-in-Some : goal.returns-in-Some
returns-in-Some c =
    better-pick c.key-key.ensures (sym c.if-system_key.ensures) (sym c.if-not-is_below.ensures) c.in-Some.is
    c.key.ensures c.requires.2 c.if-is_below.ensures

pub returns-in_default : goal.returns-in_default
returns-in_default c =
    better-at c.key-key.ensures (sym c.if-system_key.ensures) (sym c.if-not-is_below.ensures) c.in-Some.is
    c.key.ensures c.requires.0 c.requires.1 c.if-is_below.ensures

pub returns-in_default-2 : goal.returns-in_default-2
returns-in_default-2 c =
    better-first c.key-key.ensures (sym c.if-system_key.ensures) (sym c.if-not-is_below.ensures) c.requires.0
    c.requires.1 c.in_default.is
