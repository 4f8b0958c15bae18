-- `names_ascii::short_at` meets its contract: after a first byte that is no "/", the bytes are clean as a block of them is. Assumes nothing.
use Prim.Native.Nat.{ℕ, ◌+◌, ◌-◌}
use mathlib.Core.Path.{◌≡◌, sym, ap, ◌∙◌}
use native.Mathlib.Omega.{arith}
use borrow.Author.Tests.{eq-eqb}
use lib.ListN.{get_or}
use Rattle.names_ascii.specs.Faults.{run}
use Rattle.names_ascii.proofs.BlockLaws.{path-run, slash-first}
use Rattle.names_ascii.proofs.short_at.Goals as goal

pub returns-else-t-from-ne47 : goal.returns-else-t-from-ne47
returns-else-t-from-ne47 c =
    let a = c.args in
    rw (eq-eqb (get_or a.t.now a.from 0) 47 c.if-t-from-ne47.false) (sym (slash-first a.t.now a.from a.to (omega arith) (omega arith) c.if-t-from-ne47.false))

pub returns-then-t-from-ne47 : goal.returns-then-t-from-ne47
returns-then-t-from-ne47 c =
    let a = c.args in
    let e : a.to - (a.to - a.from + 1) ≡ a.from - 1 = omega arith in
    c.block.ensures.0
    ∙ ap (λ (i : ℕ). run a.t.now i a.to) e
    ∙ path-run a.t.now a.from a.to (omega arith) (omega arith) (omega arith) c.if-t-from-ne47.true
