-- `names_utf8::path` meets its contract. The invariant: what is left, after `before`, is well formed and parted just where all is.
-- Assumes nothing.
use mathlib.Core.Path.{refl, sym, ◌∙◌}
use native.Mathlib.Omega.{arith}
use Rattle.names_utf8.proofs.PathLaws.{by_parts, letter-none, letter-doubled, letter-passed, letters-end}
use Rattle.names_utf8.proofs.path.Goals as goal

pub loop-i-init : goal.loop-i-init
loop-i-init c = (refl, omega arith)

pub returns-in_default : goal.returns-in_default
returns-in_default c =
    let p = c.args.p.now in
    sym (by_parts p (omega arith) (omega arith) ∙ c.loop-i.invariant.0 ∙ letter-none p c.loop-i.i c.loop-i.before 0 c.in_default.ensures refl)

pub returns-then-doubled : goal.returns-then-doubled
returns-then-doubled c =
    let p = c.args.p.now in
    let w = c.in-Some in
    sym (by_parts p (omega arith) (omega arith)
    ∙ c.loop-i.invariant.0
    ∙ letter-doubled p c.loop-i.i c.loop-i.before w.w w.ensures.1 w.ensures.0 (sym c.doubled.ensures ∙ c.if-doubled.true))

pub overflow_add-i : goal.overflow_add-i
overflow_add-i c = let w = c.in-Some in omega (arith, w.ensures.1.inside)

pub loop-i-smaller : goal.loop-i-smaller
loop-i-smaller c = let w = c.in-Some in omega (arith, w.ensures.0, w.ensures.1.inside)

pub loop-i-preserved : goal.loop-i-preserved
loop-i-preserved c =
    let p = c.args.p.now in
    let w = c.in-Some in (
      c.loop-i.invariant.0 ∙ letter-passed p c.loop-i.i c.loop-i.before w.w w.ensures.1 w.ensures.0 (sym c.doubled.ensures ∙ c.if-doubled.false),
      w.ensures.1.inside,
    )

pub returns : goal.returns
returns c =
    let p = c.args.p.now in
    sym (by_parts p (omega arith) (omega arith) ∙ c.loop-i.invariant.0 ∙ letters-end p c.loop-i.i c.loop-i.before c.loop-i-test.false)
