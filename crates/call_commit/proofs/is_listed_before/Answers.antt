-- `call_commit::is_listed_before` meets its contract. The invariant: whether the number is one of the first k. Assumes nothing.
use Prim.Native.Nat.{◌+◌, ◌*◌, ◌≤◌}
use mathlib.Core.Path.{sym, ap, ◌∙◌}
use lib.ListN.{length}
use Rattle.machine.specs.ListFits.{member}
use Rattle.call_commit.proofs.Listing.{no_number, member-here, member-elsewhere}
use native.Mathlib.Omega.{arith}
use Rattle.call_commit.proofs.is_listed_before.Goals as goal
use Rattle.call_commit.proofs.is_listed_before.Goals.{then-get_u16-number, else-get_u16-number}

pub loop-k-init : goal.loop-k-init
loop-k-init c =
    let a = c.args in
    sym (ap (member a.number) (no_number a.list.now))

pub loop-k-preserved : goal.loop-k-preserved
loop-k-preserved c =
    let a = c.args in
    let l = c.loop-k in
    let g = c.get_u16 in
    let inside : 2 * l.k + 2 ≤ length a.list.now = omega arith in
    elim c.if-get_u16-number.branch [
      | then-get_u16-number w ↦ w.listed-is ∙ member-here a.list.now l.k inside a.number (sym g.ensures ∙ w.if-get_u16-number.true)
      | else-get_u16-number w ↦ member-elsewhere a.list.now l.k inside a.number c.if-get_u16-number.listed (w.listed-is ∙ l.invariant) (λ e. w.if-get_u16-number.false (g.ensures ∙ e))
    ]
