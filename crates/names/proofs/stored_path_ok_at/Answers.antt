-- `names::stored_path_ok_at` meets its contract: its length, then visible ASCII, then letters. Assumes nothing.
use Prim.Native.Nat.{◌-◌}
use mathlib.Core.Path.{◌≡◌, sym, ◌∙◌}
use mathlib.Core.Logic.{⊎_elim}
use native.Mathlib.Omega.{arith}
use lib.ListN.{length, take, drop}
use Rattle.machine.specs.Names.{stored_path_ok}
use Rattle.names.proofs.PathLaws.{plain_ok, length-between, too_short, too_long}
use Rattle.names.proofs.stored_path_ok_at.Goals as goal

pub returns-then-length-lt1 : goal.returns-then-length-lt1
unfolding stored_path_ok
returns-then-length-lt1 c =
    let a = c.args in
    let p = take (a.to - a.from) (drop a.from a.t.now) in
    let n : length p ≡ a.to - a.from = length-between a.t.now a.from a.to (omega arith) (omega arith) in
    sym (⊎_elim (λ h. too_short p (omega arith)) (λ h. too_long p (omega (arith, h.1))) c.then-length-lt1.either)

pub returns-then-plain_at : goal.returns-then-plain_at
unfolding stored_path_ok
returns-then-plain_at c =
    let a = c.args in
    let p = take (a.to - a.from) (drop a.from a.t.now) in
    let n : length p ≡ a.to - a.from = length-between a.t.now a.from a.to (omega arith) (omega arith) in
    rw c.if-plain_at.true (sym (plain_ok p (omega arith) (omega arith) (sym c.plain_at.ensures ∙ c.if-plain_at.true)))

pub returns-else-plain_at : goal.returns-else-plain_at
unfolding stored_path_ok
returns-else-plain_at c = c.path.ensures
