-- `names::path_ok` meets its contract: its length, then visible ASCII, then letters. Assumes nothing.
use mathlib.Core.Path.{sym, ◌∙◌}
use mathlib.Core.Logic.{⊎_elim}
use native.Mathlib.Omega.{arith}
use Rattle.names.proofs.PathLaws.{plain_ok, too_short, too_long}
use Rattle.names.proofs.path_ok.Goals as goal

pub returns-then-n-lt1 : goal.returns-then-n-lt1
returns-then-n-lt1 c = let p = c.args.p.now in sym (⊎_elim (too_short p) (λ w. too_long p w.1) c.then-n-lt1.either)

pub returns-then-plain : goal.returns-then-plain
returns-then-plain c = rw c.if-plain.true (sym (plain_ok c.args.p.now (omega arith) (omega arith) (sym c.plain.ensures ∙ c.if-plain.true)))
