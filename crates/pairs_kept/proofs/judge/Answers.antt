-- `pairs_kept::judge` meets its contract: three tests, each over what the one before it left. Assumes nothing.
use mathlib.Core.Path.{ap}
use mathlib.Core.Bool.{not}
use native.Mathlib.Omega.{arith}
use borrow.Author.Tests.{lt-leb}
use Rattle.pairs_kept.proofs.Keeping.{judge-form, judge-many, judge-keys}
use Rattle.machine.proofs.Tests.{said-no, said-yes}
use Rattle.machine.specs.Pairs.{pair_list}
use Rattle.pairs_kept.proofs.judge.Goals as goal

pub returns-then-not-formed : goal.returns-then-not-formed
returns-then-not-formed c = judge-form (pair_list c.args.pairs.now) (said-no c.formed.ensures (ap not c.if-not-formed.true))

pub returns-then-few : goal.returns-then-few
returns-then-few c =
    judge-keys (pair_list c.args.pairs.now) (said-yes c.formed.ensures (ap not c.if-not-formed.false))
    (omega (arith, c.count-n.ensures)) c.all_distinct.result c.all_distinct.ensures

pub returns-else-few : goal.returns-else-few
returns-else-few c =
    rw (lt-leb c.count-n.result 8 (omega arith)) (judge-many (pair_list c.args.pairs.now) (said-yes c.formed.ensures (ap not c.if-not-formed.false)) (omega (arith, c.count-n.ensures)))
