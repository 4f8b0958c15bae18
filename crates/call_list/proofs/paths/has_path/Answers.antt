-- `call_list::paths::has_path` meets its contract: the prefix first, then the suffix of the rest. Assumes nothing.
use mathlib.Core.Path.{ap}
use mathlib.Core.Bool.{not}
use native.Mathlib.Omega.{arith}
use Rattle.machine.proofs.Tests.{said-no, said-yes}
use Rattle.call_list.proofs.RowLengths.{long-enough, has-not, has_rest}
use Rattle.call_list.proofs.paths.has_path.Goals as goal

pub returns-then-not-begins_with : goal.returns-then-not-begins_with
returns-then-not-begins_with c = let a = c.args in has-not a.prefix.now a.suffix.now a.path.now (said-no c.begins_with.ensures (ap not c.if-not-begins_with.true))

pub slice_bounds-ends_with-count : goal.slice_bounds-ends_with-count
slice_bounds-ends_with-count c = let a = c.args in omega (arith, long-enough a.prefix.now a.suffix.now a.path.now (said-yes c.begins_with.ensures (ap not c.if-not-begins_with.false)))

pub slice_bounds-ends_with-start : goal.slice_bounds-ends_with-start
slice_bounds-ends_with-start c = let a = c.args in omega (arith, long-enough a.prefix.now a.suffix.now a.path.now (said-yes c.begins_with.ensures (ap not c.if-not-begins_with.false)))

pub returns : goal.returns
returns c = let a = c.args in has_rest a.prefix.now a.suffix.now a.path.now _ (said-yes c.begins_with.ensures (ap not c.if-not-begins_with.false)) c.ends_with.ensures
