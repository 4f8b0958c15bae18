-- `mem_find_uploads::uploads::find_due` meets its contract: the closure is the test of the definition. Assumes nothing.
use Rattle.std.proofs.Common.{rules}
use Rattle.machine.proofs.Tests.{tests}
use Rattle.mem_find_uploads.specs.Search.{Due, stops_at}
use Rattle.mem_find_uploads.proofs.uploads.find_due.Goals as goal

pub returns : goal.returns
unfolding stops_at
returns c = c.seek.ensures (Due c.args.stamp) (λ h r told. search (rules, tests))
