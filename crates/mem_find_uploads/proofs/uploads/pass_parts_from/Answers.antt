-- `mem_find_uploads::uploads::pass_parts_from` meets its contract: the search passes the parts that are left. Assumes nothing.
use native.Mathlib.Omega.{arith}
use Rattle.std.proofs.Common.{rules}
use Rattle.machine.proofs.Tests.{tests}
use Rattle.mem_layout.specs.Memory.{state_of}
use Rattle.mem_find_uploads.specs.Search.{NextUpload, stops_at}
use Rattle.mem_find_uploads.proofs.Answers.{sought-after, all-parts}
use Rattle.mem_find_uploads.proofs.uploads.pass_parts_from.Goals as goal

pub overflow_sub-result : goal.overflow_sub-result
unfolding stops_at
overflow_sub-result c = omega (arith, sought-after NextUpload _ c.seek-next.result c.args.from.row (c.seek-next.ensures NextUpload (λ h r told. search (rules, tests))), c.requires.1)

pub returns : goal.returns
unfolding stops_at
returns c u x e f l = all-parts (state_of c.args.memory.tables.now c.args.memory.arena.now) u x f c.args.first e c.args.from c.seek-next.result c.requires.1 l (c.seek-next.ensures NextUpload (λ h r told. search (rules, tests)))
