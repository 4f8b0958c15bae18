-- `pairs_write::writing::encode` meets its contract. The invariant: the pairs passed stand at the front. Assumes nothing.
use native.Mathlib.Omega.{arith}
use borrow.Author.Rules.{rules}
use Rattle.pairs_write.proofs.Encoding.{encoded-none, encoded-next, encoded-all}
use Rattle.pairs_write.proofs.writing.encode.Goals as goal

pub loop-i-init : goal.loop-i-init
loop-i-init c = encoded-none c.args.lengths.now c.args.bytes.now c.args.answer.now c.requires.0

pub loop-i-preserved : goal.loop-i-preserved
loop-i-preserved c =
    encoded-next c.loop-i.invariant (omega (arith, c.loop-i-test.true)) c.end-k.ensures c.end-v.ensures (omega arith)
    c.write_pair.ensures (search rules)

pub returns : goal.returns
returns c = encoded-all c.loop-i.invariant (omega (arith, c.loop-i.invariant.even, c.loop-i-test.false))
