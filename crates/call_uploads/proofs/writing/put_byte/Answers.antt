-- `call_uploads::writing::put_byte` meets its contract. Assumes nothing.
use native.Mathlib.Omega.{arith}
use Rattle.base_number.proofs.Halves.{put_byte}
use Rattle.call_uploads.proofs.writing.put_byte.Goals as goal

pub returns : goal.returns
returns c = put_byte c.args.answer.now c.args.at c.args.v (omega arith) (omega arith)
