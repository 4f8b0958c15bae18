-- `base_number::put_u16` meets its contract: a number is written by its halves. Assumes nothing.
use Prim.Native.Nat.{◌+◌, ◌%◌, ◌/◌}
use lib.ListN.{set, length-set}
use Rattle.base_number.proofs.Halves.{put_byte, put-halves}
use native.Mathlib.Omega.{arith}
use Rattle.base_number.proofs.put_u16.Goals as goal

pub bounds-b-at-2 : goal.bounds-b-at-2
bounds-b-at-2 c = rw length-set (omega arith)

pub returns : goal.returns
returns c =
    let b = c.args.b.now in
    let at = c.args.at in
    let v = c.args.v in
    let b₁ = set b at (v % 256) in
    put-halves b at b₁ (set b₁ (at + 1) (v / 256)) 1 v c.requires
    (put_byte b at (v % 256) (omega arith) (omega arith))
    (put_byte b₁ (at + 1) (v / 256) (omega arith) (rw length-set (omega arith)))
