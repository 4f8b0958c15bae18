-- `base_buffer::blocks::swap` meets its contract: the halves of the buffer exchange their blocks. Assumes nothing.
use Prim.Native.Nat.{◌+◌, ◌-◌}
use native.Mathlib.Omega.{arith}
use Rattle.base_buffer.proofs.Swapping.{exchanged}
use Rattle.base_buffer.proofs.blocks.swap.Goals as goal

pub returns : goal.returns
returns c =
    let a = c.args in
    let h = c.swap_with_slice.ensures in
    let s = c.split_at_mut-left.ensures in
    simp (h.after, h.other_after, s.front, s.back) (exchanged a.b.now a.i a.j a.n (a.i + a.n - a.i) (omega arith) c.requires.0 c.requires.1)
