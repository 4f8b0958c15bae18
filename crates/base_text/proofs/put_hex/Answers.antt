-- `base_text::put_hex` meets its contract. The invariant: `dst` is what it was with the digits of the first i bytes pasted in from `at`. Assumes nothing.
use lib.ListN.{length-set}
use Rattle.base_text.proofs.Hexes.{hex-step, hex-all}
use native.Mathlib.Omega.{arith}
use Rattle.base_text.proofs.put_hex.Goals as goal

pub loop-i-preserved : goal.loop-i-preserved
loop-i-preserved c =
    let l = c.loop-i in
    let a = c.args in (
      rw (length-set, length-set) l.invariant.0,
      hex-step a.dst.now l.dst a.src.now a.at l.i l.invariant.1 c.hex_digit-high.result c.hex_digit-low.result c.requires (omega arith)
          c.hex_digit-high.ensures c.hex_digit-low.ensures,
    )

pub returns : goal.returns
returns c =
    let l = c.loop-i in
    let a = c.args in
    hex-all a.dst.now l.dst a.src.now a.at l.i l.invariant.1 (omega arith) (omega arith)
