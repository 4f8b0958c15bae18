-- `base_text::put_digest` meets its contract: the four words fill sixteen bytes, which are written. Assumes nothing.
use Prim.Native.Nat.{ℕ}
use mathlib.Core.List.{◌++◌}
use lib.ListN.{replicate, length-replicate}
use Rattle.base_number.specs.Number.{le}
use Rattle.base_number.proofs.NumberLaws.{length-le}
use Rattle.base_text.proofs.Hexes.{four-words, digest-written}
use native.Mathlib.Omega.{arith}
use Rattle.base_text.proofs.put_digest.Goals as goal

pub returns : goal.returns
returns c =
    let a = c.args in
    let k = c.put_hex in
    let w₁ = c.put_u32 in
    let w₂ = c.put_u32-2 in
    let w₃ = c.put_u32-3 in
    let w₄ = c.put_u32-4 in
    let all = four-words (replicate 16 0) w₁.new.b w₂.new.b w₃.new.b w₄.new.b (le 4 a.a) (le 4 a.b) (le 4 a.c) (le 4 a.d)
    (length-replicate {A = ℕ} 16 0) (length-le 4 a.a) (length-le 4 a.b) (length-le 4 a.c) w₁.ensures w₂.ensures w₃.ensures w₄.ensures in
    digest-written a.dst.now k.new.dst w₄.new.b (le 4 a.a ++ (le 4 a.b ++ (le 4 a.c ++ le 4 a.d))) a.at all (omega arith) k.ensures
