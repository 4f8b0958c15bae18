-- `base_order::pass_two` meets its contract: a word that is the same is eight bytes more in common. Assumes nothing.
use mathlib.Core.Path.{◌≡◌, sym, ◌∙◌}
use Prim.Native.Nat.{◌+◌}
use lib.ListN.{take}
use native.Mathlib.Omega.{arith}
use Rattle.base_order.proofs.Strings.{same_word}
use Rattle.base_order.proofs.pass_two.Goals as goal

pub returns-then-get_u64-2 : goal.returns-then-get_u64-2
returns-then-get_u64-2 c =
    let first_word : let a = c.args in take (a.i + 8) a.a.now ≡ take (a.i + 8) a.b.now = same_word c.args.a.now c.args.b.now c.args.i 8 (λ i. (c.type_inv.a i).fits)
    (λ i. (c.type_inv.b i).fits) (omega arith) (omega arith) c.requires.2
    (sym c.get_u64.ensures ∙ c.if-get_u64.false ∙ c.get_u64-2.ensures) in
    (omega arith, omega arith, first_word)

pub returns : goal.returns
returns c =
    let first_word : let a = c.args in take (a.i + 8) a.a.now ≡ take (a.i + 8) a.b.now = same_word c.args.a.now c.args.b.now c.args.i 8 (λ i. (c.type_inv.a i).fits)
    (λ i. (c.type_inv.b i).fits) (omega arith) (omega arith) c.requires.2
    (sym c.get_u64.ensures ∙ c.if-get_u64.false ∙ c.get_u64-2.ensures) in
    let two : c.args.i + 8 + 8 ≡ c.args.i + 16 = omega arith in (
      omega arith,
      omega arith,
      rw two at (same_word c.args.a.now c.args.b.now (c.args.i + 8) 8 (λ i. (c.type_inv.a i).fits)
          (λ i. (c.type_inv.b i).fits) (omega arith) (omega arith) (first_word)
          (sym c.get_u64-3.ensures ∙ c.if-get_u64-2.false ∙ c.get_u64-4.ensures)),
    )
