-- `base_order::deciding_word` meets its contract. The invariant: the first i bytes are the same. Assumes nothing.
use mathlib.Core.Path.{◌≡◌, sym, ap, ◌∙◌}
use Prim.Native.Nat.{◌+◌, ◌-◌}
use lib.ListN.{take}
use Rattle.base_order.proofs.Strings.{same_word, same-fewer}
use Rattle.base_number.specs.Number.{from_le}
use native.Mathlib.Omega.{arith}
use Rattle.base_order.proofs.deciding_word.Goals as goal

pub returns-then-last-j : goal.returns-then-last-j
returns-then-last-j c =
    let first_word : take (c.loop-i.i + 8) c.args.a.now ≡ take (c.loop-i.i + 8) c.args.b.now = let a = c.args in
    same_word a.a.now a.b.now c.loop-i.i 8 (λ i. (c.type_inv.a i).fits)
    (λ i. (c.type_inv.b i).fits) (omega arith) (omega arith) c.loop-i.invariant.1
    (sym c.get_u64.ensures ∙ c.if-get_u64.false ∙ c.get_u64-in-loop-i.ensures) in
    let a = c.args in
    record {
      inside = omega arith;
      alike = same-fewer a.a.now a.b.now (a.n - 8) (c.loop-i.i + 8) (omega arith) (first_word);
      differ = λ h. absurd (omega arith);
    }

pub returns-then-get_u64-2 : goal.returns-then-get_u64-2
returns-then-get_u64-2 c =
    let first_word : take (c.loop-i.i + 8) c.args.a.now ≡ take (c.loop-i.i + 8) c.args.b.now = let a = c.args in
    same_word a.a.now a.b.now c.loop-i.i 8 (λ i. (c.type_inv.a i).fits)
    (λ i. (c.type_inv.b i).fits) (omega arith) (omega arith) c.loop-i.invariant.1
    (sym c.get_u64.ensures ∙ c.if-get_u64.false ∙ c.get_u64-in-loop-i.ensures) in
    record {
      inside = omega arith;
      alike = first_word;
      differ = λ h e. c.if-get_u64-2.true (c.get_u64-in-loop-i-2.ensures ∙ ap from_le e ∙ sym c.get_u64-in-loop-i-3.ensures);
    }

pub loop-i-preserved : goal.loop-i-preserved
loop-i-preserved c =
    let first_word : take (c.loop-i.i + 8) c.args.a.now ≡ take (c.loop-i.i + 8) c.args.b.now = let a = c.args in
    same_word a.a.now a.b.now c.loop-i.i 8 (λ i. (c.type_inv.a i).fits)
    (λ i. (c.type_inv.b i).fits) (omega arith) (omega arith) c.loop-i.invariant.1
    (sym c.get_u64.ensures ∙ c.if-get_u64.false ∙ c.get_u64-in-loop-i.ensures) in
    let a = c.args in (
      omega arith,
      same_word a.a.now a.b.now (c.loop-i.i + 8) 8 (λ i. (c.type_inv.a i).fits)
          (λ i. (c.type_inv.b i).fits) (omega arith) (omega arith) (first_word)
          (sym c.get_u64-in-loop-i-2.ensures ∙ c.if-get_u64-2.false ∙ c.get_u64-in-loop-i-3.ensures),
    )

pub returns : goal.returns
returns c =
    let a = c.args in
    record {
      inside = omega arith;
      alike = same-fewer a.a.now a.b.now (a.n - 8) c.loop-i.i (omega arith) c.loop-i.invariant.1;
      differ = λ h. absurd (omega arith);
    }
