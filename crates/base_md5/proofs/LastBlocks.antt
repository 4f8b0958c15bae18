-- What the stores of `tail` leave: the bytes after the message's whole blocks. Assumes nothing.
use Rattle.std.proofs.Common.{◌≡◌, ℕ, suc, ◌+◌, ◌-◌, ◌*◌, ◌%◌, ◌^◌, ◌<◌, ◌≤◌, List, ◌∷◌, ◌++◌, length, take, drop, set, replicate, sym, refl, ap, ◌∙◌, ap₂, zero-add, append_assoc, le_of_eq, arith, length-append, length-drop, take_all, take_at, drop_at}
use lib.ListN.{length-replicate, replicate-append-replicate}
use lib.Seq.{take-length, set_at}
use Rattle.base_number.specs.Number.{le}
use Rattle.base_number.proofs.NumberLaws.{length-le}
use Rattle.base_number.proofs.Fields.{replaced_at}
use Rattle.base_md5.proofs.Chain.{rest}

abbrev nulls : ℕ → List ℕ
nulls n = replicate n 0

-- k zeros less of 128, the first of the others apart, and the rest in two runs
zero-runs : (k z y : ℕ) → k + suc (z + y) ≡ 128 → drop k (nulls 128) ≡ 0 ∷ (nulls z ++ nulls y)
zero-runs k z y e =
    ap (λ (n : ℕ). drop k (nulls n)) (sym e)
    ∙ ap (drop k) (sym (replicate-append-replicate k (suc (z + y)) 0))
    ∙ drop_at (nulls k) (nulls (suc (z + y))) k (length-replicate k 0)
    ∙ ap (λ (l : List ℕ). 0 ∷ l) (sym (replicate-append-replicate z y 0))

-- s copied over 128 zeros, and the byte 128 stored after it
copied : (s t : List ℕ) (z y : ℕ) → length s + suc (z + y) ≡ 128 → t ≡ take (length s) s ++ drop (length s) (nulls 128)
    → set t (length s) 128 ≡ (s ++ 128 ∷ nulls z) ++ nulls y
copied s t z y e et =
    ap (λ (l : List ℕ). set l (length s) 128) (et ∙ ap₂ ◌++◌ (take-length s) (zero-runs (length s) z y e))
    ∙ set_at s 0 (nulls z ++ nulls y) 128 (length s) refl
    ∙ sym (append_assoc s (128 ∷ nulls z) (nulls y))

-- s written after p
written : (p q s : List ℕ) (at n : ℕ) → length p ≡ at → length s ≡ n → take (at + n) (replaced_at (p ++ q) at s n) ≡ p ++ s
written p q s at n e f =
    ap (λ (l : List ℕ). take (at + n) (l ++ s ++ drop (at + n) (p ++ q))) (take_at p q at e)
    ∙ take_at (p ++ s) (drop (at + n) (p ++ q)) (at + n) (simp length-append (omega arith))

pub tailed : (d s : List ℕ) (start at x : ℕ) {t₁ t₂ : List ℕ} → s ≡ take (length d - start) (drop start d) → start ≤ length d → length d - start < at → at ≤ 120
    → t₁ ≡ s ++ drop (0 + length s) (nulls 128) → x ≡ 8 * length d % 2 ^ 64 → t₂ ≡ replaced_at (set t₁ (length d - start) 128) at (le 8 x) 8
    → take (at + 8) t₂ ≡ rest d start (at - 1 - (length d - start))
tailed d s start at x {t₁} {t₂} es h₁ h₂ h₃ e₀ ex e₂ =
    let z : ℕ = at - 1 - (length d - start) in
    let y : ℕ = 128 - at in
    let whole : s ≡ drop start d = es ∙ take_all (length d - start) (drop start d) (le_of_eq (length-drop start d)) in
    let n : length s ≡ length d - start = ap length whole ∙ length-drop start d in
    let er : length d - start ≡ length s = sym n in
    let e₁ : t₁ ≡ take (length s) s ++ drop (length s) (nulls 128) =
    e₀ ∙ ap (λ (k : ℕ). s ++ drop k (nulls 128)) (zero-add (length s)) ∙ ap (λ (l : List ℕ). l ++ drop (length s) (nulls 128)) (sym (take_all (length s) s (le_of_eq refl))) in
    let p : List ℕ = s ++ 128 ∷ nulls z in
    let lp : length p ≡ at = simp (length-append, length-replicate) (omega arith) in
    let bits : List ℕ = le 8 (8 * length d % 2 ^ 64) in
    ap (take (at + 8)) (e₂ ∙ ap₂ (λ (l : List ℕ) (u : ℕ). replaced_at l at (le 8 u) 8) (ap (λ (k : ℕ). set t₁ k 128) er ∙ copied s t₁ z y (omega arith) e₁) ex)
    ∙ written p (nulls y) bits at 8 lp (length-le 8 _)
    ∙ append_assoc s (128 ∷ nulls z) bits
    ∙ ap (λ (l : List ℕ). l ++ 128 ∷ (nulls z ++ bits)) whole
