-- The sums of an operation, in the order in which the code takes them. Assumes nothing.
use Rattle.std.proofs.Common.{◌≡◌, ℕ, ◌+◌, ◌-◌, ◌<◌, ◌%◌, ◌^◌, ap, ◌∙◌, arith, w32}
use Rattle.std.specs.Int.{rotate_left}
use native.Mathlib.Nat.{mod-add-mod}
use Rattle.base_md5.specs.declared.words.Digest.{Digest}
use Rattle.base_md5.specs.declared.block.Round.{Round}
use Rattle.base_md5.specs.Md5.{add32, rotl32, auxiliary, step, added}

-- the word, then T, then the function in two summands
sums : (a x t f e l : ℕ) → e + l ≡ f → add32 (add32 (add32 (add32 a x) t) e) l ≡ add32 (add32 (add32 a f) x) t
sums a x t f e l h =
    let same : a + x + t + e + l ≡ a + f + x + t = omega arith in
    simp mod-add-mod (ap (λ (n : ℕ). n % 2 ^ 32) same)

-- the library's rotation is the definition's
turned : (x s : ℕ) → 0 < s → s < 32 → rotate_left w32 x s ≡ rotl32 x s
turned x s low high =
    let p : s % 32 ≡ s = omega arith in
    let q : (32 - s) % 32 ≡ 32 - s = omega arith in
    rw (p, q)

-- the sums of `operation`
pub stepped : (r : Round) (x s t : ℕ) (v : Digest) (e l : ℕ) {u : ℕ} → 0 < s → s < 32 → e + l ≡ auxiliary r v.b v.c v.d
    → u ≡ rotate_left w32 (add32 (add32 (add32 (add32 v.a x) t) e) l) s
    → record { a = v.d; b = add32 v.b u; c = v.b; d = v.c } ≡ step r x s t v
unfolding step
stepped r x s t v e l {u = u} low high parts q =
    let sum = sums v.a x t (auxiliary r v.b v.c v.d) e l parts in
    ap (λ (n : ℕ). record { a = v.d; b = add32 v.b n; c = v.b; d = v.c }) (q ∙ turned _ s low high ∙ ap (λ (n : ℕ). rotl32 n s) sum)

-- the last sums of `block`
pub summed : (v w : Digest) {u : Digest} → u ≡ w
    → record { a = add32 u.a v.a; b = add32 u.b v.b; c = add32 u.c v.c; d = add32 u.d v.d } ≡ added w v
unfolding added
summed v w e = cc
