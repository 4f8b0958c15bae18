-- The sixteen operations of a round, as four rows of four. Assumes nothing.
use Rattle.std.proofs.Common.{◌≡◌, ℕ, ◌+◌, ◌-◌, List, get_or, refl, ap, ◌∙◌, ap₂}
use Rattle.base_md5.specs.declared.words.Digest.{Digest}
use Rattle.base_md5.specs.declared.block.Round.{Round}
use Rattle.base_md5.specs.declared.block.Round.TheVariants.{First, Second, Third, Fourth}
use Rattle.base_md5.specs.Md5.{Operation, words_of, step, operation, operations, sines, table, round}
use Rattle.base_md5.specs.Md5.Operation.{op}

-- an operation on the words x, with T in t
abbrev done : Round → List ℕ → List ℕ → Operation → Digest → Digest
done r x t (op k s i) v = step r (get_or x k 0) s (get_or t (i - 1) 0) v

-- operation n of the round, from 0
abbrev nth : Round → List ℕ → List ℕ → ℕ → Digest → Digest
nth r x t n v = done r x t (get_or (table r) n (op 0 0 0)) v

-- the four operations from n on
abbrev row : Round → List ℕ → List ℕ → ℕ → Digest → Digest
row r x t n v = nth r x t (n + 3) (nth r x t (n + 2) (nth r x t (n + 1) (nth r x t n v)))

abbrev rows : Round → List ℕ → List ℕ → Digest → Digest
rows r x t v = row r x t 12 (row r x t 8 (row r x t 4 (row r x t 0 v)))

whole : (r : Round) (m : List ℕ) (v : Digest) → rows r (words_of m) sines v ≡ round r m v
unfolding round operations operation table words_of
whole First m v = refl
whole Second m v = refl
whole Third m v = refl
whole Fourth m v = refl

-- the four calls of `operation` in `row`
pub four : (r : Round) (x t : List ℕ) (k₁ k₂ k₃ k₄ s₁ s₂ s₃ s₄ i : ℕ) (v : Digest) {v₁ v₂ v₃ v₄ : Digest}
    → v₁ ≡ step r (get_or x k₁ 0) s₁ (get_or t i 0) v → v₂ ≡ step r (get_or x k₂ 0) s₂ (get_or t (i + 1) 0) v₁
    → v₃ ≡ step r (get_or x k₃ 0) s₃ (get_or t (i + 2) 0) v₂ → v₄ ≡ step r (get_or x k₄ 0) s₄ (get_or t (i + 3) 0) v₃
    → v₄ ≡ step r (get_or x k₄ 0) s₄ (get_or t (i + 3) 0) (step r (get_or x k₃ 0) s₃ (get_or t (i + 2) 0)
    (step r (get_or x k₂ 0) s₂ (get_or t (i + 1) 0) (step r (get_or x k₁ 0) s₁ (get_or t i 0) v)))
four r x t k₁ k₂ k₃ k₄ s₁ s₂ s₃ s₄ i v e₁ e₂ e₃ e₄ = cc

-- four calls of `row`, on the words of the block m
pub sixteen : (r : Round) (m x t : List ℕ) (v : Digest) {v₁ v₂ v₃ v₄ : Digest} → x ≡ words_of m → t ≡ sines
    → v₁ ≡ row r x t 0 v → v₂ ≡ row r x t 4 v₁ → v₃ ≡ row r x t 8 v₂ → v₄ ≡ row r x t 12 v₃ → v₄ ≡ round r m v
sixteen r m x t v ex et e₁ e₂ e₃ e₄ =
    e₄ ∙ ap (row r x t 12) (e₃ ∙ ap (row r x t 8) (e₂ ∙ ap (row r x t 4) e₁)) ∙ ap₂ (λ (y u : List ℕ). rows r y u v) ex et ∙ whole r m v
