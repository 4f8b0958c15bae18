-- Laws of `chain`: it goes on where it stopped, and reads no further than its blocks. Assumes nothing.
use Rattle.std.proofs.Common.{◌≡◌, ℕ, zero, suc, ◌+◌, ◌-◌, ◌*◌, ◌/◌, ◌%◌, ◌^◌, ◌<◌, ◌≤◌, List, ◌∷◌, ◌++◌, length, take, drop, replicate, sym, refl, ap, ◌∙◌, ap₂, add-zero, add-suc, add-mul, add-one, arith, length-append, length-drop, take-append-drop, drop-drop}
use native.Mathlib.Nat.{add-sub_cancel_left}
use lib.ListN.{length-replicate}
use lib.Seq.{take-append-le, drop-append-le}
use Rattle.base_number.specs.Number.{le}
use Rattle.base_number.proofs.NumberLaws.{length-le}
use Rattle.base_md5.specs.declared.words.Digest.{Digest}
use Rattle.base_md5.specs.Md5.{chain, compress, initial, zeros, padded, md5}

-- a turn of the loop over the blocks
pub chain_more : (v₀ : Digest) (m : List ℕ) (i : ℕ) {v w : Digest}
    → v ≡ chain v₀ m i → w ≡ compress (take (i * 64 + 64 - i * 64) (drop (i * 64) m)) v → w ≡ chain v₀ m (i + 1)
unfolding chain
chain_more v₀ m i e f = f ∙ ap₂ (λ (k : ℕ) (x : Digest). compress (take k (drop (i * 64) m)) x) (add-sub_cancel_left (i * 64) 64) e ∙ ap (chain v₀ m) (sym (add-one i))

pub chain-add : (v : Digest) (m : List ℕ) (a b : ℕ) → chain v m (a + b) ≡ chain (chain v m a) (drop (a * 64) m) b
unfolding chain
chain-add v m a zero = ap (chain v m) (add-zero a)
chain-add v m a (suc b) =
    ap (chain v m) (add-suc a b)
    ∙ ap₂ (λ (x : List ℕ) (y : Digest). compress (take 64 x) y) (ap (λ (k : ℕ). drop k m) (add-mul a b 64) ∙ sym (drop-drop (b * 64) (a * 64) m)) (chain-add v m a b)

pub chain-front : (v : Digest) (x y : List ℕ) (n : ℕ) → n * 64 ≤ length x → chain v (x ++ y) n ≡ chain v x n
unfolding chain
chain-front v x y zero h = refl
chain-front v x y (suc n) h =
    let a : n * 64 ≤ length x = omega arith in
    let b : 64 ≤ length (drop (n * 64) x) = simp length-drop (omega arith) in
    ap₂ (λ (z : List ℕ) (w : Digest). compress z w) (ap (take 64) (drop-append-le (n * 64) x y a) ∙ take-append-le 64 (drop (n * 64) x) y b) (chain-front v x y n a)

-- what stands after the whole blocks of the message: the rest of it, the byte 128, z zeros, and the length in bits
abbrev pub rest : List ℕ → ℕ → ℕ → List ℕ
rest m start z = drop start m ++ 128 ∷ (replicate z 0 ++ le 8 (8 * length m % 2 ^ 64))

length_rest : (m : List ℕ) (start z : ℕ) → length (rest m start z) ≡ (length m - start) + (z + 9)
length_rest m start z = simp (length-append, length-drop, length-replicate, length-le) (omega arith)

padded-rest : (m : List ℕ) (w : ℕ) → w * 64 ≤ length m → drop (w * 64) (padded m) ≡ rest m (w * 64) (zeros (length m))
unfolding padded
padded-rest m w h = drop-append-le (w * 64) m _ h

length-padded : (m : List ℕ) → length (padded m) ≡ length m + (zeros (length m) + 9)
unfolding padded
length-padded m = simp (length-append, length-replicate, length-le) (omega arith)

padded-front : (m : List ℕ) (w : ℕ) → w * 64 ≤ length m → chain initial (padded m) w ≡ chain initial m w
unfolding padded
padded-front m w h = chain-front initial m _ w h

-- the whole blocks of the message, and then the one or two blocks whose bytes t begins with, make its digest
pub finished : (m t : List ℕ) (at j : ℕ) → at + 8 ≡ j * 64 → length m - length m / 64 * 64 < at → at ≤ length m - length m / 64 * 64 + 64
    → take (at + 8) t ≡ rest m (length m / 64 * 64) (at - 1 - (length m - length m / 64 * 64))
    → chain (chain initial m (length m / 64)) t j ≡ md5 m
unfolding md5 zeros
finished m t at j e lo hi same =
    let w : ℕ = length m / 64 in
    let v : Digest = chain initial m w in
    let left : w * 64 ≤ length m = omega arith in
    let z : zeros (length m) ≡ at - 1 - (length m - w * 64) = omega arith in
    let front : take (at + 8) t ≡ drop (w * 64) (padded m) = same ∙ ap (rest m (w * 64)) (sym z) ∙ sym (padded-rest m w left) in
    let long : j * 64 ≤ length (take (at + 8) t) = rw same (rw length_rest (omega arith)) in
    let count : w + j ≡ length (padded m) / 64 = rw length-padded (omega arith) in
    ap (λ (x : List ℕ). chain v x j) (sym (take-append-drop (at + 8) t))
    ∙ chain-front v (take (at + 8) t) (drop (at + 8) t) j long
    ∙ ap₂ (λ (u : Digest) (x : List ℕ). chain u x j) (sym (padded-front m w left)) front
    ∙ sym (chain-add initial (padded m) w j)
    ∙ ap (chain initial (padded m)) count

-- the same of what the calls of `digest` return
pub digested : (m t : List ℕ) (at j : ℕ) (i u w : Digest) → i ≡ initial → u ≡ chain i m (length m / 64) → w ≡ chain u t j
    → at + 8 ≡ j * 64 → length m - length m / 64 * 64 < at → at ≤ length m - length m / 64 * 64 + 64
    → take (at + 8) t ≡ rest m (length m / 64 * 64) (at - 1 - (length m - length m / 64 * 64))
    → w ≡ md5 m
digested m t at j i u w e₁ e₂ e₃ e lo hi same =
    e₃ ∙ ap (λ (x : Digest). chain x t j) (e₂ ∙ ap (λ (x : Digest). chain x m (length m / 64)) e₁) ∙ finished m t at j e lo hi same
