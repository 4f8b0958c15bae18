-- A record written field by field, and its length. Assumes nothing.
use Prim.Native.Nat.{ℕ, ◌+◌, ◌-◌, ◌≤◌, ◌<◌}
use mathlib.Core.Path.{◌≡◌, refl, sym, ap, ap₂, ◌∙◌}
use mathlib.Core.List.{List, [], ◌∷◌, ◌++◌, append_assoc}
use native.Mathlib.Nat.{add-sub_cancel_left, mod-eq_of_lt}
use native.Mathlib.Omega.{arith}
use lib.ListN.{length, take, drop, length-append, length-drop}
use lib.Seq.{length-take-le}
use Rattle.base_number.specs.Number.{le, replaced_at, written}
use Rattle.base_number.proofs.NumberLaws.{length-le}
use Rattle.base_number.proofs.Halves.{write-next}
use Rattle.machine.specs.Names.{Bytes}
use Rattle.mem_row.specs.declared.Head.{Head}
use Rattle.mem_row.specs.Row.{head_at, head_length, span}
use Rattle.call_uploads.specs.Records.{record_of, path_from, record_at}

pub length-record : (u : ℕ) (p : Bytes) (t n : ℕ) → length (record_of u p t n) ≡ 15 + length p
unfolding record_of
length-record u p t n = simp (length-append, length-le) (omega arith)

-- y is written after x
pub next_field : (b b₁ b₂ x y : List ℕ) (at k j place : ℕ) → length x ≡ k → at + k ≤ length b → place ≡ at + k → b₁ ≡ replaced_at b at x k → b₂ ≡ replaced_at b₁ place y j → b₂ ≡ replaced_at b at (x ++ y) (k + j)
next_field b b₁ b₂ x y at k j place n room e one two = two ∙ ap₂ (λ (c : List ℕ) (i : ℕ). replaced_at c i y j) one e ∙ write-next b at x y k j n room

byte : (m : ℕ) → m < 256 → le 1 m ≡ m ∷ []
unfolding le
byte m h = ap (λ (k : ℕ). k ∷ []) (mod-eq_of_lt h)

-- five fields, one after the other
pub record-written : (b b₁ b₂ b₃ b₄ b₅ p : List ℕ) (at u t n : ℕ) → length p < 256 → at + (15 + length p) ≤ length b
    → b₁ ≡ replaced_at b at (le 4 u) 4 → b₂ ≡ replaced_at b₁ (at + 4) (le 1 (length p)) 1 → b₃ ≡ replaced_at b₂ (at + 5) p (length p)
    → b₄ ≡ replaced_at b₃ (at + 5 + length p) (le 8 t) 8 → b₅ ≡ replaced_at b₄ (at + 13 + length p) (le 2 n) 2
    → b₅ ≡ replaced_at b at (record_of u p t n) (15 + length p)
unfolding record_of
record-written b b₁ b₂ b₃ b₄ b₅ p at u t n short room e₁ e₂ e₃ e₄ e₅ =
    let m = length p in
    let one : le 1 m ≡ m ∷ [] = byte m short in
    let v = le 4 u in
    let w = le 1 m in
    let l₁ : length v ≡ 4 = length-le 4 u in
    let l₂ : length (v ++ w) ≡ 4 + 1 = omega (arith, length-append v w, length-le 1 m) in
    let l₃ : length ((v ++ w) ++ p) ≡ 4 + 1 + m = omega (arith, length-append (v ++ w) p) in
    let l₄ : length (((v ++ w) ++ p) ++ le 8 t) ≡ 4 + 1 + m + 8 = omega (arith, length-append ((v ++ w) ++ p) (le 8 t), length-le 8 t) in
    let q₂ = next_field b b₁ b₂ v w at 4 1 (at + 4) l₁ (omega arith) refl e₁ e₂ in
    let q₃ = next_field b b₂ b₃ (v ++ w) p at (4 + 1) m (at + 5) l₂ (omega arith) (omega arith) q₂ e₃ in
    let q₄ = next_field b b₃ b₄ ((v ++ w) ++ p) (le 8 t) at (4 + 1 + m) 8 (at + 5 + m) l₃ (omega arith) (omega arith) q₃ e₄ in
    let q₅ = next_field b b₄ b₅ (((v ++ w) ++ p) ++ le 8 t) (le 2 n) at (4 + 1 + m + 8) 2 (at + 13 + m) l₄ (omega arith) (omega arith) q₄ e₅ in
    let size : 4 + 1 + m + 8 + 2 ≡ 15 + m = omega arith in
    q₅ ∙ ap₂ (λ (x : List ℕ) (k : ℕ). replaced_at b at x k) (rw one (simp append_assoc)) size

-- the record of a row: the path is read from it, and its fields
module _ (t : List ℕ) (at parts : ℕ) (h : Head) (e : h ≡ head_at (drop at t)) (inside : at + span (head_at (drop at t)) ≤ length t) where
  pub row-path : take (at + head_length + h.pathlen - (at + head_length)) (drop (at + head_length) t) ≡ path_from t at
  row-path = ap (λ (k : ℕ). take k (drop (at + head_length) t)) (add-sub_cancel_left (at + head_length) h.pathlen ∙ ap (λ (y : Head). y.pathlen) e)

  pub length-path : length (path_from t at) ≡ h.pathlen
  length-path = length-take-le (head_at (drop at t)).pathlen (drop (at + head_length) t) (simp length-drop (omega arith)) ∙ ap (λ (y : Head). y.pathlen) (sym e)

  pub length-row : length (record_at t at parts) ≡ 15 + h.pathlen
  unfolding record_at
  length-row = length-record (head_at (drop at t)).number (path_from t at) (head_at (drop at t)).stamp parts ∙ ap (λ (k : ℕ). 15 + k) length-path

  pub row_written : (b b₁ p : List ℕ) (to : ℕ) → p ≡ path_from t at → b₁ ≡ replaced_at b to (record_of h.number p h.stamp parts) (15 + length p) → b₁ ≡ written b to (record_at t at parts)
  unfolding record_at
  row_written b b₁ p to f told =
      told
      ∙ ap₂ (λ (x : List ℕ) (k : ℕ). replaced_at b to x k)
      (ap₂ (λ (y : Head) (q : List ℕ). record_of y.number q y.stamp parts) e f)
      (ap (λ (q : List ℕ). 15 + length q) f ∙ sym (length-record (head_at (drop at t)).number (path_from t at) (head_at (drop at t)).stamp parts))
