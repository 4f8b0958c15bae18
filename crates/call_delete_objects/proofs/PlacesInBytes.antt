-- The name places in bytes: how many there are, and where each stands. Assumes nothing.
use Prim.Native.Nat.{ℕ, zero, suc, ◌+◌, ◌*◌, ◌/◌, ◌<◌, ◌≤◌}
use mathlib.Core.Path.{◌≡◌, refl, sym, ap, ap₂, ◌∙◌}
use native.Mathlib.Nat.{div-add-mod'}
use native.Mathlib.Omega.{arith}
use lib.ListN.{length, take, drop, get_or}
use lib.Seq.{drop-drop}
use Rattle.base_number.specs.Number.{from_le}
use Rattle.machine.specs.Names.{Bytes}
use Rattle.machine.specs.Calls.{NamePlace}
use Rattle.call_contract.specs.Answers.{places_from, places_in}
use Rattle.call_delete_objects.specs.PlaceDone.{place_of}

from-length : (n : ℕ) (bs : Bytes) → length (places_from n bs) ≡ n
from-length zero bs = refl
from-length (suc n) bs = ap suc (from-length n (drop 8 bs))

pub packed-length : (bs : Bytes) → length (places_in bs) ≡ length bs / 8
unfolding places_in
packed-length bs = from-length (length bs / 8) bs

-- a place that is there, is there whole
pub packed-fits : (i l : ℕ) → i < l / 8 → 8 * i + 8 ≤ l
packed-fits i l h = omega (arith, div-add-mod' l 8)

module _ (none : NamePlace) where
  from_at : (n i : ℕ) (bs : Bytes) → i < n → get_or (places_from n bs) i none ≡ place_of (from_le (take 4 (drop (8 * i) bs))) (from_le (take 4 (drop (8 * i + 4) bs)))
  from_at zero i bs h = absurd (omega arith)
  from_at (suc n) zero bs h = refl
  from_at (suc n) (suc i) bs h =
      let a : 8 + 8 * i ≡ 8 * suc i = omega arith in
      let b : 8 + (8 * i + 4) ≡ 8 * suc i + 4 = omega arith in
      from_at n i (drop 8 bs) (omega arith)
      ∙ ap₂ (λ (x y : Bytes). place_of (from_le (take 4 x)) (from_le (take 4 y))) (drop-drop (8 * i) 8 bs ∙ ap (λ (k : ℕ). drop k bs) a) (drop-drop (8 * i + 4) 8 bs ∙ ap (λ (k : ℕ). drop k bs) b)

  pub packed-at : (bs : Bytes) (i start length : ℕ) → i < lib.ListN.length bs / 8 → start ≡ from_le (take 4 (drop (8 * i) bs)) → length ≡ from_le (take 4 (drop (8 * i + 4) bs)) → place_of start length ≡ get_or (places_in bs) i none
  unfolding places_in
  packed-at bs i s l h es el = sym (from_at _ i bs h ∙ sym (rw (es, el)))
