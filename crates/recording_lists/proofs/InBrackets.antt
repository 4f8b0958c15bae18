-- What stands in brackets or after a space, with what a function makes of it. Assumes nothing.
use Prim.Native.Nat.{ℕ, ◌+◌, ◌<◌}
use mathlib.Core.Path.{◌≡◌, sym, ap, ◌∙◌}
use lib.ListN.{length, drop, get_or}
use Rattle.machine.specs.Names.{Bytes}
use Rattle.recording.specs.Read.{Read, got, no, Reader, and_then, past, closed, map_read}
use Rattle.recording_read.proofs.Places.{past-at, past-not}
use Rattle.recording_lists.proofs.PairSteps.{MappedRead, unmapped, unmapped-no}

module _ {X Y : Type 0} (r : Reader X) (f : X → Y) (s : Bytes) (at : ℕ) where
  module _ (b : ℕ) where
    pub no_byte : (at < length s → get_or s at 0 ≡ b → ⊥) → no ≡ map_read f (past b r) (drop at s)
    no_byte other = ap (λ (x : Read X). and_then x (λ y l. got (f y) l)) (sym (past-not r s at b other))

    pub after-byte : at < length s → get_or s at 0 ≡ b → map_read f r (drop (at + 1) s) ≡ map_read f (past b r) (drop at s)
    after-byte h e = ap (λ (x : Read X). and_then x (λ y l. got (f y) l)) (sym (past-at r s at b h e))

  pub no-inside : no ≡ map_read f r (drop at s) → no ≡ map_read f (closed r) (drop at s)
  no-inside e = ap (λ (x : Read X). and_then (and_then x (λ y. past 41 (got y))) (λ y l. got (f y) l)) (unmapped-no f (r (drop at s)) e)

  module _ (y : Y) (next : ℕ) (e : got y (drop next s) ≡ map_read f r (drop at s)) where
    u : MappedRead f (r (drop at s)) y (drop next s)
    u = unmapped f (r (drop at s)) y (drop next s) e

    so : map_read f (past 41 (got u.value)) (drop next s) ≡ map_read f (closed r) (drop at s)
    so = ap (λ (x : Read X). and_then (and_then x (λ y. past 41 (got y))) (λ y l. got (f y) l)) u.here

    pub no-close : (next < length s → get_or s next 0 ≡ 41 → ⊥) → no ≡ map_read f (closed r) (drop at s)
    no-close other = ap (λ (x : Read X). and_then x (λ y l. got (f y) l)) (sym (past-not (got u.value) s next 41 other)) ∙ so

    pub is-closed : next < length s → get_or s next 0 ≡ 41 → got y (drop (next + 1) s) ≡ map_read f (closed r) (drop at s)
    is-closed h p =
        ap (λ (z : Y). got z (drop (next + 1) s)) u.so
        ∙ ap (λ (x : Read X). and_then x (λ y l. got (f y) l)) (sym (past-at (got u.value) s next 41 h p)) ∙ so
