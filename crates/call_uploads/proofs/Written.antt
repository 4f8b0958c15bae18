-- The records of the notes written one by one. Assumes nothing.
use Prim.Native.Nat.{ℕ, zero, suc, ◌+◌, ◌≤◌, ◌<◌}
use mathlib.Core.Path.{◌≡◌, refl, sym, ap, ap₂, ◌∙◌}
use mathlib.Core.Logic.{⊎_elim}
use mathlib.Core.List.{List, ◌++◌}
use native.Mathlib.Nat.{eq-or-lt_of_le}
use native.Mathlib.Numerals.{add-one}
use native.Mathlib.Omega.{arith}
use lib.ListN.{length, drop, length-append}
use Rattle.base_number.specs.Number.{written}
use Rattle.base_number.proofs.Fields.{front-next}
use Rattle.machine.specs.Names.{Bytes}
use Rattle.mem_row.specs.Row.{head_at, span}
use Rattle.call_uploads.specs.Records.{record_at}
use Rattle.call_uploads.specs.Notes.{place_noted, parts_noted, RowsNoted, records_noted}

-- the records of the first i notes stand at the front of b, which was b₀, and the next goes to `to`
pub record Written (t notes b₀ b : List ℕ) (i to : ℕ) : Type 0 where
  pub sized : to ≡ length (records_noted t notes i)
  pub bytes : b ≡ records_noted t notes i ++ drop to b₀
  pub same : length b ≡ length b₀

pub written_none : (t notes b : List ℕ) → Written t notes b b 0 0
unfolding records_noted
written_none t notes b = record { sized = refl; bytes = refl; same = refl }

-- fewer notes have no more bytes
records-fewer : (t notes : List ℕ) (i n : ℕ) → i ≤ n → length (records_noted t notes i) ≤ length (records_noted t notes n)
unfolding records_noted
records-fewer t notes i zero l = let e : i ≡ 0 = omega arith in rw e (omega arith)
records-fewer t notes i (suc n) l =
    ⊎_elim
    (λ (e : i ≡ suc n). rw e (omega arith))
    (λ (less : i < suc n). omega (arith, records-fewer t notes i n (omega arith), length-append (records_noted t notes n) (record_at t (place_noted notes n) (parts_noted notes n))))
    (eq-or-lt_of_le l)

-- the next note is read
module _ (t notes b₀ b : List ℕ) (i to : ℕ) (w : Written t notes b₀ b i to) (at parts : ℕ) (e : at ≡ place_noted notes i) (f : parts ≡ parts_noted notes i) where
  abbrev more : Bytes
  more = record_at t at parts

  records-next : records_noted t notes (i + 1) ≡ records_noted t notes i ++ more
  unfolding records_noted
  records-next = ap (records_noted t notes) (add-one i) ∙ rw (e, f)

  size-next : length (records_noted t notes (i + 1)) ≡ to + length more
  size-next = let p = w.sized in omega (arith, ap length records-next, length-append (records_noted t notes i) more)

  pub row-stands : (n : ℕ) → i < n → RowsNoted t notes n → at + span (head_at (drop at t)) ≤ length t
  row-stands n l rows = rw e (rows i l)

  pub written-fits : (n : ℕ) → i < n → length (records_noted t notes n) ≤ length b₀ → to + length more ≤ length b
  written-fits n l room = let p = w.same in omega (arith, size-next, records-fewer t notes (i + 1) n (omega arith))

  pub written_next : (r : ℕ) (b₁ : List ℕ) → (r ≡ to + length more) × (b₁ ≡ written b to more) → length b₁ ≡ length b → Written t notes b₀ b₁ (i + 1) r
  written_next r b₁ told same =
      record {
        sized = told.0 ∙ sym size-next;
        bytes = front-next b₀ b b₁ (records_noted t notes i) more to (length more) w.bytes (sym w.sized) told.1 ∙ ap₂ (λ (x : List ℕ) (k : ℕ). x ++ drop k b₀) (sym records-next) (sym told.0);
        same = same ∙ w.same;
      }
