-- Any other bytes in place of the free ones stand for the same state. Assumes nothing.
use Prim.Native.Nat.{ℕ}
use mathlib.Core.Path.{◌≡◌, sym, ap, ◌∙◌}
use mathlib.Core.List.{List, ◌++◌, append_assoc}
use native.Mathlib.Omega.{arith}
use lib.ListN.{length, take, drop, length-append, take-append-drop}
use lib.Seq.{take_at}
use Rattle.machine.specs.State.{State, held}
use Rattle.mem_row.specs.Row.{encode_rows, contents_of}
use Rattle.mem_layout.specs.Header.{encode_header}
use Rattle.mem_layout.specs.Memory.{rows_of, Stands}
use Rattle.mem_layout.proofs.RowCounts.{length-contents}
use Rattle.mem_layout.proofs.StandsLaws.{length-header}
use Rattle.mem_layout.specs.FreeBytes.{tables_used, SameButFree}

-- a list that begins as another does, and the rest of it
refilled : (n : ℕ) (front rest l l' : List ℕ) → length front ≡ n → l ≡ front ++ rest → take n l' ≡ take n l → l' ≡ front ++ drop n l'
refilled n front rest l l' s e same =
    sym (take-append-drop n l') ∙ ap (λ (x : List ℕ). x ++ drop n l') (same ∙ ap (take n) e ∙ take_at front rest n s)

module _ (t a t' a' : List ℕ) (s : State) (h : Stands t a s) (k : SameButFree s t a t' a') where
  abbrev used : List ℕ
  used = encode_header (length a) s ++ encode_rows (rows_of s)

  length-used : length used ≡ tables_used s
  unfolding tables_used
  length-used = omega (arith, length-append (encode_header (length a) s) (encode_rows (rows_of s)), length-header (length a) s h.small h.valid)

  tables-again : t' ≡ encode_header (length a) s ++ (encode_rows (rows_of s) ++ drop (tables_used s) t')
  tables-again =
      refilled (tables_used s) used h.tables-free t t' length-used
      (h.tables ∙ sym (append_assoc (encode_header (length a) s) (encode_rows (rows_of s)) h.tables-free))
      k.tables
      ∙ append_assoc (encode_header (length a) s) (encode_rows (rows_of s)) (drop (tables_used s) t')

  pub free_bytes : Stands t' a' s
  free_bytes =
      let l = k.arena-length in
      record {
        size = k.tables-length ∙ h.size;
        small = rw l h.small;
        valid = rw l h.valid;
        tables-free = drop (tables_used s) t';
        tables = tables-again ∙ rw l;
        arena-free = drop (held s) a';
        arena = refilled (held s) (contents_of (rows_of s)) h.arena-free a a' (length-contents s) h.arena k.arena;
      }
