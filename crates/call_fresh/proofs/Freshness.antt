-- FRESH: refused by a length, or a header over the tables, which then stand for the empty store. Assumes nothing.
use Prim.Native.Nat.{ℕ, ◌≤◌, ◌<◌}
use mathlib.Core.Path.{◌≡◌, refl, ◌∙◌}
use mathlib.Core.List.{List}
use native.Mathlib.Omega.{arith}
use borrow.Author.Tests.{eq-eqb, ne_eqb, le-leb, lt-leb}
use lib.ListN.{length, drop}
use Rattle.machine.specs.State.{fresh}
use Rattle.machine.specs.Calls.{◌else◌then◌}
use Rattle.machine.specs.Steps.{FRESH}
use Rattle.machine.proofs.KeepsValid.{fresh-valid}
use Rattle.mem_row.specs.Row.{encode_rows, contents_of}
use Rattle.mem_layout.specs.Memory.{object_rows, upload_rows, rows_of, Stands, tables_length, arena_most}
use Rattle.mem_layout.proofs.StandsLaws.{stands-state, stands-whole}
use Rattle.mem_layout.specs.Header.{header_bytes, headed, header_length}
use Rattle.call_contract.specs.Made.{memory, fresh_result, MadeFresh}

module _ (t a : List ℕ) where
  pub other-tables : (length t ≡ tables_length → ⊥) → MadeFresh (memory t a) 1 (memory t a)
  unfolding fresh_result
  other-tables n =
      record {
        answers = rw (ne_eqb _ _ n);
        state = λ z. absurd (omega arith);
        is_whole = λ z. absurd (omega arith);
        bytes = λ z. absurd (omega arith);
        arena = refl;
        tables-length = refl;
        refusal = λ _. refl;
      }

  pub large-arena : length t ≡ tables_length → arena_most < length a → MadeFresh (memory t a) 2 (memory t a)
  unfolding fresh_result FRESH ◌else◌then◌
  large-arena l h =
      record {
        answers = rw (eq-eqb _ _ l, lt-leb (length a) arena_most h);
        state = λ z. absurd (omega arith);
        is_whole = λ z. absurd (omega arith);
        bytes = λ z. absurd (omega arith);
        arena = refl;
        tables-length = refl;
        refusal = λ _. refl;
      }

  -- the header of the empty store
  module _ (l : length t ≡ tables_length) (h : length a ≤ arena_most) (t' : List ℕ) (keeps : length t' ≡ length t)
      (e : t' ≡ headed t (record { arena = length a; next = 1; objects = 0; uploads = 0; parts = 0 })) where
    stands : Stands t' a fresh
    unfolding header_bytes headed rows_of object_rows upload_rows encode_rows contents_of
    stands =
        record {
          size = keeps ∙ l;
          small = h;
          valid = fresh-valid (length a);
          tables-free = drop header_length t;
          tables = e;
          arena-free = a;
          arena = refl;
        }

    pub made-fresh : MadeFresh (memory t a) 0 (memory t' a)
    unfolding fresh_result FRESH ◌else◌then◌
    made-fresh =
        record {
          answers = rw (eq-eqb _ _ l, le-leb (length a) arena_most h);
          state = λ _. stands-state t' a fresh stands;
          is_whole = λ _. stands-whole t' a fresh stands;
          bytes = λ _. stands;
          arena = refl;
          tables-length = keeps;
          refusal = λ not. absurd (not refl);
        }
