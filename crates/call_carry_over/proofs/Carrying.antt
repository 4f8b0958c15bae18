-- Tables carried over: refused by a length or by the former test, or copied, and then they stand for the same state. Assumes nothing.
use Prim.Native.Nat.{ℕ, ◌+◌, ◌≤◌}
use mathlib.Core.Path.{◌≡◌, refl, sym, ap, ◌∙◌, subst}
use mathlib.Core.Bool.{true, false}
use mathlib.Core.List.{List, ◌++◌, append_assoc}
use native.Mathlib.Omega.{arith}
use borrow.Author.Tests.{eq-eqb, ne_eqb}
use lib.ListN.{length, drop}
use Rattle.base_number.specs.Number.{AreBytes, written}
use Rattle.machine.specs.State.{State}
use Rattle.mem_row.specs.Row.{encode_rows}
use Rattle.mem_layout.specs.Header.{encode_header}
use Rattle.mem_layout.specs.Memory.{rows_of, tables_length, former_tables_length, former_whole, StandsOf, Stands}
use Rattle.mem_layout.proofs.StandsLaws.{stands-state, stands-whole}
use Rattle.mem_former.specs.FormerMemory.{former_state, whole_before_e6}
use Rattle.mem_former.specs.FormerStands.{WithoutPairs}
use Rattle.mem_former.proofs.FormerWhole.{former-whole-same, former-stands-same}
use Rattle.mem_former.proofs.FormerStands.{former-without}
use Rattle.call_carry_over.specs.Carry.{carriable, carried, Carried}

module _ (former a t : List ℕ) where
  refused : carriable former a t ≡ false → Carried former a t 1 t
  refused wrong =
      record {
        answers = rw wrong;
        bytes = rw wrong;
        stands = λ z. absurd (omega arith);
        is_whole = λ z. absurd (omega arith);
        state = λ z. absurd (omega arith);
        no_pairs = λ z. absurd (omega arith);
        tables-length = refl;
      }

  pub other_length : (length t ≡ tables_length → ⊥) → Carried former a t 1 t
  unfolding carriable
  other_length n = refused (rw (ne_eqb _ _ n))

  module _ (l : length t ≡ tables_length) where
    pub not-whole : former_whole former a ≡ false → Carried former a t 1 t
    unfolding carriable
    not-whole wrong = refused (rw (eq-eqb _ _ l, ← (former-whole-same former a), wrong))

    module _ (b : AreBytes former) (w : former_whole former a ≡ true) where
      was : whole_before_e6 former a ≡ true
      was = sym (former-whole-same former a) ∙ w

      yes : carriable former a t ≡ true
      unfolding carriable
      yes = rw (eq-eqb _ _ l, was)

      abbrev s : State
      s = former_state former a

      stood : StandsOf former_tables_length former a s
      stood = former-stands-same former a b was

      pub former-fits : 0 + length former ≤ length t
      former-fits = omega (arith, stood.size)

      module _ (t' : List ℕ) (e : t' ≡ written t 0 former) (keeps : length t' ≡ length t) where
        abbrev rest : List ℕ
        rest = drop former_tables_length t

        copied : t' ≡ former ++ rest
        copied = let n : 0 + length former ≡ former_tables_length = omega (arith, stood.size) in e ∙ ap (λ (k : ℕ). former ++ drop k t) n

        tables-are : t' ≡ encode_header (length a) s ++ (encode_rows (rows_of s) ++ (stood.tables-free ++ rest))
        tables-are = copied ∙ ap (λ (x : List ℕ). x ++ rest) stood.tables ∙ simp append_assoc

        stands : Stands t' a s
        stands =
            record {
              size = keeps ∙ l;
              small = stood.small;
              valid = stood.valid;
              tables-free = stood.tables-free ++ rest;
              tables = tables-are;
              arena-free = stood.arena-free;
              arena = stood.arena;
            }

        pub carried-over : Carried former a t 0 t'
        unfolding carried
        carried-over =
            record {
              answers = rw yes;
              bytes = rw yes copied;
              stands = λ _. stands;
              is_whole = λ _. stands-whole t' a s stands;
              state = λ _. stands-state t' a s stands;
              no_pairs = λ _. subst WithoutPairs (sym (stands-state t' a s stands)) (former-without former a);
              tables-length = keeps;
            }
