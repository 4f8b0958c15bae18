-- A line whose arguments were read: it is a form where just its ")" is left. Assumes nothing.
use Prim.Native.Nat.{ℕ}
use mathlib.Core.Path.{◌≡◌, refl, sym, ap, ◌∙◌}
use mathlib.Core.Bool.{true, false, cond}
use mathlib.Core.List.{List, [], ◌∷◌}
use mathlib.Core.Option.{none, some}
use lib.Dec.{eqb}
use Rattle.base_order.specs.Order.{begins}
use Rattle.machine.specs.Names.{Bytes}
use Rattle.recording.specs.Entry.{Entry}
use Rattle.recording.specs.Read.{got, no, Reader, and_then, map_read, past, closed}
use Rattle.recording.specs.Parse.{Verb, verbs, by_verb, verb_index, by_index, whole, ends_line, parse}
use Rattle.recording.proofs.Readers.{by-test}

module _ {X : Type 0} (f : X → Entry) (r : Reader X) (l : Bytes) where
  -- no arguments
  pub whole-none : r l ≡ no → whole (map_read f (closed r) l) ≡ none
  whole-none e = rw e

  closes : (x : X) (rest : Bytes) → whole (and_then (past 41 (got x) rest) (λ y m. got (f y) m)) ≡ cond (ends_line rest) (some (f x)) none
  unfolding ends_line
  closes x [] = refl
  closes x (b ∷ []) = by-test (eqb b 41) (λ t. rw t) (λ t. rw t)
  closes x (b ∷ (c ∷ m)) = by-test (eqb b 41) (λ t. rw t) (λ t. rw t)

  pub whole-closed : (x : X) (rest : Bytes) → r l ≡ got x rest → whole (map_read f (closed r) l) ≡ cond (ends_line rest) (some (f x)) none
  whole-closed x rest e = rw e (closes x rest)

  -- something else is left
  pub whole_open : (x : X) (rest : Bytes) → r l ≡ got x rest → ends_line rest ≡ false → whole (map_read f (closed r) l) ≡ none
  whole_open x rest e t = whole-closed x rest e ∙ rw t

  -- the form
  pub whole-form : (x : X) (rest : Bytes) → r l ≡ got x rest → ends_line rest ≡ true → whole (map_read f (closed r) l) ≡ some (f x)
  whole-form x rest e t = whole-closed x rest e ∙ rw t

-- a verb is read by its index
by_index_lem : (vs : List Verb) (l : Bytes) → by_verb vs l ≡ by_index vs (verb_index vs l) l
by_index_lem [] l = refl
by_index_lem (v ∷ vs) l = by-test (begins v.0 l) (λ t. rw t) (λ t. rw t (by_index_lem vs l))

pub parse-at : (l : Bytes) (i : ℕ) → i ≡ verb_index verbs l → parse l ≡ whole (by_index verbs i l)
unfolding parse
parse-at l i e = ap whole (by_index_lem verbs l ∙ ap (λ (k : ℕ). by_index verbs k l) (sym e))
