-- The row of object i among all rows, and those before and after it. Assumes nothing.
use Prim.Native.Nat.{ℕ, suc, ◌+◌, ◌<◌}
use mathlib.Core.Path.{◌≡◌, ap, ◌∙◌}
use mathlib.Core.List.{List, [], ◌∷◌, ◌++◌, append_assoc}
use native.Mathlib.Numerals.{add-one}
use lib.ListN.{length, get_or, take, drop}
use lib.Seq.{take-suc, split_at}
use Rattle.machine.specs.Map.{Map}
use Rattle.machine.specs.Names.{Bytes}
use Rattle.machine.specs.Etags.{absent}
use Rattle.machine.specs.State.{Object, State}
use Rattle.mem_row.specs.Row.{Row}
use Rattle.mem_layout.specs.Memory.{object_row, object_rows, upload_rows, rows_of}
use Rattle.mem_find.proofs.Splits.{object-rows-append}

abbrev pub blank : Bytes × Object
blank = ([], record { content = []; created = 0; etag = absent; pairs = [] })

module _ (s : State) (i : ℕ) where
  abbrev pub entry : Bytes × Object
  entry = get_or s.O i blank

  abbrev pub row : Row
  row = object_row entry.0 entry.1

  unfoldable pub front : List Row
  front = object_rows (take i s.O)

  unfoldable pub rest : List Row
  rest = object_rows (drop (suc i) s.O) ++ upload_rows s.U

  module _ (l : i < length s.O) where
    pub split : rows_of s ≡ front ++ (row ∷ rest)
    unfolding rows_of object_rows front rest
    split =
        ap (λ (m : Map Bytes Object). object_rows m ++ upload_rows s.U) (split_at s.O i blank l)
        ∙ ap (λ (rs : List Row). rs ++ upload_rows s.U) (object-rows-append (take i s.O) (entry ∷ drop (suc i) s.O))
        ∙ append_assoc (object_rows (take i s.O)) (row ∷ object_rows (drop (suc i) s.O)) (upload_rows s.U)

    pub next-front : object_rows (take (i + 1) s.O) ≡ front ++ (row ∷ [])
    unfolding object_rows front
    next-front = ap (λ (n : ℕ). object_rows (take n s.O)) (add-one i) ∙ ap object_rows (take-suc s.O i blank l) ∙ object-rows-append (take i s.O) (entry ∷ [])
