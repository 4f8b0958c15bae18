-- The lines of the verbs that answer something say calls that tell it in their reply. Assumes nothing.
use Prim.Native.Nat.{ℕ}
use mathlib.Core.Path.{◌≡◌, sym, subst}
use mathlib.Core.List.{List, [], ◌∷◌}
use mathlib.Core.Option.{Option, some}
use native.Mathlib.Omega.{arith}
use Rattle.machine.specs.Names.{Bytes}
use Rattle.machine.specs.Pairs.{Pair}
use Rattle.c_reply.proofs.Telling.{Telling, get_tells, head-tells, list_tells, initiate-tells, part-tells, uploads-tells}
use Rattle.recording.specs.Entry.{Entry, call_of}
use Rattle.recording.specs.Entry as entry
use Rattle.recording.specs.Read.{Read, got, no, and_then, both, closed}
use Rattle.recording.specs.Parse.{number, string, pairs, path_rest, list_rest, initiate_rest, part_rest, whole}

-- the entry of a line has the shape that its verb gives
entry_of : {X : Type 0} (f : X → Entry) (y : Read X) (e : Entry) → whole (and_then y (λ x m. got (f x) m)) ≡ some e → (x : X) × (e ≡ f x)
entry_of f (got x []) e h = (x, sym (let s : f x ≡ e = cc in s))
entry_of f (got x (b ∷ m)) e h = let z : ◌≡◌ {A = ℕ} 0 1 = cc in absurd (omega arith)
entry_of f no e h = let z : ◌≡◌ {A = ℕ} 0 1 = cc in absurd (omega arith)

-- every entry of a line says a call that tells
unfoldable pub LinesTell : Option Entry → (answer pairsAnswer : Bytes) → Type 0
LinesTell o b p = (e : Entry) → o ≡ some e → Telling (call_of b p e)

module _ (b p l : Bytes) where
  pub get-tell : LinesTell (whole (path_rest entry.get l)) b p
  unfolding LinesTell path_rest
  get-tell e h = let w = entry_of entry.get (closed string l) e h in subst (λ (x : Entry). Telling (call_of b p x)) (sym w.1) (get_tells w.0 b p)

  pub head-tell : LinesTell (whole (path_rest entry.head l)) b p
  unfolding LinesTell path_rest
  head-tell e h = let w = entry_of entry.head (closed string l) e h in subst (λ (x : Entry). Telling (call_of b p x)) (sym w.1) (head-tells w.0 p)

  pub uploads-tell : LinesTell (whole (path_rest entry.uploads l)) b p
  unfolding LinesTell path_rest
  uploads-tell e h = let w = entry_of entry.uploads (closed string l) e h in subst (λ (x : Entry). Telling (call_of b p x)) (sym w.1) (uploads-tells w.0 b)

  pub list-tell : LinesTell (whole (list_rest l)) b p
  unfolding LinesTell list_rest
  list-tell e h =
      let w = entry_of (λ (a : Bytes × Bytes). entry.list a.0 a.1) (closed (both string string) l) e h in
      subst (λ (x : Entry). Telling (call_of b p x)) (sym w.1) (list_tells w.0.0 w.0.1 b)

  pub initiate-tell : LinesTell (whole (initiate_rest l)) b p
  unfolding LinesTell initiate_rest
  initiate-tell e h =
      let w = entry_of (λ (a : ℕ × (Bytes × List Pair)). entry.initiate a.0 a.1.0 a.1.1) (closed (both number (both string pairs)) l) e h in
      subst (λ (x : Entry). Telling (call_of b p x)) (sym w.1) (initiate-tells w.0.0 w.0.1.0 w.0.1.1)

  pub part-tell : LinesTell (whole (part_rest l)) b p
  unfolding LinesTell part_rest
  part-tell e h =
      let w = entry_of (λ (a : ℕ × (ℕ × Bytes)). entry.part a.0 a.1.0 a.1.1) (closed (both number (both number string)) l) e h in
      subst (λ (x : Entry). Telling (call_of b p x)) (sym w.1) (part-tells w.0.0 w.0.1.0 w.0.1.1)
