-- What a path of GET or HEAD names is what the machine finds at it. Assumes nothing.
use Prim.Native.Nat.{ℕ}
use mathlib.Core.Path.{◌≡◌, refl, sym, ap, ap₂, ◌∙◌}
use mathlib.Core.Bool.{Bool, true, false, cond}
use mathlib.Core.List.{List, [], ◌∷◌}
use mathlib.Core.Option.{Option, none, some}
use native.Mathlib.Omega.{arith}
use lib.ListN.{length, take, drop}
use Rattle.base_number.specs.Number.{AreBytes}
use Rattle.base_order.specs.Order.{by_bytes}
use Rattle.base_order.proofs.OrderLaws.{bytes}
use Rattle.machine.specs.Map.{is_some, lookup}
use Rattle.machine.specs.Names.{Bytes, request_path_ok}
use Rattle.machine.specs.Etags.{absent}
use Rattle.machine.specs.State.{Object, State}
use Rattle.machine.specs.Calls.{Buffers, Outcome, badRequest, notFound, given, ◌else◌then◌}
use Rattle.machine.specs.Steps.{object_at, reply_of, after}
use Rattle.machine.specs.Valid.{ObjectOk}
use Rattle.machine.proofs.MapLaws.{every-lookup}
use Rattle.pairs_stored.proofs.Blocks.{kept_block}
use Rattle.mem_row.specs.declared.Head.{Head}
use Rattle.mem_row.specs.Row.{Row, head_at, row_at}
use Rattle.mem_row.proofs.RowLaws.{row_back}
use Rattle.mem_layout.specs.Memory.{whole, state_of, object_row, object_of, Stands}
use Rattle.mem_layout.proofs.ObjectLaws.{object-back}
use Rattle.mem_layout.proofs.WholeLaws.{whole-stands}
use Rattle.mem_find.specs.declared.Lookup.{Lookup}
use Rattle.mem_find.specs.Places.{place_after, before_object, after_object, object_place}
use Rattle.mem_find.proofs.RowsAt.{At, row-at}
use Rattle.mem_find.proofs.Splits.{object-found}
use Rattle.mem_find.proofs.PairSizes.{row-span, row-lengths}
use Rattle.std.specs.Prelude.{Ok, Err}
use Rattle.call_types.specs.declared.Refusal.{Refusal}
use Rattle.call_types.specs.declared.Refusal.TheVariants.{BadRequest, NotFound}
use Rattle.call_types.specs.Numbers.{number_of}
use Rattle.call_contract.specs.Answers.{refused}
use Rattle.call_get.specs.declared.Named.TheVariants as named
use Rattle.call_get.specs.Named.{named_in, stored_at, Holds}

-- the answers of `look_up` ------------------------------------------------------------------------------------------------

pub is-root : (s : State) (p : Bytes) → length p ≡ 0 → Ok named.Root ≡ named_in s p
unfolding named_in
is-root s [] e = refl
is-root s (c ∷ p) e = absurd (omega arith)

pub is-bad : (s : State) (p : Bytes) → (length p ≡ 0 → ⊥) → request_path_ok p ≡ false → Err BadRequest ≡ named_in s p
unfolding named_in
is-bad s [] not e = absurd (not refl)
is-bad s (c ∷ p) not e = rw e

found-is : (s : State) (p : Bytes) (x : Lookup) → x ≡ object_place s p → is_some (lookup by_bytes p s.O) ≡ x.found
unfolding object_place
found-is s p x e = ap (λ (y : Lookup). y.found) (sym e)

pub is-absent : (s : State) (p : Bytes) → (length p ≡ 0 → ⊥) → request_path_ok p ≡ true → (x : Lookup) → x ≡ object_place s p → x.found ≡ false → Err NotFound ≡ named_in s p
unfolding named_in
is-absent s [] not ok x e f = absurd (not refl)
is-absent s (c ∷ p) not ok x e f = rw (ok, found-is s (c ∷ p) x e, f)

pub is-object : (s : State) (p : Bytes) → (length p ≡ 0 → ⊥) → request_path_ok p ≡ true → (x : Lookup) → x ≡ object_place s p → x.found ≡ true → Ok (named.Object x.at x.base) ≡ named_in s p
unfolding named_in object_place
is-object s [] not ok x e f = absurd (not refl)
is-object s (c ∷ p) not ok x e f = rw (ok, found-is s (c ∷ p) x e, f) (ap (λ (y : Lookup). Ok (named.Object y.at y.base)) e)

-- what the machine finds at the path ---------------------------------------------------------------------------------------

-- a refusal
pub named-refused : (s : State) (p : Bytes) (r : Refusal) (b : Buffers) (k : Object → Outcome) → named_in s p ≡ Err r → refused (number_of r) b ≡ reply_of b (object_at s p k)
unfolding named_in object_at ◌else◌then◌ given
named-refused s [] r b k e = let z : ◌≡◌ {A = ℕ} 0 1 = cc in absurd (omega arith)
named-refused s (c ∷ p) r b k e = go (request_path_ok (c ∷ p)) (lookup by_bytes (c ∷ p) s.O) e
  where
    go : (ok : Bool) (o : Option Object)
        → cond ok (cond (is_some o) (Ok (named.Object (place_after (before_object s (c ∷ p))).at (place_after (before_object s (c ∷ p))).base)) (Err NotFound)) (Err BadRequest) ≡ Err r
        → refused (number_of r) b ≡ reply_of b (ok else badRequest then given o notFound k)
    go true (some x) q = let z : ◌≡◌ {A = ℕ} 0 1 = cc in absurd (omega arith)
    go true none q = let z : r ≡ NotFound = cc in rw z
    go false o q = let z : r ≡ BadRequest = cc in rw z

-- the root
pub named-root : (s : State) (p : Bytes) (k : Object → Outcome) → named_in s p ≡ Ok named.Root → object_at s p k ≡ k (record { content = []; created = 0; etag = absent; pairs = [] })
unfolding named_in object_at
named-root s [] k e = refl
named-root s (c ∷ p) k e = absurd (go (request_path_ok (c ∷ p)) (is_some (lookup by_bytes (c ∷ p) s.O)) e)
  where
    go : (ok held : Bool)
        → cond ok (cond held (Ok (named.Object (place_after (before_object s (c ∷ p))).at (place_after (before_object s (c ∷ p))).base)) (Err NotFound)) (Err BadRequest) ≡ Ok named.Root → ⊥
    go true true q = let z : ◌≡◌ {A = ℕ} 0 1 = cc in omega arith
    go true false q = let z : ◌≡◌ {A = ℕ} 0 1 = cc in omega arith
    go false held q = let z : ◌≡◌ {A = ℕ} 0 1 = cc in omega arith

-- the state stays where an object is looked at
pub object-keeps : (s : State) (p : Bytes) (k : Object → Outcome) → ((x : Object) → after s (k x) ≡ s) → after s (object_at s p k) ≡ s
unfolding object_at ◌else◌then◌ given
object-keeps s [] k h = h _
object-keeps s (b ∷ p) k h = go (request_path_ok (b ∷ p)) (lookup by_bytes (b ∷ p) s.O)
  where
    go : (ok : Bool) (o : Option Object) → after s (ok else badRequest then given o notFound k) ≡ s
    go true none = refl
    go true (some x) = h x
    go false o = refl

-- an object
pub record Here (s : State) (p : Bytes) (at base : ℕ) : Type 0 where
  pub object : Object
  pub found : lookup by_bytes p s.O ≡ some object
  pub at-is : at ≡ (place_after (before_object s p)).at
  pub base-is : base ≡ (place_after (before_object s p)).base
  pub follows : (k : Object → Outcome) → object_at s p k ≡ k object

pub named-object : (s : State) (p : Bytes) (at base : ℕ) → named_in s p ≡ Ok (named.Object at base) → Here s p at base
unfolding named_in object_at ◌else◌then◌ given
named-object s [] at base e = let z : ◌≡◌ {A = ℕ} 0 1 = cc in absurd (omega arith)
named-object s (c ∷ p) at base e = go (request_path_ok (c ∷ p)) (lookup by_bytes (c ∷ p) s.O) refl refl e
  where
    go : (ok : Bool) (o : Option Object) → request_path_ok (c ∷ p) ≡ ok → lookup by_bytes (c ∷ p) s.O ≡ o
        → cond ok (cond (is_some o) (Ok (named.Object (place_after (before_object s (c ∷ p))).at (place_after (before_object s (c ∷ p))).base)) (Err NotFound)) (Err BadRequest) ≡ Ok (named.Object at base)
        → Here s (c ∷ p) at base
    go true (some x) f g q = record { object = x; found = g; at-is = cc; base-is = cc; follows = λ k. rw (f, g) }
    go true none f g q = let z : ◌≡◌ {A = ℕ} 0 1 = cc in absurd (omega arith)
    go false o f g q = let z : ◌≡◌ {A = ℕ} 0 1 = cc in absurd (omega arith)

module _ (t a : List ℕ) (b : AreBytes t) (w : whole t a ≡ true) (p : Bytes) (at base : ℕ) (k : Here (state_of t a) p at base) where
  abbrev s : State
  s = state_of t a

  abbrev x : Object
  x = k.object

  stands : Stands t a s
  stands = whole-stands t a b w

  row_here : At t a s stands (before_object s p) (object_row p x) (after_object s p)
  row_here = row-at t a s stands (before_object s p) (object_row p x) (after_object s p) (object-found s p x k.found)

  object-ok : ObjectOk p x
  object-ok = every-lookup bytes ObjectOk p x s.O stands.valid.object k.found

  -- its row and its block
  pub here-holds : Holds t a at base
  here-holds =
      let r : Row = object_row p x in
      let f = k.base-is in
      let size : (head_at (drop at t)).size ≡ length r.content = ap (λ (i : ℕ). (head_at (drop i t)).size) k.at-is ∙ ap (λ (h : Head). h.size) row_here.head in
      let content : take (head_at (drop at t)).size (drop base a) ≡ r.content = ap₂ (λ (n m : ℕ). take n (drop m a)) size f ∙ row_here.content in
      let lengths = row-lengths t a s stands (before_object s p) r (after_object s p) row_here at k.at-is in
      record {
        row = row-span t a s stands (before_object s p) r (after_object s p) row_here at k.at-is;
        block = omega (arith, row_here.arena-inside);
        pairs = rw (lengths, content) (kept_block x.pairs x.content object-ok.pairs);
      }

  pub here-stored : stored_at t a at base ≡ x
  unfolding stored_at
  here-stored =
      ap₂ (λ (i j : ℕ). object_of (row_at (drop i t) (drop j a))) k.at-is k.base-is
      ∙ ap₂ (λ (r c : List ℕ). object_of (row_at r c)) row_here.row row_here.arena
      ∙ ap object_of (row_back (object_row p x) row_here.encodable _ _)
      ∙ object-back x object-ok.etag p
