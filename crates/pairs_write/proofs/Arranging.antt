-- The kept pairs written to memory in the map's order. Assumes nothing.
use Prim.Native.Nat.{ℕ, ◌+◌, ◌≤◌, ◌<◌}
use mathlib.Core.Path.{◌≡◌, refl, sym, ap, ap₂, ◌∙◌, subst}
use mathlib.Core.Bool.{Bool, true}
use mathlib.Core.List.{List, [], ◌∷◌, ◌++◌, append_assoc, append-nil}
use Rattle.std.specs.Prelude.{Option, Some, None}
use native.Mathlib.Omega.{arith}
use lib.ListN.{length, take, drop, length-append, take-append-drop}
use lib.Seq.{length-take-le}
use Rattle.base_number.specs.Number.{written}
use Rattle.base_number.proofs.Fields.{replaced_at, front-next}
use Rattle.base_order.specs.Order.{by_bytes}
use Rattle.machine.specs.Map.{Map, Ascending}
use Rattle.machine.specs.Names.{Bytes}
use Rattle.machine.specs.Pairs.{Pair, pair_ok, kept, pair_map, front_key, front_value, pair_list}
use Rattle.machine.proofs.MapKeep.{records-append}
use Rattle.machine.proofs.PairLaws.{Passes, key-short, value-short, map-ascending, map-passes, map-above}
use Rattle.pairs.proofs.Passing.{Formed, from, from_is}
use Rattle.pairs_stored.specs.Stored.{lengths_of, bytes_of, pair_lengths, pair_bytes}
use Rattle.pairs_write.specs.Picking.{next_above, picked_at, IsPick, Next}
use Rattle.pairs_write.proofs.Picking.{first, above, next-first, above-all, above-middle}

-- no pair is not a pair
none-some : {X : Type 0} {x : X} → None ≡ Some x → ⊥
none-some h = let z : ◌≡◌ {A = ℕ} 0 1 = cc in omega arith

-- what is picked first, and what is picked after a key
module _ (bs : Bytes) where
  abbrev l : List Pair
  l = pair_list bs

  first-picked : Formed bs → next_above [] None (kept l) ≡ first (pair_map l)
  unfolding pair_map
  first-picked e = next-first [] (kept l) [] tt ∙ ap first (above-all [] (pair_map l) (map-ascending l) (map-above (pair_map l) (map-passes pair_ok l e)))

  next-picked : (e : Pair) (a b : Map Bytes Bytes) → pair_map l ≡ a ++ e ∷ b → next_above e.0 None (kept l) ≡ first b
  unfolding pair_map
  next-picked e a b s =
      next-first e.0 (kept l) [] tt
      ∙ ap (λ (m : Map Bytes Bytes). first (above e.0 m)) s
      ∙ ap first (above-middle e a b (subst (Ascending by_bytes) s (map-ascending l)))

passes-middle : (f : Pair → Bool) (e : Pair) (a b : Map Bytes Bytes) → Passes f (a ++ e ∷ b) → f e ≡ true
passes-middle f e [] b p = p.0
passes-middle f e (x ∷ a) b p = passes-middle f e a b p.1

-- one pair more is written
module _ (a : Map Bytes Bytes) (k v : Bytes) where
  lengths-snoc : pair_lengths (a ++ (k, v) ∷ []) ≡ pair_lengths a ++ lengths_of k v
  unfolding pair_lengths
  lengths-snoc = records-append lengths_of a ((k, v) ∷ [])

  bytes-snoc : pair_bytes (a ++ (k, v) ∷ []) ≡ pair_bytes a ++ bytes_of k v
  unfolding pair_bytes
  bytes-snoc = records-append bytes_of a ((k, v) ∷ []) ∙ ap (λ (x : Bytes). pair_bytes a ++ x) (append-nil (k ++ v))

  lengths-within : (b : Map Bytes Bytes) → length (pair_lengths (a ++ (k, v) ∷ b)) ≡ length (pair_lengths a) + 2 + length (pair_lengths b)
  unfolding pair_lengths
  lengths-within b = ap length (records-append lengths_of a ((k, v) ∷ b)) ∙ length-append (pair_lengths a) (pair_lengths ((k, v) ∷ b)) ∙ omega arith

  bytes-within : (b : Map Bytes Bytes) → length (pair_bytes (a ++ (k, v) ∷ b)) ≡ length (pair_bytes a) + (length k + length v) + length (pair_bytes b)
  unfolding pair_bytes
  bytes-within b =
      omega (
        arith,
        ap length (records-append bytes_of a ((k, v) ∷ b)),
        length-append (pair_bytes a) (pair_bytes ((k, v) ∷ b)),
        length-append (k ++ v) (pair_bytes b),
        length-append k v,
      )

-- a buffer whose bytes from `start` to `end` are x, as it was elsewhere
pub record Filled (b₀ b x : Bytes) (start end : ℕ) : Type 0 where
  pub told : b ≡ (take start b₀ ++ x) ++ drop end b₀
  pub size : end ≡ start + length x
  pub room : start ≤ length b₀
  pub same : length b ≡ length b₀

filled_none : (b : Bytes) (start : ℕ) → start ≤ length b → Filled b b [] start start
filled_none b start h =
    let e : (take start b ++ []) ++ drop start b ≡ b = ap (λ (x : Bytes). x ++ drop start b) (append-nil (take start b)) ∙ take-append-drop start b in
    record { told = sym e; size = omega arith; room = h; same = refl }

filled_next : (b₀ b b' x y : Bytes) (start end n : ℕ) → Filled b₀ b x start end → b' ≡ replaced_at b end y n → length y ≡ n → length b' ≡ length b
    → Filled b₀ b' (x ++ y) start (end + n)
filled_next b₀ b b' x y start end n w e l same =
    let z : length (take start b₀ ++ x) ≡ end = omega (arith, length-append (take start b₀) x, length-take-le start b₀ w.room, w.size) in
    record {
      told = front-next b₀ b b' (take start b₀ ++ x) y end n w.told z e ∙ ap (λ (t : Bytes). t ++ drop (end + n) b₀) (append_assoc (take start b₀) x y);
      size = omega (arith, w.size, length-append x y);
      room = w.room;
      same = omega (arith, w.same);
    }

filled-all : (b₀ b x : Bytes) (start end : ℕ) → Filled b₀ b x start end → b ≡ written b₀ start x
filled-all b₀ b x start end w = w.told ∙ ap (λ (n : ℕ). (take start b₀ ++ x) ++ drop n b₀) w.size

-- the first pairs of the map are written, and the next is picked
pub record Arranged (bs l₀ l b₀ b : Bytes) (to at i j : ℕ) (pick : Option ℕ) : Type 0 where
  pub done : Map Bytes Bytes
  pub left : Map Bytes Bytes
  pub split : pair_map (pair_list bs) ≡ done ++ left
  pub picked : picked_at bs pick ≡ first left
  pub is : IsPick bs pick
  pub lengths : Filled l₀ l (pair_lengths done) to i
  pub bytes : Filled b₀ b (pair_bytes done) at j

pub arranged-none : {bs l b : Bytes} {to at : ℕ} {pick : Option ℕ} → Formed bs → to ≤ length l → at ≤ length b → Next bs [] pick → Arranged bs l l b b to at to at pick
unfolding pair_lengths pair_bytes
arranged-none {bs} {l} {b} {to} {at} f h g p =
    record {
      done = [];
      left = pair_map (pair_list bs);
      split = refl;
      picked = p.picked ∙ first-picked bs f;
      is = p.is;
      lengths = filled_none l to h;
      bytes = filled_none b at g;
    }

-- the pair that is picked, with its key and value: what comes after it, and that it has room
pub record Here (bs : Bytes) (done : Map Bytes Bytes) (to at i j : ℕ) (k v : Bytes) : Type 0 where
  pub rest : Map Bytes Bytes
  pub split : pair_map (pair_list bs) ≡ done ++ (k, v) ∷ rest
  pub key-small : length k < 256
  pub value-small : length v < 256
  pub lengths-room : i + 2 ≤ to + length (pair_lengths (pair_map (pair_list bs)))
  pub bytes-room : j + (length k + length v) ≤ at + length (pair_bytes (pair_map (pair_list bs)))

module _ {bs l₀ l b₀ b : Bytes} {to at i j : ℕ} {pick : Option ℕ} (w : Arranged bs l₀ l b₀ b to at i j pick) where
  abbrev m : Map Bytes Bytes
  m = pair_map (pair_list bs)

  told : (x : Option ℕ) → pick ≡ x → picked_at bs x ≡ first w.left
  told x f = sym (ap (picked_at bs) f) ∙ w.picked

  pub arranged-all : pick ≡ None → (l ≡ written l₀ to (pair_lengths m)) × (b ≡ written b₀ at (pair_bytes m))
  arranged-all f = go w.left refl
    where
      go : (x : Map Bytes Bytes) → w.left ≡ x → (l ≡ written l₀ to (pair_lengths m)) × (b ≡ written b₀ at (pair_bytes m))
      go (e ∷ x) q = absurd (none-some (told None f ∙ ap first q))
      go [] q =
          let d : w.done ≡ m = sym (w.split ∙ ap (λ (x : Map Bytes Bytes). w.done ++ x) q ∙ append-nil w.done) in (
            filled-all l₀ l (pair_lengths w.done) to i w.lengths ∙ ap (λ (x : Map Bytes Bytes). written l₀ to (pair_lengths x)) d,
            filled-all b₀ b (pair_bytes w.done) at j w.bytes ∙ ap (λ (x : Map Bytes Bytes). written b₀ at (pair_bytes x)) d,
          )

  pub arranged-here : Formed bs → {place : ℕ} → pick ≡ Some place → {k v : Bytes} → k ≡ front_key (from bs place) → v ≡ front_value (from bs place) → Here bs w.done to at i j k v
  arranged-here h {place} f {k} {v} ke ve = go w.left refl
    where
      p : Some (k, v) ≡ first w.left
      p =
          ap₂ (λ (x y : Bytes). Some (x, y)) (ke ∙ ap front_key (from_is bs place)) (ve ∙ ap front_value (from_is bs place))
          ∙ told (Some place) f

      go : (x : Map Bytes Bytes) → w.left ≡ x → Here bs w.done to at i j k v
      go [] q = absurd (none-some (sym (p ∙ ap first q)))
      go (e ∷ x) q =
          let n : Some (k, v) ≡ Some e = p ∙ ap first q in
          let r : (k, v) ≡ e = cc in
          let s : m ≡ w.done ++ (k, v) ∷ x = w.split ∙ ap (λ (y : Map Bytes Bytes). w.done ++ y) q ∙ ap (λ (y : Pair). w.done ++ y ∷ x) (sym r) in
          let ok = passes-middle pair_ok (k, v) w.done x (subst (Passes pair_ok) s (map-passes pair_ok (pair_list bs) h)) in
          record {
            rest = x;
            split = s;
            key-small = omega (arith, key-short (k, v) ok);
            value-small = omega (arith, value-short (k, v) ok);
            lengths-room = omega (arith, w.lengths.size, ap (λ (y : Map Bytes Bytes). length (pair_lengths y)) s, lengths-within w.done k v x);
            bytes-room = omega (arith, w.bytes.size, ap (λ (y : Map Bytes Bytes). length (pair_bytes y)) s, bytes-within w.done k v x);
          }

  pub arranged-next : {k v : Bytes} → Here bs w.done to at i j k v → {l' b' : Bytes} → {pick' : Option ℕ}
      → l' ≡ replaced_at l i (lengths_of k v) 2 → length l' ≡ length l → b' ≡ replaced_at b j (bytes_of k v) (length k + length v) → length b' ≡ length b
      → Next bs k pick' → Arranged bs l₀ l' b₀ b' to at (i + 2) (j + (length k + length v)) pick'
  arranged-next {k} {v} h {l'} {b'} {pick'} el sl eb sb p =
      let n = length k + length v in
      record {
        done = w.done ++ (k, v) ∷ [];
        left = h.rest;
        split = h.split ∙ sym (append_assoc w.done ((k, v) ∷ []) h.rest);
        picked = p.picked ∙ next-picked bs (k, v) w.done h.rest h.split;
        is = p.is;
        lengths =
            subst (λ (x : Bytes). Filled l₀ l' x to (i + 2)) (sym (lengths-snoc w.done k v))
            (filled_next l₀ l l' (pair_lengths w.done) (lengths_of k v) to i 2 w.lengths el refl sl);
        bytes =
            subst (λ (x : Bytes). Filled b₀ b' x at (j + n)) (sym (bytes-snoc w.done k v))
            (filled_next b₀ b b' (pair_bytes w.done) (bytes_of k v) at j n w.bytes eb (length-append k v) sb);
      }
