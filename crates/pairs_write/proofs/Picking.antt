-- The kept pair with the smallest key above the last is the next of the map. Assumes nothing.
use Prim.Native.Nat.{Ordering}
use Prim.Native.Nat.{ℕ, ◌+◌, ◌≤◌, ◌<◌}
use mathlib.Core.Path.{◌≡◌, refl, sym, ap, subst, ◌∙◌}
use mathlib.Core.Bool.{Bool, true, false, not, ◌&&◌, cond}
use mathlib.Core.List.{List, [], ◌∷◌, ◌++◌}
use Rattle.std.specs.Prelude.{Option, Some, None}
use native.Mathlib.Omega.{arith}
use lib.ListN.{length, drop}
use Rattle.base_order.specs.Order.{by_bytes, is_below}
use Rattle.base_order.proofs.OrderLaws.{cases, bytes}
use Rattle.machine.specs.Map.{Map, insert, FirstAbove, Ascending, keep}
use Rattle.machine.specs.Names.{Bytes}
use Rattle.machine.specs.Pairs.{Pair, system_key, kept, arranged, front_size, front_key, front_fits, front_pair, pair_list}
use Rattle.machine.proofs.MapLaws.{above-chain, ascending-insert}
use Rattle.machine.proofs.MapSplits.{Below, below-middle}
use Rattle.machine.proofs.MapKeep.{keep_append}
use Rattle.pairs.proofs.Passing.{Formed, from, from_is, here-fits, pair-here, next-formed, none_left}
use Rattle.pairs_write.specs.Picking.{not_above, picks, next_above, is_better, picked_at, IsPick, Better, Next}

-- the first of a map
abbrev pub first : Map Bytes Bytes → Option Pair
first [] = None
first (e ∷ m) = Some e

-- the entries above a key
abbrev pub above : Bytes → Map Bytes Bytes → Map Bytes Bytes
above last = keep (λ k v. is_below last k)

-- a key below a map's is not above the first of those above the last
low : (last k : Bytes) (m : Map Bytes Bytes) → Ascending by_bytes m → FirstAbove by_bytes k m → not_above (first (above last m)) k ≡ true
low last k [] s a = refl
low last k (f ∷ m) s a = go (low last k m s.1 (above-chain bytes k f.0 m a s.0)) (is_below last f.0) refl
  where
    go : not_above (first (above last m)) k ≡ true → (b : Bool) → is_below last f.0 ≡ b → not_above (first (above last (f ∷ m))) k ≡ true
    go r true q = rw (q, bytes.under k f.0 a)
    go r false q = rw q r

-- whatever a pair that is not picked is tested for
same : (x y : Option Pair) (b : Bool) → cond (b && false) x y ≡ y
same x y true = refl
same x y false = refl

-- one pair more
abbrev Picked : (last : Bytes) (e : Pair) (m : Map Bytes Bytes) → Type 0
Picked last e m = cond (picks last (first (above last m)) e) (Some e) (first (above last m)) ≡ first (above last (insert by_bytes e.0 e.1 m))

pick-insert : (last : Bytes) (e : Pair) (m : Map Bytes Bytes) → Ascending by_bytes m → Picked last e m
unfolding picks
pick-insert last e [] s = go (is_below last e.0) refl
  where
    go : (b : Bool) → is_below last e.0 ≡ b → cond (is_below last e.0 && true) (Some e) None ≡ first (above last (e ∷ []))
    go true q = rw q
    go false q = rw q
pick-insert last e (f ∷ m) s =
    cases (by_bytes e.0 f.0)
    (λ q. less q (is_below last e.0) refl)
    (λ q. equal q (is_below last e.0) refl)
    (λ q. more q (pick-insert last e m s.1) (is_below last f.0) refl)
  where
    less : by_bytes e.0 f.0 ≡ Ordering.lt → (b : Bool) → is_below last e.0 ≡ b → Picked last e (f ∷ m)
    less q true p = rw (q, p, low last e.0 (f ∷ m) s q)
    less q false p = rw (q, p)

    equal : by_bytes e.0 f.0 ≡ Ordering.eq → (b : Bool) → is_below last e.0 ≡ b → Picked last e (f ∷ m)
    equal q true p =
        let k : e.0 ≡ f.0 = bytes.alike e.0 f.0 q in
        let p' : is_below last f.0 ≡ true = sym (ap (is_below last) k) ∙ p in
        let r : by_bytes f.0 e.0 ≡ Ordering.eq = ap (λ (x : Bytes). by_bytes x e.0) (sym k) ∙ bytes.self e.0 in
        rw (q, p, p', r)
    equal q false p =
        let p' : is_below last f.0 ≡ false = sym (ap (is_below last) (bytes.alike e.0 f.0 q)) ∙ p in
        rw (q, p, p')

    more : by_bytes e.0 f.0 ≡ Ordering.gt → Picked last e m → (b : Bool) → is_below last f.0 ≡ b → Picked last e (f ∷ m)
    more q r true p =
        let t : by_bytes f.0 e.0 ≡ Ordering.lt = bytes.over e.0 f.0 q in
        rw (q, p, t) (same (Some e) (Some f) (is_below last e.0))
    more q r false p = rw (q, p) r

-- a list of pairs more: what is picked from the list is the first above the last of the map that it is put into
pub next-first : (last : Bytes) (l : List Pair) (m : Map Bytes Bytes) → Ascending by_bytes m → next_above last (first (above last m)) l ≡ first (above last (arranged m l))
next-first last [] m s = refl
next-first last (e ∷ l) m s =
    ap (λ (b : Option Pair). next_above last b l) (pick-insert last e m s)
    ∙ next-first last l (insert by_bytes e.0 e.1 m) (ascending-insert bytes e.0 e.1 m s)

-- after a key of the map stands the rest of it
above-none : (k : Bytes) (a : Map Bytes Bytes) → Below by_bytes k a → above k a ≡ []
above-none k [] h = refl
above-none k (e ∷ a) h = rw h.0 (above-none k a h.1)

pub above-all : (k : Bytes) (a : Map Bytes Bytes) → Ascending by_bytes a → FirstAbove by_bytes k a → above k a ≡ a
above-all k [] s h = refl
above-all k (e ∷ a) s h = rw h (ap (λ (m : Map Bytes Bytes). e ∷ m) (above-all k a s.1 (above-chain bytes k e.0 a h s.0)))

after-ascending : (a b : Map Bytes Bytes) → Ascending by_bytes (a ++ b) → Ascending by_bytes b
after-ascending [] b s = s
after-ascending (e ∷ a) b s = after-ascending a b s.1

pub above-middle : (e : Pair) (a b : Map Bytes Bytes) → Ascending by_bytes (a ++ e ∷ b) → above e.0 (a ++ e ∷ b) ≡ b
above-middle e a b s =
    let t = after-ascending a (e ∷ b) s in
    keep_append (λ k v. is_below e.0 k) a (e ∷ b)
    ∙ ap (λ (m : Map Bytes Bytes). m ++ above e.0 (e ∷ b)) (above-none e.0 a (below-middle bytes e.0 e.1 a b s))
    ∙ rw (bytes.self e.0) (above-all e.0 b t.1 t.0)

-- The code's tests, in their order -------------------------------------------------------------------------------------------

-- the key that the code reads
here-key : (bs key : Bytes) (at : ℕ) → key ≡ front_key (from bs at) → key ≡ front_key (drop at bs)
here-key bs key at told = told ∙ ap front_key (from_is bs at)

-- it is tested against that of the pair that is picked
over : (bs key other : Bytes) (pick : Option ℕ) (best : ℕ) (b : Bool) → pick ≡ Some best → other ≡ front_key (from bs best) → b ≡ is_below other key
    → not_above (picked_at bs pick) key ≡ not b
over bs key other pick best b is said e = rw is (ap not (sym (e ∙ ap (λ (x : Bytes). is_below x key) (here-key bs other best said))))

module _ {bs last : Bytes} {pick : Option ℕ} {at : ℕ} where
  settled : (d : Bool) → is_better last (drop at bs) (picked_at bs pick) ≡ d
      → {r : Option ℕ} → picked_at bs r ≡ cond d (Some (front_pair (drop at bs))) (picked_at bs pick) → IsPick bs r → Better bs last pick at r
  settled d e q p = record { picked = q ∙ sym (ap (λ (x : Bool). cond x (Some (front_pair (drop at bs))) (picked_at bs pick)) e); is = p }

  module _ {key : Bytes} (told : key ≡ front_key (from bs at)) where
    pub better-system : IsPick bs pick → system_key key ≡ true → Better bs last pick at pick
    better-system p s = settled false (rw (sym (ap system_key (here-key bs key at told)) ∙ s)) refl p

    module _ (s : system_key key ≡ false) where
      pub better-low : IsPick bs pick → is_below last key ≡ false → Better bs last pick at pick
      unfolding picks
      better-low p b =
          let k = here-key bs key at told in
          settled false (rw (sym (ap system_key k) ∙ s, sym (ap (is_below last) k) ∙ b)) refl p

      module _ (b : is_below last key ≡ true) where
        -- the last test decides
        decided : (d : Bool) → not_above (picked_at bs pick) key ≡ d
            → {r : Option ℕ} → picked_at bs r ≡ cond d (Some (front_pair (drop at bs))) (picked_at bs pick) → IsPick bs r → Better bs last pick at r
        unfolding picks
        decided d e =
            let k = here-key bs key at told in
            settled d (rw (sym (ap system_key k) ∙ s, sym (ap (is_below last) k) ∙ b) (ap (not_above (picked_at bs pick)) (sym k) ∙ e))

        pub better-first : at < length bs → front_fits (drop at bs) ≡ true → pick ≡ None → Better bs last pick at (Some at)
        better-first h f e = decided true (rw e refl) refl (omega arith, f)

        module _ {best : ℕ} (is : pick ≡ Some best) {other : Bytes} (said : other ≡ front_key (from bs best)) where
          pub better-pick : IsPick bs pick → true ≡ is_below other key → Better bs last pick at (Some best)
          better-pick p e = subst (Better bs last pick at) is (decided false (over bs key other pick best true is said e) refl p)

          pub better-at : at < length bs → front_fits (drop at bs) ≡ true → false ≡ is_below other key → Better bs last pick at (Some at)
          better-at h f e = decided true (over bs key other pick best false is said e) refl (omega arith, f)

-- one pair passed
pass : (last : Bytes) (best : Option Pair) (e : Pair) (l : List Pair)
    → next_above last best (kept (e ∷ l)) ≡ next_above last (cond (not (system_key e.0) && picks last best e) (Some e) best) (kept l)
pass last best e l = go (system_key e.0) refl
  where
    go : (b : Bool) → system_key e.0 ≡ b
        → next_above last best (kept (e ∷ l)) ≡ next_above last (cond (not (system_key e.0) && picks last best e) (Some e) best) (kept l)
    go true q = rw q
    go false q = rw q

-- the pairs not yet passed decide, with the one that is picked
pub record Picking (bs last : Bytes) (pick : Option ℕ) (at : ℕ) : Type 0 where
  pub within : at ≤ length bs
  pub formed : Formed (drop at bs)
  pub is : IsPick bs pick
  pub same : next_above last (picked_at bs pick) (kept (pair_list (drop at bs))) ≡ next_above last None (kept (pair_list bs))

pub picking-none : (bs last : Bytes) → Formed bs → Picking bs last None 0
picking-none bs last f = record { within = omega arith; formed = f; is = tt; same = refl }

module _ {bs last : Bytes} {pick : Option ℕ} {at : ℕ} (w : Picking bs last pick at) where
  pub picking-all : length bs ≤ at → Next bs last pick
  picking-all h = record { picked = sym (ap (λ (l : List Pair). next_above last (picked_at bs pick) (kept l)) (none_left bs at h)) ∙ w.same; is = w.is }

  pub picking-next : {r : Option ℕ} {n : ℕ} → at < length bs → n ≡ at + front_size (drop at bs) → n ≤ length bs → Better bs last pick at r → Picking bs last r n
  picking-next {r} {n} inside e more b =
      let tail = pair_list (drop n bs) in
      let s = pair-here bs at inside (here-fits bs at inside w.formed) n e in
      record {
        within = more;
        formed = next-formed bs at inside w.formed n e;
        is = b.is;
        same =
            ap (λ (o : Option Pair). next_above last o (kept tail)) b.picked
            ∙ sym (pass last (picked_at bs pick) (front_pair (drop at bs)) tail)
            ∙ sym (ap (λ (l : List Pair). next_above last (picked_at bs pick) (kept l)) s)
            ∙ w.same;
      }
