-- Bytes of a path judged in blocks: what is counted beside the bytes before, and runs of a longer list that overlap. Assumes nothing.
use Prim.Native.Nat.{ℕ, zero, suc, ◌+◌, ◌-◌, ◌≤◌, ◌<◌}
use mathlib.Core.Path.{◌≡◌, refl, sym, ap, ap₂, ◌∙◌}
use mathlib.Core.Bool.{Bool, true, false, ◌&&◌, cond, and-false, and-true, and_comm}
use mathlib.Core.List.{List, [], ◌∷◌}
use native.Mathlib.Nat.{zero-add, add-zero, not-suc-le-zero, le_of_suc-le-suc}
use native.Mathlib.Numerals.{add-one}
use native.Mathlib.Omega.{arith}
use lib.Dec.{ltb, eqb}
use lib.ListN.{length, get_or, take, drop, length-drop, drop_of_length-le}
use lib.Seq.{drop-cons, take-take, drop-drop, get_or-take, get_or-drop}
use borrow.Author.Tests.{ne_eqb, ltb-true, ltb-false}
use Rattle.base_number.proofs.Fields.{drop-take}
use Rattle.names_ascii.specs.Faults.{stands, clean, fault_of, faults_beside, run}
use Rattle.names_ascii.proofs.FaultLaws.{fault-small}

-- the place in a block of 32 whose count goes on after i turns, where the last n count
abbrev pub place : (n i : ℕ) → ℕ
place n i = i + (32 - n - i)

beside-here : (a p : List ℕ) (i : ℕ) → i < length a → i < length p
    → faults_beside (drop i a) (drop i p) ≡ fault_of (get_or a i 0) (get_or p i 0) + faults_beside (drop (i + 1) a) (drop (i + 1) p)
unfolding faults_beside
beside-here a p i h l = rw (add-one, drop-cons a i 0, drop-cons p i 0)

-- a turn: what was counted and what is left is all
pub turn : (a p : List ℕ) (n i k r bad all : ℕ) → length a ≡ 32 → length p ≡ 32 → n ≤ 32 → i < 32 → k ≡ n + i
    → r ≡ cond (ltb k 32) 0 (fault_of (get_or a i 0) (get_or p i 0)) → bad + faults_beside (drop (place n i) a) (drop (place n i) p) ≡ all
    → bad + r + faults_beside (drop (place n (i + 1)) a) (drop (place n (i + 1)) p) ≡ all
turn a p n i k r bad all la lp small l k-is r-is was = go (ltb k 32) refl
  where
    go : (b : Bool) → ltb k 32 ≡ b → bad + r + faults_beside (drop (place n (i + 1)) a) (drop (place n (i + 1)) p) ≡ all
    go true e =
        let below : k < 32 = ltb-true k 32 e in
        let none : r ≡ 0 = r-is ∙ rw e in
        let same : place n (i + 1) ≡ place n i = omega arith in
        rw same (omega arith)
    go false e =
        let above : 32 ≤ k = ltb-false k 32 e in
        let one : r ≡ fault_of (get_or a i 0) (get_or p i 0) = r-is ∙ rw e in
        let here : place n i ≡ i = omega arith in
        let next : place n (i + 1) ≡ i + 1 = omega arith in
        let at_i : bad + faults_beside (drop i a) (drop i p) ≡ all = rw here at was in
        rw next (omega (arith, beside-here a p i (omega arith) (omega arith)))

pub turn_small : (k r x y : ℕ) → r ≡ cond (ltb k 32) 0 (fault_of x y) → r ≤ 1
turn_small k r x y e = go (ltb k 32) e
  where
    go : (b : Bool) → r ≡ cond b 0 (fault_of x y) → r ≤ 1
    go true e = omega arith
    go false e = omega (arith, fault-small x y)

pub beside_end : (a p : List ℕ) (i : ℕ) → length a ≤ i → faults_beside (drop i a) (drop i p) ≡ 0
unfolding faults_beside
beside_end a p i h = rw (drop_of_length-le a h)

pub beside-small : (a p : List ℕ) → faults_beside a p ≤ length p
unfolding faults_beside
beside-small [] p = omega arith
beside-small (x ∷ a) [] = omega arith
beside-small (x ∷ a) (b ∷ p) = omega (arith, fault-small x b, beside-small a p)

-- nothing is counted of k bytes after x where each may stand
beside-clean : (x : ℕ) (l : List ℕ) (k : ℕ) → eqb (faults_beside (take k (x ∷ l)) (take k l)) 0 ≡ clean x (take k l)
unfolding faults_beside fault_of clean
beside-clean x l zero = refl
beside-clean x [] (suc k) = refl
beside-clean x (b ∷ l) (suc k) = step (stands x b) (faults_beside (take k (b ∷ l)) (take k l)) (beside-clean b l k)
  where
    step : (here : Bool) (n : ℕ) → eqb n 0 ≡ clean b (take k l) → eqb (cond here 0 1 + n) 0 ≡ (here && clean b (take k l))
    step true n e = rw (zero-add n) e
    step false n e = ne_eqb (1 + n) 0 (λ q. omega arith)

-- n of 32 bytes from `start` on, after the others
part_of : (t : List ℕ) (start n j : ℕ) → start + 32 ≤ length t → n ≤ 32 → start + (32 - n) ≡ j → drop (32 - n) (take 32 (drop start t)) ≡ take n (drop j t)
part_of t start n j room small e =
    let k : 32 - (32 - n) ≡ n = omega arith in
    drop-take (32 - n) 32 (drop start t) (omega arith) (rw (length-drop start t) (omega arith))
    ∙ ap₂ (λ (n : ℕ) (l : List ℕ). take n l) k (drop-drop (32 - n) start t ∙ ap (λ (n : ℕ). drop n t) e)

module _ (end n : ℕ) (low : 33 ≤ end) (small : n ≤ 32) where
  before_at : end - 33 + (32 - n) ≡ end - (n + 1)
  before_at = omega arith

  bytes-at : end - 32 + (32 - n) ≡ suc (end - (n + 1))
  bytes-at = omega arith

  so-many : end - suc (end - (n + 1)) ≡ n
  so-many = omega arith

-- the last n bytes of a block that ends at `end`, as the code takes them
pub block_run : (t : List ℕ) (end n : ℕ) → 33 ≤ end → end ≤ length t → n ≤ 32
    → eqb (faults_beside (drop (32 - n) (take (end - 1 - (end - 33)) (drop (end - 33) t))) (drop (32 - n) (take (end - (end - 32)) (drop (end - 32) t)))) 0
    ≡ run t (end - (n + 1)) end
unfolding run
block_run t end n low room small =
    let i = end - (n + 1) in
    let a : end - 1 - (end - 33) ≡ 32 = omega arith in
    let b : end - (end - 32) ≡ 32 = omega arith in
    let inside : i < length t = omega arith in
    let before : drop (32 - n) (take 32 (drop (end - 33) t)) ≡ take n (drop i t) = part_of t (end - 33) n i (omega arith) small (before_at end n low small) in
    let bytes : drop (32 - n) (take 32 (drop (end - 32) t)) ≡ take n (drop (suc i) t) = part_of t (end - 32) n (suc i) (omega arith) small (bytes-at end n low small) in
    rw (a, b, before, bytes, so-many end n low small, drop-cons t i 0 inside) (beside-clean (get_or t i 0) (drop (suc i) t) n)

start-clean : (before : ℕ) (p : List ℕ) (k : ℕ) → clean before p ≡ (clean before (take k p) && clean before p)
unfolding clean
start-clean before p zero = refl
start-clean before [] (suc k) = refl
start-clean before (b ∷ p) (suc k) = step (stands before b) (clean b (take k p)) (clean b p) (start-clean b p k)
  where
    step : (here x y : Bool) → y ≡ (x && y) → (here && y) ≡ (here && x && (here && y))
    step true x y e = e
    step false x y e = refl

-- two parts that overlap, or meet, are all of it
in_two : (before : ℕ) (p : List ℕ) (j k : ℕ) → j ≤ k → clean before p ≡ (clean before (take k p) && clean (get_or (before ∷ p) j 0) (drop j p))
unfolding clean
in_two before p zero k h = start-clean before p k
in_two before [] (suc j) zero h = absurd (not-suc-le-zero h)
in_two before [] (suc j) (suc k) h = refl
in_two before (b ∷ p) (suc j) zero h = absurd (not-suc-le-zero h)
in_two before (b ∷ p) (suc j) (suc k) h = step (stands before b) (clean b (take k p)) _ (clean b p) (in_two b p j k (le_of_suc-le-suc h))
  where
    step : (here x y z : Bool) → z ≡ (x && y) → (here && z) ≡ (here && x && y)
    step true x y z e = e
    step false x y z e = refl

pub two_runs : (t : List ℕ) (i j m to : ℕ) → i ≤ j → j < m → m ≤ to → to ≤ length t → run t i to ≡ (run t i m && run t j to)
unfolding run
two_runs t i j m to ij jm mto room =
    let p = take (to - suc i) (drop (suc i) t) in
    let first : take (m - suc i) p ≡ take (m - suc i) (drop (suc i) t) = take-take (m - suc i) (to - suc i) (drop (suc i) t) (omega arith) in
    let all : get_or t i 0 ∷ p ≡ take (suc (to - suc i)) (drop i t) = rw (drop-cons t i 0 (omega arith)) in
    let q : i + (j - i) ≡ j = omega arith in
    let s : suc i + (j - i) ≡ suc j = omega arith in
    let u : to - suc i - (j - i) ≡ to - suc j = omega arith in
    let at_j : get_or (get_or t i 0 ∷ p) (j - i) 0 ≡ get_or t j 0 =
    ap (λ (l : List ℕ). get_or l (j - i) 0) all
    ∙ get_or-take (suc (to - suc i)) (drop i t) (j - i) 0 (omega arith)
    ∙ get_or-drop i t (j - i) 0
    ∙ ap (λ (n : ℕ). get_or t n 0) q in
    let last : drop (j - i) p ≡ take (to - suc j) (drop (suc j) t) =
    drop-take (j - i) (to - suc i) (drop (suc i) t) (omega arith) (rw (length-drop (suc i) t) (omega arith))
    ∙ ap₂ (λ (n : ℕ) (l : List ℕ). take n l) u (drop-drop (j - i) (suc i) t ∙ ap (λ (n : ℕ). drop n t) s) in
    in_two (get_or t i 0) p (j - i) (m - suc i) (omega arith) ∙ ap₂ ◌&&◌ (ap (clean (get_or t i 0)) first) (ap₂ clean at_j last)

-- no byte
run-empty : (t : List ℕ) (to : ℕ) → 1 ≤ to → run t (to - 1) to ≡ true
unfolding run clean
run-empty t to h = let e : to - suc (to - 1) ≡ 0 = omega arith in rw e

-- what stands before a path does not count where its first byte is no "/"
any-before : (x y : ℕ) (p : List ℕ) → (get_or p 0 0 ≡ 47 → ⊥) → clean x p ≡ clean y p
unfolding clean stands
any-before x y [] n = refl
any-before x y (b ∷ p) n = rw (ne_eqb b 47 n, and-false (eqb x 47), and-false (eqb y 47))

pub path-run : (t : List ℕ) (from to : ℕ) → 1 ≤ from → from < to → to ≤ length t → (get_or t from 0 ≡ 47 → ⊥)
    → run t (from - 1) to ≡ clean 47 (take (to - from) (drop from t))
unfolding run
path-run t from to low some room n =
    let e : suc (from - 1) ≡ from = omega arith in
    let first : get_or (take (to - from) (drop from t)) 0 0 ≡ get_or t from 0 =
    get_or-take (to - from) (drop from t) 0 0 (omega arith) ∙ get_or-drop from t 0 0 ∙ ap (λ (n : ℕ). get_or t n 0) (add-zero from) in
    rw e (any-before (get_or t (from - 1) 0) 47 (take (to - from) (drop from t)) (λ q. n (sym first ∙ q)))

-- a path that begins with "/"
pub slash-first : (t : List ℕ) (from to : ℕ) → from < to → to ≤ length t → get_or t from 0 ≡ 47 → clean 47 (take (to - from) (drop from t)) ≡ false
unfolding clean stands
slash-first t from to some room e =
    let n : to - from ≡ suc (to - suc from) = omega arith in
    let inside : from < length t = omega arith in
    rw (n, drop-cons t from 0 inside, e)

none-in-two : (m n : ℕ) → eqb (m + n) 0 ≡ (eqb m 0 && eqb n 0)
none-in-two zero n = rw (zero-add n)
none-in-two (suc m) n = rw (ne_eqb (suc m + n) 0 (λ e. omega arith), ne_eqb (suc m) 0 (λ e. omega arith))

-- the first block, and then those at the end, from the last to the first
module _ (t : List ℕ) (from to : ℕ) (low : 33 ≤ from) (long : from + 32 < to) (room : to ≤ length t) where
  pub blocks_start : (bad : ℕ) → eqb bad 0 ≡ run t (from + 32 - 33) (from + 32) → eqb bad 0 ≡ (run t (from - 1) (from + 32) && run t (to - 1) to)
  blocks_start bad e =
      let z : from + 32 - 33 ≡ from - 1 = omega arith in
      rw (run-empty t to (omega arith)) (e ∙ ap (λ (i : ℕ). run t i (from + 32)) z ∙ sym (and-true (run t (from - 1) (from + 32))))

  module _ (bad end : ℕ) (was : eqb bad 0 ≡ (run t (from - 1) (from + 32) && run t (end - 1) to)) (inside : end ≤ to) where
    pub blocks-next : from + 32 < end → (r : ℕ) → eqb r 0 ≡ run t (end - 33) end
        → eqb (bad + r) 0 ≡ (run t (from - 1) (from + 32) && run t (end - 32 - 1) to)
    blocks-next more r e =
        let z : end - 32 - 1 ≡ end - 33 = omega arith in
        none-in-two bad r
        ∙ rw (was, e, z, two_runs t (end - 33) (end - 1) end to (omega arith) (omega arith) inside room)
        (turned (run t (from - 1) (from + 32)) (run t (end - 1) to) (run t (end - 33) end))
      where
        turned : (a b c : Bool) → (a && b && c) ≡ (a && (c && b))
        turned true b c = and_comm b c
        turned false b c = refl

    pub blocks_end : from < end → end ≤ from + 32 → (get_or t from 0 ≡ 47 → ⊥) → eqb bad 0 ≡ clean 47 (take (to - from) (drop from t))
    blocks_end some done n =
        was
        ∙ sym (two_runs t (from - 1) (end - 1) (from + 32) to (omega arith) (omega arith) (omega arith) room)
        ∙ path-run t from to (omega arith) (omega arith) room n
