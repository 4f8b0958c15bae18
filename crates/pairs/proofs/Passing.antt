-- Pairs passed one by one. Assumes nothing.
use Prim.Native.Nat.{ℕ, ◌+◌, ◌-◌, ◌≤◌, ◌<◌}
use mathlib.Core.Path.{◌≡◌, refl, sym, ap, ◌∙◌}
use mathlib.Core.Bool.{Bool, true, false, ◌&&◌, false≢true}
use mathlib.Core.List.{List, [], ◌∷◌}
use native.Mathlib.Omega.{arith}
use lib.ListN.{length, take, drop, length-drop}
use lib.Seq.{take_all, drop-drop}
use Rattle.machine.specs.Names.{Bytes}
use Rattle.machine.specs.Pairs.{Pair, every, key_ok, pair_ok, front_size, front_fits, front_pair, bad_pair, pair_list}
use Rattle.machine.proofs.Options.{both}
use Rattle.machine.proofs.PairBytes.{no_pairs, cut_off, front-pair, front-inside, front-size}

-- each pair keeps its rule
abbrev pub Formed : Bytes → Type 0
Formed bs = every pair_ok (pair_list bs) ≡ true

pub bad-is-bad : pair_ok bad_pair ≡ false
unfolding pair_ok key_ok
bad-is-bad = refl

-- bytes that begin with a pair, or with none
module _ (bs : Bytes) (h : 0 < length bs) where
  cut : front_fits bs ≡ false → every pair_ok (pair_list bs) ≡ false
  cut q = ap (every pair_ok) (cut_off bs h q) ∙ rw bad-is-bad

  first : front_fits bs ≡ true → every pair_ok (pair_list bs) ≡ pair_ok (front_pair bs) && every pair_ok (pair_list (drop (front_size bs) bs))
  first q = ap (every pair_ok) (front-pair bs h q)

  pub front-no : front_fits bs && pair_ok (front_pair bs) ≡ false → every pair_ok (pair_list bs) ≡ false
  front-no e = go (front_fits bs) refl
    where
      go : (b : Bool) → front_fits bs ≡ b → every pair_ok (pair_list bs) ≡ false
      go true q = first q ∙ (let n : pair_ok (front_pair bs) ≡ false = rw q at e in rw n)
      go false q = cut q

  pub front_fits_lem : Formed bs → front_fits bs ≡ true
  front_fits_lem f = go (front_fits bs) refl
    where
      go : (b : Bool) → front_fits bs ≡ b → front_fits bs ≡ true
      go true q = q
      go false q = absurd (false≢true (sym (cut q) ∙ f))

  pub tail-formed : Formed bs → Formed (drop (front_size bs) bs)
  tail-formed f = (both (pair_ok (front_pair bs)) (every pair_ok (pair_list (drop (front_size bs) bs))) (sym (first (front_fits_lem f)) ∙ f)).1

-- the bytes from a place on, as the code reads them
abbrev pub from : Bytes → ℕ → Bytes
from bs at = take (length bs - at) (drop at bs)

pub from_is : (bs : Bytes) (at : ℕ) → from bs at ≡ drop at bs
from_is bs at = take_all (length bs - at) (drop at bs) (omega (arith, length-drop at bs))

pub from-size : (bs : Bytes) (at : ℕ) → front_size (from bs at) ≡ front_size (drop at bs)
from-size bs at = ap front_size (from_is bs at)

pub after_front : (bs : Bytes) (n : ℕ) → n ≡ front_size bs → from bs n ≡ drop (front_size bs) bs
after_front bs n e = from_is bs n ∙ ap (λ (k : ℕ). drop k bs) e

pub none_left : (bs : Bytes) (at : ℕ) → length bs ≤ at → pair_list (drop at bs) ≡ []
none_left bs at h = no_pairs (drop at bs) (omega (arith, length-drop at bs))

-- at a place among pairs
module _ (bs : Bytes) (at : ℕ) (inside : at < length bs) where
  there : 0 < length (drop at bs)
  there = omega (arith, length-drop at bs)

  pub from-there : 0 < length (from bs at)
  from-there = omega (arith, ap length (from_is bs at), there)

  -- where the pair there ends
  module _ (fit : front_fits (drop at bs) ≡ true) where
    pub end-inside : at + front_size (drop at bs) ≤ length bs
    end-inside = omega (arith, front-inside (drop at bs) fit, length-drop at bs)

    pub end-further : at + 2 ≤ at + front_size (drop at bs)
    end-further = omega (arith, front-size (drop at bs) fit)

    -- the pair there, and those after it
    pub pair-here : (r : ℕ) → r ≡ at + front_size (drop at bs) → pair_list (drop at bs) ≡ front_pair (drop at bs) ∷ pair_list (drop r bs)
    pair-here r is =
        let q : drop (front_size (drop at bs)) (drop at bs) ≡ drop r bs = drop-drop (front_size (drop at bs)) at bs ∙ ap (λ (n : ℕ). drop n bs) (sym is) in
        front-pair (drop at bs) there fit ∙ ap (λ (l : Bytes). front_pair (drop at bs) ∷ pair_list l) q

  -- a test of the rule
  module _ (sofar : every pair_ok (pair_list (drop at bs)) ≡ every pair_ok (pair_list bs)) where
    pub formed-no : front_fits (from bs at) && pair_ok (front_pair (from bs at)) ≡ false → false ≡ every pair_ok (pair_list bs)
    formed-no e = sym (front-no (drop at bs) there (rw (from_is bs at) at e)) ∙ sofar

    module _ (e : front_fits (from bs at) && pair_ok (front_pair (from bs at)) ≡ true) where
      passed : (front_fits (drop at bs) ≡ true) × (pair_ok (front_pair (drop at bs)) ≡ true)
      passed = both (front_fits (drop at bs)) (pair_ok (front_pair (drop at bs))) (rw (from_is bs at) at e)

      pub ok-fits : front_fits (drop at bs) ≡ true
      ok-fits = passed.0

      pub formed-next : (r : ℕ) → r ≡ at + front_size (drop at bs) → every pair_ok (pair_list (drop r bs)) ≡ every pair_ok (pair_list bs)
      formed-next r is = sym (ap (every pair_ok) (pair-here ok-fits r is) ∙ rw passed.1) ∙ sofar

  -- among pairs that keep the rule
  module _ (f : Formed (drop at bs)) where
    pub here-fits : front_fits (drop at bs) ≡ true
    here-fits = front_fits_lem (drop at bs) there f

    pub from-fits : front_fits (from bs at) ≡ true
    from-fits = ap front_fits (from_is bs at) ∙ here-fits

    pub from-inside : at + front_size (from bs at) ≤ length bs
    from-inside = omega (arith, from-size bs at, end-inside here-fits)

    pub from-formed : Formed (from bs at)
    from-formed = rw (from_is bs at) f

    pub next-formed : (r : ℕ) → r ≡ at + front_size (drop at bs) → Formed (drop r bs)
    next-formed r is = (both (pair_ok (front_pair (drop at bs))) (every pair_ok (pair_list (drop r bs))) (sym (ap (every pair_ok) (pair-here here-fits r is)) ∙ f)).1

-- a number that is summed pair by pair: n is the sum over the pairs before `at`
pub record Summed (f : List Pair → ℕ) (bs : Bytes) (at n : ℕ) : Type 0 where
  pub within : at ≤ length bs
  pub formed : Formed (drop at bs)
  pub sum : n + f (pair_list (drop at bs)) ≡ f (pair_list bs)
  pub few : n ≤ at

module _ (f : List Pair → ℕ) (bs : Bytes) where
  pub summed-none : Formed bs → Summed f bs 0 0
  summed-none w = record { within = omega arith; formed = w; sum = omega arith; few = omega arith }

  module _ (at n : ℕ) (w : Summed f bs at n) where
    pub summed-all : f [] ≡ 0 → length bs ≤ at → n ≡ f (pair_list bs)
    summed-all z h = omega (arith, w.sum, ap f (none_left bs at h))

    pub summed-next : ((e : Pair) (l : List Pair) → f (e ∷ l) ≡ f (e ∷ []) + f l) → (r x : ℕ) → at < length bs → r ≡ at + front_size (drop at bs) → r ≤ length bs
        → x ≡ f (front_pair (from bs at) ∷ []) → at + x ≤ r → Summed f bs r (n + x)
    summed-next cons r x inside is more here small =
        let e = ap f (pair-here bs at inside (here-fits bs at inside w.formed) r is) ∙ cons (front_pair (drop at bs)) (pair_list (drop r bs)) in
        let z : x ≡ f (front_pair (drop at bs) ∷ []) = here ∙ ap (λ (l : Bytes). f (front_pair l ∷ [])) (from_is bs at) in
        record { within = more; formed = next-formed bs at inside w.formed r is; sum = omega (arith, w.sum); few = omega (arith, w.few) }

-- a test that the pairs before `at` do not decide
pub record Undecided (g : List Pair → Bool) (bs : Bytes) (at : ℕ) : Type 0 where
  pub within : at ≤ length bs
  pub formed : Formed (drop at bs)
  pub same : g (pair_list (drop at bs)) ≡ g (pair_list bs)

module _ (g : List Pair → Bool) (bs : Bytes) where
  pub undecided-none : Formed bs → Undecided g bs 0
  undecided-none w = record { within = omega arith; formed = w; same = refl }

  module _ (at : ℕ) (w : Undecided g bs at) where
    pub undecided-all : length bs ≤ at → g [] ≡ g (pair_list bs)
    undecided-all h = sym (ap g (none_left bs at h)) ∙ w.same

    module _ (inside : at < length bs) where
      here : (r : ℕ) → r ≡ at + front_size (drop at bs) → g (front_pair (drop at bs) ∷ pair_list (drop r bs)) ≡ g (pair_list bs)
      here r is = sym (ap g (pair-here bs at inside (here-fits bs at inside w.formed) r is)) ∙ w.same

      pub decided : (b : Bool) → ((r : ℕ) → r ≡ at + front_size (drop at bs) → b ≡ g (front_pair (drop at bs) ∷ pair_list (drop r bs))) → b ≡ g (pair_list bs)
      decided b e = e (at + front_size (drop at bs)) refl ∙ here (at + front_size (drop at bs)) refl

      pub undecided-next : (r : ℕ) → r ≡ at + front_size (drop at bs) → r ≤ length bs
          → g (front_pair (drop at bs) ∷ pair_list (drop r bs)) ≡ g (pair_list (drop r bs)) → Undecided g bs r
      undecided-next r is more e = record { within = more; formed = next-formed bs at inside w.formed r is; same = sym e ∙ here r is }
