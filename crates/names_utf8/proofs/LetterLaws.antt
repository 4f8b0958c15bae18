-- RFC 3629's table and the three tests by which the code goes, one beside the other for all 256 bytes; then a character by its bytes.
-- Assumes nothing.
use Prim.Native.Nat.{ℕ, zero, suc, ◌+◌, ◌≤◌, ◌<◌}
use mathlib.Core.Path.{◌≡◌, refl, sym, ◌∙◌}
use mathlib.Core.Bool.{Bool, true, false, not, ◌&&◌, ◌||◌, cond, and-false, false≢true}
use mathlib.Core.List.{List, [], ◌∷◌}
use native.Mathlib.Nat.{not-suc-le-zero, le_of_suc-le-suc}
use native.Mathlib.Numerals.{add-one}
use native.Mathlib.Omega.{arith}
use lib.Dec.{leb, ltb, eqb, lit≤}
use lib.ListN.{length, get_or, drop, length-take, length-drop}
use lib.Seq.{drop-cons}
use borrow.Author.Tests.{eqb-true, eqb-false, ne_eqb, leb-true, le-leb, ltb-true, lt-ltb, le-ltb, not-true, not-false}
use Rattle.machine.specs.Names.{Range, ◌to◌, within, tail, forms, can_begin, following, characters, apart}
use Rattle.machine.proofs.Ranges.{below, passes, same_ranges, same-ranges}
use Rattle.names_utf8.specs.Letters.{width_of, least_of, most_of, due, Pair, Run, Letter}

and_left : (a b : Bool) → (a && b) ≡ true → a ≡ true
and_left true b e = refl
and_left false b e = e

and_right : (a b : Bool) → (a && b) ≡ true → b ≡ true
and_right true b e = e
and_right false b e = absurd (false≢true e)

agree : Bool → Bool → Bool
agree true b = b
agree false true = false
agree false false = true

agree-is : (a b : Bool) → agree a b ≡ true → a ≡ b
unfolding agree
agree-is true b e = sym e
agree-is false true e = absurd (false≢true e)
agree-is false false e = refl

right : ℕ → Bool
right b = agree (can_begin forms b) (ltb 0 (width_of b)) && same_ranges (following forms b) (due (width_of b) (least_of b) (most_of b))

all_right : below right 256 ≡ true
unfolding below right same_ranges agree width_of least_of most_of
all_right = refl

abbrev pub second_ok : (b c : ℕ) → Bool
second_ok b c = leb (least_of b) c && leb c (most_of b)

-- what is due, against the bytes that stand there
short : (rs : List Range) (q : List ℕ) → length q < length rs → characters rs q ≡ false
short [] q h = absurd (not-suc-le-zero h)
short (r ∷ rs) [] h = refl
short (r ∷ rs) (c ∷ q) h = rw (short rs q (le_of_suc-le-suc h)) (and-false (within r c))

due-length : (w low high : ℕ) → w ≤ 4 → w ≤ 1 + length (due w low high)
due-length zero low high h = omega arith
due-length (suc w) low high h = rw (length-take w (low to high ∷ tail ∷ tail ∷ [])) (omega arith)

second-wrong : (w low high c : ℕ) (q : List ℕ) → 2 ≤ w → (leb low c && leb c high) ≡ false → characters (due w low high) (c ∷ q) ≡ false
second-wrong zero low high c q h e = absurd (omega arith)
second-wrong (suc zero) low high c q h e = absurd (omega arith)
second-wrong (suc (suc w)) low high c q h e = rw e

third-wrong : (w low high c d : ℕ) (q : List ℕ) → 3 ≤ w → (leb 128 d && leb d 191) ≡ false → characters (due w low high) (c ∷ d ∷ q) ≡ false
third-wrong zero low high c d q h e = absurd (omega arith)
third-wrong (suc zero) low high c d q h e = absurd (omega arith)
third-wrong (suc (suc zero)) low high c d q h e = absurd (omega arith)
third-wrong (suc (suc (suc w))) low high c d q h e = rw e (and-false (leb low c && leb c high))

module _ (b : ℕ) (h : b < 256) where
  at_b : right b ≡ true
  at_b = passes right 256 all_right b h

  -- a character by its first byte
  pub by_first : (q : List ℕ) → characters [] (b ∷ q) ≡ (ltb 0 (width_of b) && characters (due (width_of b) (least_of b) (most_of b)) q)
  unfolding right
  by_first q =
      rw (
        agree-is (can_begin forms b) (ltb 0 (width_of b)) (and_left _ _ at_b),
        same-ranges (following forms b) (due (width_of b) (least_of b) (most_of b)) (and_right (agree (can_begin forms b) (ltb 0 (width_of b))) _ at_b),
      )

  pub cut_off : (q : List ℕ) → width_of b ≤ 4 → 1 + length q < width_of b → characters [] (b ∷ q) ≡ false
  cut_off q most l =
      rw
      (by_first q, short (due (width_of b) (least_of b) (most_of b)) q (omega (arith, due-length (width_of b) (least_of b) (most_of b) most)))
      (and-false (ltb 0 (width_of b)))

  pub no-first : (q : List ℕ) → width_of b ≡ 0 → characters [] (b ∷ q) ≡ false
  no-first q e = rw (by_first q, e)

  pub one : (q : List ℕ) → width_of b ≡ 1 → characters [] (b ∷ q) ≡ characters [] q
  one q e = rw (by_first q, e)

  pub no_second : (c : ℕ) (q : List ℕ) → 2 ≤ width_of b → second_ok b c ≡ false → characters [] (b ∷ c ∷ q) ≡ false
  no_second c q l e = rw (by_first (c ∷ q), second-wrong (width_of b) (least_of b) (most_of b) c q l e) (and-false (ltb 0 (width_of b)))

  pub two : (c : ℕ) (q : List ℕ) → width_of b ≡ 2 → second_ok b c ≡ true → characters [] (b ∷ c ∷ q) ≡ characters [] q
  two c q w e = rw (by_first (c ∷ q), w, e)

  pub no_third : (c d : ℕ) (q : List ℕ) → 3 ≤ width_of b → (leb 128 d && leb d 191) ≡ false → characters [] (b ∷ c ∷ d ∷ q) ≡ false
  no_third c d q l e = rw (by_first (c ∷ d ∷ q), third-wrong (width_of b) (least_of b) (most_of b) c d q l e) (and-false (ltb 0 (width_of b)))

  pub three : (c d : ℕ) (q : List ℕ) → width_of b ≡ 3 → second_ok b c ≡ true → (leb 128 d && leb d 191) ≡ true → characters [] (b ∷ c ∷ d ∷ q) ≡ characters [] q
  three c d q w e f = rw (by_first (c ∷ d ∷ q), w, e, f)

  pub no-fourth : (c d g : ℕ) (q : List ℕ) → width_of b ≡ 4 → (leb 128 g && leb g 191) ≡ false → characters [] (b ∷ c ∷ d ∷ g ∷ q) ≡ false
  no-fourth c d g q w e = rw (by_first (c ∷ d ∷ g ∷ q), w, e) (rw (and-false (leb 128 d && leb d 191)) (and-false (second_ok b c)))

  pub four : (c d g : ℕ) (q : List ℕ) → width_of b ≡ 4 → second_ok b c ≡ true → (leb 128 d && leb d 191) ≡ true → (leb 128 g && leb g 191) ≡ true → characters [] (b ∷ c ∷ d ∷ g ∷ q) ≡ characters [] q
  four c d g q w e f k = rw (by_first (c ∷ d ∷ g ∷ q), w, e, f, k)

-- the bytes from i on
pub from_one : (p : List ℕ) (i : ℕ) → i < length p → drop i p ≡ get_or p i 0 ∷ drop (i + 1) p
from_one p i h = rw (add-one, drop-cons p i 0)

pub from-two : (p : List ℕ) (i : ℕ) → i + 1 < length p → drop i p ≡ get_or p i 0 ∷ get_or p (i + 1) 0 ∷ drop (i + 2) p
from-two p i h =
    let e : i + 2 ≡ i + 1 + 1 = omega arith in
    rw (e, from_one p i (omega arith), from_one p (i + 1) h)

pub from-three : (p : List ℕ) (i : ℕ) → i + 2 < length p → drop i p ≡ get_or p i 0 ∷ get_or p (i + 1) 0 ∷ get_or p (i + 2) 0 ∷ drop (i + 3) p
from-three p i h =
    let e : i + 3 ≡ i + 2 + 1 = omega arith in
    rw (e, from-two p i (omega arith), from_one p (i + 2) h)

pub from-four : (p : List ℕ) (i : ℕ) → i + 3 < length p → drop i p ≡ get_or p i 0 ∷ get_or p (i + 1) 0 ∷ get_or p (i + 2) 0 ∷ get_or p (i + 3) 0 ∷ drop (i + 4) p
from-four p i h =
    let e : i + 4 ≡ i + 3 + 1 = omega arith in
    rw (e, from-three p i (omega arith), from_one p (i + 3) h)

width-most : (b : ℕ) → width_of b ≤ 4
unfolding width_of
width-most b = go (ltb b 33) (ltb b 127) (ltb b 194) (ltb b 224) (ltb b 240) (ltb b 245)
  where
    go : (s t u v w x : Bool) → cond s 0 (cond t 1 (cond u 0 (cond v 2 (cond w 3 (cond x 4 0))))) ≤ 4
    go true t u v w x = lit≤ tt
    go false true u v w x = lit≤ tt
    go false false true v w x = lit≤ tt
    go false false false true w x = lit≤ tt
    go false false false false true x = lit≤ tt
    go false false false false false true = lit≤ tt
    go false false false false false false = lit≤ tt

-- what the code saw of the second byte
pub second-no : (b low high c : ℕ) (r : Bool) → r ≡ (leb low c && leb c high) → low ≡ least_of b → high ≡ most_of b → not r ≡ true → second_ok b c ≡ false
second-no b low high c r e l m n = rw (← l, ← m) (sym e ∙ not-true r n)

pub second-yes : (b low high c : ℕ) (r : Bool) → r ≡ (leb low c && leb c high) → low ≡ least_of b → high ≡ most_of b → not r ≡ false → second_ok b c ≡ true
second-yes b low high c r e l m n = rw (← l, ← m) (sym e ∙ not-false r n)

-- only the first byte of a character can be a "/"
far : ℕ → Bool
far b = not (leb 2 (width_of b)) || (ltb 47 b && ltb 47 (least_of b))

all-far : below far 256 ≡ true
unfolding below far width_of least_of
all-far = refl

first-far : (b : ℕ) → b < 256 → 2 ≤ width_of b → 47 < b
unfolding far
first-far b h l =
    let t : (ltb 47 b && ltb 47 (least_of b)) ≡ true = rw (le-leb 2 (width_of b) l) at (passes far 256 all-far b h) in
    ltb-true 47 b (and_left (ltb 47 b) _ t)

second-far : (b c : ℕ) → b < 256 → 2 ≤ width_of b → second_ok b c ≡ true → 47 < c
unfolding far
second-far b c h l e =
    let t : (ltb 47 b && ltb 47 (least_of b)) ≡ true = rw (le-leb 2 (width_of b) l) at (passes far 256 all-far b h) in
    omega (arith, ltb-true 47 (least_of b) (and_right (ltb 47 b) _ t), leb-true (least_of b) c (and_left (leb (least_of b) c) _ e))

tail-far : (c : ℕ) → (leb 128 c && leb c 191) ≡ true → 47 < c
tail-far c e = omega (arith, leb-true 128 c (and_left (leb 128 c) _ e))

-- what stands before counts where it is a "/" alone
apart-any : (x y : ℕ) (q : List ℕ) → 47 < x → 47 < y → apart x q ≡ apart y q
apart-any x y [] hx hy = refl
apart-any x y (b ∷ q) hx hy = rw (ne_eqb x 47 (λ e. omega arith), ne_eqb y 47 (λ e. omega arith))

-- a byte after the first
apart-over : (x c : ℕ) (q : List ℕ) → 47 < x → 47 < c → apart x (c ∷ q) ≡ apart x q
apart-over x c q hx hc = rw (ne_eqb x 47 (λ e. omega arith)) (apart-any c x q hc hx)

pair-first : (b : ℕ) → 194 < b → b < 224 → (width_of b ≡ 2) × (least_of b ≡ 128) × (most_of b ≡ 191)
unfolding width_of least_of most_of
pair-first b low high = (
  rw (le-ltb b 33 (omega arith), le-ltb b 127 (omega arith), le-ltb b 194 (omega arith), lt-ltb b 224 high),
  rw (ne_eqb b 194 (λ e. omega arith), ne_eqb b 224 (λ e. omega arith), ne_eqb b 240 (λ e. omega arith)),
  rw (ne_eqb b 237 (λ e. omega arith), ne_eqb b 244 (λ e. omega arith)),
)

over-byte : (b : ℕ) (p : List ℕ) (j k : ℕ) → k ≡ j + 1 → j < length p → 47 < b → 47 < get_or p j 0 → apart b (drop j p) ≡ apart b (drop k p)
over-byte b p j k e h hb hc = rw (e, from_one p j h) (apart-over b (get_or p j 0) (drop (j + 1) p) hb hc)

module _ (p : List ℕ) (i : ℕ) (known : get_or p i 0 < 256) where
  nothing : i ≤ length p → characters [] (drop i p) ≡ false → Letter p i 0
  nothing h e = record { inside = omega arith; rest = e; parted = λ before none. absurd (omega arith) }

  passed : (w : ℕ) → 1 ≤ w → i + w ≤ length p → characters [] (drop i p) ≡ characters [] (drop (i + w) p)
      → apart (get_or p i 0) (drop (i + 1) p) ≡ apart (get_or p i 0) (drop (i + w) p) → Letter p i w
  passed w l h e skipped = record { inside = h; rest = rw (lt-ltb 0 w l) e; parted = λ before some. rw (from_one p i (omega arith), skipped) }

  pub is-cut-off : i < length p → length p < i + width_of (get_or p i 0) → Letter p i 0
  is-cut-off h l =
      nothing (omega arith)
      (rw (from_one p i h) (cut_off (get_or p i 0) known (drop (i + 1) p) (width-most (get_or p i 0)) (omega (arith, length-drop (i + 1) p))))

  pub is-short : (w : ℕ) → w ≡ width_of (get_or p i 0) → w < 2 → i < length p → Letter p i w
  is-short zero e l h = nothing (omega arith) (rw (from_one p i h) (no-first (get_or p i 0) known (drop (i + 1) p) (sym e)))
  is-short (suc zero) e l h = passed 1 (lit≤ tt) (omega arith) (rw (from_one p i h) (one (get_or p i 0) known (drop (i + 1) p) (sym e))) refl
  is-short (suc (suc w)) e l h = absurd (omega arith)

  pub is-no-second : i + 1 < length p → 2 ≤ width_of (get_or p i 0) → second_ok (get_or p i 0) (get_or p (i + 1) 0) ≡ false → Letter p i 0
  is-no-second h l e = nothing (omega arith) (rw (from-two p i h) (no_second (get_or p i 0) known (get_or p (i + 1) 0) (drop (i + 2) p) l e))

  over-two : (w : ℕ) → 2 ≤ width_of (get_or p i 0) → i + 1 < length p → second_ok (get_or p i 0) (get_or p (i + 1) 0) ≡ true
      → apart (get_or p i 0) (drop (i + 1) p) ≡ apart (get_or p i 0) (drop (i + 2) p)
  over-two w l h s =
      over-byte (get_or p i 0) p (i + 1) (i + 2) (omega arith) h (first-far (get_or p i 0) known l) (second-far (get_or p i 0) (get_or p (i + 1) 0) known l s)

  pub is-two : (w : ℕ) → w ≡ width_of (get_or p i 0) → w ≡ 2 → i + 1 < length p → second_ok (get_or p i 0) (get_or p (i + 1) 0) ≡ true → Letter p i w
  is-two w e n h s =
      rw n
      (passed 2 (lit≤ tt) (omega arith) (rw (from-two p i h) (two (get_or p i 0) known (get_or p (i + 1) 0) (drop (i + 2) p) (sym e ∙ n) s))
      (over-two w (omega arith) h s))

  -- two bytes as most letters outside ASCII have, C3 to DF and a tail
  pub is-pair : 194 < get_or p i 0 → get_or p i 0 < 224 → i + 1 < length p → (leb 128 (get_or p (i + 1) 0) && leb (get_or p (i + 1) 0) 191) ≡ true → Letter p i 2
  is-pair low high h t =
      let q = pair-first (get_or p i 0) low high in
      is-two 2 (sym q.0) refl h (rw (q.1, q.2) t)

  pub is-no-third : i + 2 < length p → 3 ≤ width_of (get_or p i 0) → (leb 128 (get_or p (i + 2) 0) && leb (get_or p (i + 2) 0) 191) ≡ false → Letter p i 0
  is-no-third h l e =
      nothing (omega arith)
      (rw (from-three p i h) (no_third (get_or p i 0) known (get_or p (i + 1) 0) (get_or p (i + 2) 0) (drop (i + 3) p) l e))

  pub is-three : (w : ℕ) → w ≡ width_of (get_or p i 0) → w ≡ 3 → i + 2 < length p → second_ok (get_or p i 0) (get_or p (i + 1) 0) ≡ true
      → (leb 128 (get_or p (i + 2) 0) && leb (get_or p (i + 2) 0) 191) ≡ true → Letter p i w
  is-three w e n h s t =
      rw n
      (passed 3 (lit≤ tt) (omega arith)
      (rw (from-three p i h) (three (get_or p i 0) known (get_or p (i + 1) 0) (get_or p (i + 2) 0) (drop (i + 3) p) (sym e ∙ n) s t))
      (over-two w (omega arith) (omega arith) s ∙ over-byte (get_or p i 0) p (i + 2) (i + 3) (omega arith) h (first-far (get_or p i 0) known (omega arith)) (tail-far (get_or p (i + 2) 0) t)))

  pub is-no-fourth : i + 3 < length p → 4 ≤ width_of (get_or p i 0) → (leb 128 (get_or p (i + 3) 0) && leb (get_or p (i + 3) 0) 191) ≡ false → Letter p i 0
  is-no-fourth h l e =
      let n : width_of (get_or p i 0) ≡ 4 = omega (arith, width-most (get_or p i 0)) in
      nothing (omega arith)
      (rw (from-four p i h) (no-fourth (get_or p i 0) known (get_or p (i + 1) 0) (get_or p (i + 2) 0) (get_or p (i + 3) 0) (drop (i + 4) p) n e))

  pub is-four : (w : ℕ) → w ≡ width_of (get_or p i 0) → 4 ≤ w → i + 3 < length p → second_ok (get_or p i 0) (get_or p (i + 1) 0) ≡ true
      → (leb 128 (get_or p (i + 2) 0) && leb (get_or p (i + 2) 0) 191) ≡ true → (leb 128 (get_or p (i + 3) 0) && leb (get_or p (i + 3) 0) 191) ≡ true → Letter p i w
  is-four w e l h s t u =
      let n : w ≡ 4 = omega (arith, width-most (get_or p i 0)) in
      let far-first : 47 < get_or p i 0 = first-far (get_or p i 0) known (omega arith) in
      rw n
      (passed 4 (lit≤ tt) (omega arith)
      (rw (from-four p i h)
      (four (get_or p i 0) known (get_or p (i + 1) 0) (get_or p (i + 2) 0) (get_or p (i + 3) 0) (drop (i + 4) p) (sym e ∙ n) s t u))
      (over-two w (omega arith) (omega arith) s
      ∙ over-byte (get_or p i 0) p (i + 2) (i + 3) (omega arith) (omega arith) far-first (tail-far (get_or p (i + 2) 0) t)
      ∙ over-byte (get_or p i 0) p (i + 3) (i + 4) (omega arith) h far-first (tail-far (get_or p (i + 3) 0) u)))

  -- such letters one after the other
  pub is-run : (r : ℕ) → Run p i (i + r) → 0 < r → Letter p i r
  is-run r run some = passed r some run.inside run.rest (run.skipped (omega arith))

pub run_none : (p : List ℕ) (i : ℕ) → i < length p → Run p i i
run_none p i h = record { forward = omega arith; inside = omega arith; rest = refl; first = λ l. absurd (omega arith); skipped = λ l. absurd (omega arith) }

pub run_more : (p : List ℕ) (i k : ℕ) → get_or p k 0 < 256 → k + 1 < length p → Run p i k → Pair (get_or p k 0) (get_or p (k + 1) 0) → Run p i (k + 2)
run_more p i k known h run two =
    let b-far : 47 < get_or p k 0 = (let l = two.low in omega arith) in
    let c-far : 47 < get_or p (k + 1) 0 = tail-far (get_or p (k + 1) 0) two.second in
    record {
      forward = (let f = run.forward in omega arith);
      inside = omega arith;
      rest = run.rest ∙ (is-pair p k known two.low two.high h two.second).rest;
      first = λ l. go-first (eqb i k) refl b-far;
      skipped = λ l. go-over (eqb i k) refl b-far c-far;
    }
  where
    before : eqb i k ≡ false → i < k
    before q = let f = run.forward in let n : i ≡ k → ⊥ = eqb-false i k q in omega arith

    go-first : (t : Bool) → eqb i k ≡ t → 47 < get_or p k 0 → 47 < get_or p i 0
    go-first true q f = rw (eqb-true i k q) f
    go-first false q f = run.first (before q)

    go-over : (t : Bool) → eqb i k ≡ t → 47 < get_or p k 0 → 47 < get_or p (k + 1) 0 → apart (get_or p i 0) (drop (i + 1) p) ≡ apart (get_or p i 0) (drop (k + 2) p)
    go-over true q f g = rw (eqb-true i k q) (over-byte (get_or p k 0) p (k + 1) (k + 2) (omega arith) h f g)
    go-over false q f g =
        run.skipped (before q)
        ∙ over-byte (get_or p i 0) p k (k + 1) refl (omega arith) (run.first (before q)) f
        ∙ over-byte (get_or p i 0) p (k + 1) (k + 2) (omega arith) h (run.first (before q)) g
