-- A turn of a scan: what is said of the rows from an offset on, said of those after the first. Assumes nothing.
use Prim.Native.Nat.{ℕ, suc, ◌+◌, ◌-◌, ◌*◌, ◌≤◌, ◌<◌}
use mathlib.Core.Path.{◌≡◌, refl, sym, ap, ◌∙◌}
use mathlib.Core.Bool.{Bool, true, false, cond}
use mathlib.Core.List.{List}
use native.Mathlib.Nat.{add_assoc, add-sub_cancel_left}
use native.Mathlib.Omega.{arith}
use lib.ListN.{length, take, drop, length-drop}
use lib.Seq.{drop-drop, length-take-le}
use Rattle.base_number.proofs.NumberLaws.{bytes_drop}
use Rattle.base_number.specs.Number.{AreBytes}
use Rattle.mem_row.specs.declared.Head.{Head}
use Rattle.mem_row.specs.Row.{Row, head_at, digest_at, path_at, lengths_at, span_at, row_at, inside, head_of, good, numbers_length, head_length, span}
use Rattle.mem_row.proofs.RowLaws.{Inside, inside-true, head_at_lem}
use Rattle.mem_scan_rows.specs.declared.Offset.{Offset}
use Rattle.mem_scan_rows.specs.Scan.{reading_of, past, past_all}
use Rattle.std.specs.Prelude.{Option, Some, None}

-- an offset, by its two places
abbrev pub offset_at : (at base : ℕ) → Offset
offset_at at base = record { at = at; base = base }

reading-short : (t a : List ℕ) → reading_of t a ≡ None → inside t a ≡ false
unfolding reading_of
reading-short t a e = pick (inside t a) e
  where
    pick : (b : Bool) → cond b (Some (head_at t)) None ≡ None → b ≡ false
    pick true q = cc
    pick false q = refl

reading-fits : (t a : List ℕ) (h : Head) → reading_of t a ≡ Some h → (inside t a ≡ true) × (h ≡ head_at t)
unfolding reading_of
reading-fits t a h e = pick (inside t a) e
  where
    pick : (b : Bool) → cond b (Some (head_at t)) None ≡ Some h → (b ≡ true) × (h ≡ head_at t)
    pick true q = (refl, cc)
    pick false q = (cc, cc)

-- the parts of t that hold the digest, the path and the lengths of a row at o, and its part of a, as the code takes them
abbrev pub digest_part : (t : List ℕ) → Offset → List ℕ
digest_part t o = take (o.at + head_length - (o.at + numbers_length)) (drop (o.at + numbers_length) t)

abbrev pub path_part : (t : List ℕ) → Offset → Head → List ℕ
path_part t o h = take (o.at + head_length + h.pathlen - (o.at + head_length)) (drop (o.at + head_length) t)

abbrev pub lengths_part : (t : List ℕ) → Offset → Head → List ℕ
lengths_part t o h =
    take (o.at + head_length + h.pathlen + 2 * h.pairs - (o.at + head_length + h.pathlen)) (drop (o.at + head_length + h.pathlen) t)

abbrev pub content_part : (a : List ℕ) → Offset → Head → List ℕ
content_part a o h = take (o.base + h.size - o.base) (drop o.base a)

-- a row that fits at o
module _ (t a : List ℕ) (o : Offset) (h : Head) (f : reading_of (drop o.at t) (drop o.base a) ≡ Some h) where
  abbrev s : List ℕ
  s = drop o.at t

  abbrev b : List ℕ
  b = drop o.base a

  pub head-is : h ≡ head_at s
  head-is = (reading-fits s b h f).1

  pub is-inside : inside s b ≡ true
  is-inside = (reading-fits s b h f).0

  room : Inside s b
  room = inside-true s b is-inside

  same_length : h.pathlen ≡ (head_at s).pathlen
  same_length = ap (λ (x : Head). x.pathlen) head-is

  same-pairs : h.pairs ≡ (head_at s).pairs
  same-pairs = ap (λ (x : Head). x.pairs) head-is

  same_size : h.size ≡ (head_at s).size
  same_size = ap (λ (x : Head). x.size) head-is

  pub row_in : o.at + span h ≤ length t
  unfolding span_at
  row_in = let r = room.row in omega (arith, length-drop o.at t, same_length, same-pairs)

  pub data-in : o.base ≤ length a → o.base + h.size ≤ length a
  data-in l = let r = room.content in omega (arith, length-drop o.base a, same_size)

  pub digest-part : digest_part t o ≡ digest_at s
  unfolding digest_at
  digest-part = let n : o.at + head_length - (o.at + numbers_length) ≡ 16 = omega arith in rw (n, drop-drop)

  pub digest-length : length (digest_part t o) ≡ 16
  digest-length =
      let n : o.at + head_length - (o.at + numbers_length) ≡ 16 = omega arith in
      rw n (length-take-le 16 (drop (o.at + numbers_length) t) (rw length-drop (omega (arith, row_in))))

  pub path-part : path_part t o h ≡ path_at s
  unfolding path_at
  path-part = rw (add-sub_cancel_left, drop-drop, same_length)

  pub lengths-part : lengths_part t o h ≡ lengths_at s
  unfolding lengths_at
  lengths-part = rw (add-sub_cancel_left, drop-drop, same_length, same-pairs, add_assoc)

  pub content-part : content_part a o h ≡ take (head_at s).size b
  content-part = rw (add-sub_cancel_left, same_size)

  pub rest-tables : drop (past o h).at t ≡ drop (span_at s) s
  unfolding span_at
  rest-tables =
      let n : (past o h).at ≡ o.at + (head_length + (head_at s).pathlen + 2 * (head_at s).pairs) = omega (arith, same_length, same-pairs) in
      rw (n, drop-drop)

  pub rest-arena : drop (o.base + h.size) a ≡ drop (head_at s).size b
  rest-arena = rw (drop-drop, same_size)

  module _ (bytes : AreBytes t) where
    pub head-of : head_of (row_at s b) ≡ h
    head-of = head_at_lem s b (bytes_drop o.at t bytes) room ∙ sym head-is

    pub digest-of : (row_at s b).digest ≡ digest_part t o
    unfolding row_at
    digest-of = sym digest-part

    pub path-of : (row_at s b).path ≡ path_part t o h
    unfolding row_at
    path-of = sym path-part

    pub lengths-of : (row_at s b).lengths ≡ lengths_part t o h
    unfolding row_at
    lengths-of = sym lengths-part

    pub content-of : (row_at s b).content ≡ content_part a o h
    unfolding row_at
    content-of = sym content-part

-- n rows by a rule, i of them passed
module _ (S : Type 0) (ok : S → Row → Bool) (next : S → Row → S) (t a : List ℕ) (n i : ℕ) (σ : S) (o : Offset) where
  pub more : i < n → n - i ≡ suc (n - (i + 1))
  more l = omega arith

  pub good-short : i < n → reading_of (drop o.at t) (drop o.base a) ≡ None → good S ok next (n - i) σ (drop o.at t) (drop o.base a) ≡ false
  unfolding good
  good-short l e = rw (more l, reading-short (drop o.at t) (drop o.base a) e)

  pub good-end : n ≤ i → good S ok next (n - i) σ (drop o.at t) (drop o.base a) ≡ true
  unfolding good
  good-end l = let z : n - i ≡ 0 = omega arith in rw z

  pub past_end : n ≤ i → past_all (n - i) o t ≡ o
  unfolding past_all
  past_end l = let z : n - i ≡ 0 = omega arith in rw z

  module _ (l : i < n) (h : Head) (f : reading_of (drop o.at t) (drop o.base a) ≡ Some h) where
    pub good-wrong : ok σ (row_at (drop o.at t) (drop o.base a)) ≡ false → good S ok next (n - i) σ (drop o.at t) (drop o.base a) ≡ false
    unfolding good
    good-wrong e = rw (more l, is-inside t a o h f, e)

    pub good-next : ok σ (row_at (drop o.at t) (drop o.base a)) ≡ true
        → good S ok next (n - i) σ (drop o.at t) (drop o.base a)
        ≡ good S ok next (n - (i + 1)) (next σ (row_at (drop o.at t) (drop o.base a))) (drop (past o h).at t) (drop (past o h).base a)
    unfolding good
    good-next e = rw (more l, is-inside t a o h f, e, rest-tables t a o h f, rest-arena t a o h f)

    pub past_next : past_all (n - i) o t ≡ past_all (n - (i + 1)) (past o h) t
    unfolding past_all
    past_next = rw (more l, head-is t a o h f)
