-- Where rows that were passed end; what the scans say of the whole. Assumes nothing.
use Prim.Native.Nat.{ℕ, zero, suc, ◌+◌, ◌≤◌, ◌<◌}
use mathlib.Core.Path.{◌≡◌, refl, sym, ap, ◌∙◌}
use mathlib.Core.Bool.{Bool, true, false, not, ◌&&◌, cond, and-true, and_assoc}
use mathlib.Core.List.{List, []}
use native.Mathlib.Nat.{zero-add}
use native.Mathlib.Omega.{arith}
use borrow.Author.Tests.{ne_eqb, not-true, not-false}
use lib.ListN.{length, drop, length-drop}
use lib.Seq.{drop-drop}
use Rattle.machine.proofs.Options.{both}
use Rattle.mem_row.specs.Row.{Row, head_at, span, span_at, row_at, past_rows, past_data, good}
use Rattle.mem_row.proofs.RowLaws.{here-inside, rest-good}
use Rattle.mem_layout.specs.declared.Header.{Header}
use Rattle.mem_layout.specs.Rules.{all, object_ok, object_next, start}
use Rattle.mem_layout.specs.Memory.{header_ok, upload_tables, upload_arena, upload_rows_at, objects_good, uploads_good, whole_of}
use Rattle.mem_layout.proofs.WholeLaws.{header_is}
use Rattle.mem_scan_rows.specs.declared.Offset.{Offset}
use Rattle.mem_layout.specs.Header.{header_at, header_length}
use Rattle.mem_scan.specs.declared.Offsets.{Offsets}
use Rattle.mem_scan_rows.specs.Scan.{past, past_all, first}
use Rattle.mem_scan_objects.specs.Scan.{object_scan}
use Rattle.mem_scan.specs.Scan.{entries_ok, entry_scan, upload_scan, front_ok}
use Rattle.mem_scan.specs.Scanned.{uploads_from, rows_end, offsets_in}
use Rattle.std.specs.Prelude.{Option, Some, None, is_some}

-- what the answer of a scan of rows tells of them
pub end-bad : {A : Type 0} {b : Bool} {r : Option A} (o : A) → r ≡ cond b (Some o) None → r ≡ None → b ≡ false
end-bad {b} o e q = pick b (sym e ∙ q)
  where
    pick : (x : Bool) → cond x (Some o) None ≡ None → x ≡ false
    pick true k = cc
    pick false k = refl

pub end-good : {A : Type 0} {b : Bool} {o p : A} {r : Option A} → r ≡ cond b (Some o) None → r ≡ Some p → (b ≡ true) × (p ≡ o)
end-good {b} {o} {p} e q = pick b (sym e ∙ q)
  where
    pick : (x : Bool) → cond x (Some o) None ≡ Some p → (x ≡ true) × (p ≡ o)
    pick true k = (refl, cc)
    pick false k = (cc, cc)

rest-tables : (t : List ℕ) (o : Offset) → drop (past o (head_at (drop o.at t))).at t ≡ drop (span_at (drop o.at t)) (drop o.at t)
unfolding span_at
rest-tables t o =
    let h = head_at (drop o.at t) in
    let n : (past o h).at ≡ o.at + span h = omega arith in
    rw (n, drop-drop)

rest-arena : (t a : List ℕ) (o : Offset) → drop (past o (head_at (drop o.at t))).base a ≡ drop (head_at (drop o.at t)).size (drop o.base a)
rest-arena t a o = rw drop-drop

pub past-tables : (n : ℕ) (o : Offset) (t : List ℕ) → drop (past_all n o t).at t ≡ past_rows n (drop o.at t)
unfolding past_all past_rows
past-tables zero o t = refl
past-tables (suc n) o t = past-tables n (past o (head_at (drop o.at t))) t ∙ ap (past_rows n) (rest-tables t o)

pub past-arena : (n : ℕ) (o : Offset) (t a : List ℕ) → drop (past_all n o t).base a ≡ past_data n (drop o.at t) (drop o.base a)
unfolding past_all past_data
past-arena zero o t a = refl
past-arena (suc n) o t a = past-arena n (past o (head_at (drop o.at t))) t a ∙ rw (rest-tables t o, rest-arena t a o)

-- good rows end inside
module _ (S : Type 0) (ok : S → Row → Bool) (next : S → Row → S) where
  pub past-inside : (n : ℕ) (σ : S) (o : Offset) (t a : List ℕ) → good S ok next n σ (drop o.at t) (drop o.base a) ≡ true
      → o.at ≤ length t → o.base ≤ length a → ((past_all n o t).at ≤ length t) × ((past_all n o t).base ≤ length a)
  unfolding past_all span_at
  past-inside zero σ o t a g l m = (l, m)
  past-inside (suc n) σ o t a g l m =
      let s = drop o.at t in
      let b = drop o.base a in
      let i = here-inside S ok next n σ s b g in
      let q = i.row in
      let r = i.content in
      past-inside n (next σ (row_at s b)) (past o (head_at s)) t a
      (rw (rest-tables t o, rest-arena t a o) (rest-good S ok next n σ s b g))
      (omega (arith, length-drop o.at t))
      (omega (arith, length-drop o.base a))

-- Tables t over arena a, by a layout whose tables have T bytes
module _ (T most : ℕ) (t a : List ℕ) where
  -- where the rows of uploads begin, if header and objects stand
  abbrev front : Option Offset
  front = cond (front_ok T most t a) (Some (uploads_from t)) None

  pub too_short : length t < header_length → header_length ≤ T → None ≡ front
  unfolding front_ok header_ok all
  too_short l room = rw (ne_eqb (length t) T (λ e. omega arith))

  module _ (h : Header) (e : h ≡ header_at t) (b : Bool) (q : b ≡ header_ok T (length t) (length a) h) where
    judged : header_ok T (length t) (length a) (header_at t) ≡ b
    judged = ap (header_ok T (length t) (length a)) (sym e) ∙ sym q

    pub header-bad : not b ≡ true → None ≡ front
    unfolding front_ok
    header-bad n = rw (judged, not-true b n)

    pub header-good : not b ≡ false → (r : Option Offset) → r ≡ object_scan most h.objects [] first t a → r ≡ front
    unfolding front_ok object_scan uploads_from
    header-good n r q = rw (judged, not-false b n, ← e) q

  -- the rows of uploads and parts from o on stand as the header says
  abbrev entries : Offset → Bool
  entries o = let h = header_at t in entries_ok most h.next h.uploads 0 (h.uploads + h.parts) start o t a

  whole_is : whole_of T most t a ≡ (front_ok T most t a && entries (uploads_from t))
  unfolding whole_of all front_ok uploads_from entries_ok objects_good uploads_good upload_rows_at upload_tables upload_arena
  whole_is =
      rw (and-true, zero-add, past-tables (header_at t).objects first t, past-arena (header_at t).objects first t a, and_assoc)

  module _ (r : Option Offset) (e : r ≡ front) where
    pub front-bad : r ≡ None → whole_of T most t a ≡ false
    front-bad q = let no : front_ok T most t a ≡ false = end-bad _ e q in rw (whole_is, no)

    module _ (p : Offset) (q : r ≡ Some p) where
      stood : (front_ok T most t a ≡ true) × (p ≡ uploads_from t)
      stood = end-good e q

      pub front-inside : header_length ≤ T → (header_length ≤ length t) × (p.at ≤ length t) × (p.base ≤ length a)
      unfolding front_ok uploads_from
      front-inside room =
          let k = both _ _ stood.0 in
          let size = (header_is T (length t) (length a) (header_at t) k.0).size in
          let l : header_length ≤ length t = omega arith in
          let z = past-inside (List ℕ) (object_ok most) object_next (header_at t).objects [] first t a k.1 l (omega arith) in
          (l, rw stood.1 z.0, rw stood.1 z.1)

      module _ (x : Option Offset) (y : x ≡ upload_scan most p t a) where
        whole_by : whole_of T most t a ≡ entries p
        whole_by = rw (whole_is, stood.0, stood.1)

        pub uploads-bad : x ≡ None → whole_of T most t a ≡ false
        unfolding entry_scan
        uploads-bad n = let no : entries p ≡ false = end-bad _ y n in whole_by ∙ no

        pub uploads-good : (z : Offset) → x ≡ Some z → (whole_of T most t a ≡ true) × (record { uploads = p; end = z } ≡ offsets_in t)
        unfolding entry_scan rows_end
        uploads-good z n =
            let w : (entries p ≡ true) × (z ≡ past_all ((header_at t).uploads + (header_at t).parts) p t) = end-good y n in
            (whole_by ∙ w.0, rw (w.1, stood.1))

        pub uploads-said : is_some x ≡ whole_of T most t a
        uploads-said = pick x refl
          where
            pick : (z : Option Offset) → x ≡ z → is_some z ≡ whole_of T most t a
            pick None n = sym (uploads-bad n)
            pick (Some z) n = sym (uploads-good z n).0
