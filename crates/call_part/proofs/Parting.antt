-- PART: its refusals in checking order, and what it leaves. Assumes nothing.
use Prim.Native.Nat.{ℕ, ◌+◌, ◌-◌, ◌≤◌, ◌<◌}
use mathlib.Core.Path.{◌≡◌, sym, ap, ◌∙◌, subst}
use mathlib.Core.Bool.{true, false, cond}
use mathlib.Core.List.{List, []}
use mathlib.Core.Option.{none, some}
use native.Mathlib.Omega.{arith}
use borrow.Author.Tests.{le-leb, lt-leb}
use lib.Dec.{leb}
use lib.ListN.{length, drop}
use Rattle.base_number.specs.Number.{AreBytes}
use Rattle.base_md5.specs.declared.words.Digest.{Digest}
use Rattle.base_md5.specs.Md5 as rfc
use Rattle.base_md5.specs.Md5.{bytes_of}
use Rattle.base_md5.specs.DigestBytes.{digest_bytes-is}
use Rattle.machine.specs.Map.{is_some, by_number, lookup, total}
use Rattle.machine.specs.Names.{Bytes, request_part_ok}
use Rattle.machine.specs.Digest.{md5}
use Rattle.machine.specs.Etags.{plain}
use Rattle.machine.specs.State.{Part, Upload, State, parts_in, held, counted, with_upload, with_part}
use Rattle.machine.specs.Valid.{Valid}
use Rattle.machine.specs.Calls.{PART, etag, no_buffers, badRequest, tableFull, arenaFull, accept, Outcome, ◌else◌then◌}
use Rattle.machine.specs.Steps.{new_part, part_at, act, after}
use Rattle.machine.proofs.Counts.{part-counted, held-part, parts-part}
use Rattle.machine.proofs.KeepsValid.{next-valid}
use Rattle.mem_row.specs.declared.Head.{Head}
use Rattle.mem_row.specs.Row.{encode_rows, head_at, numbers_length}
use Rattle.mem_layout.specs.Header.{header_length}
use Rattle.mem_layout.specs.Memory.{part_row, whole, state_of, Stands}
use Rattle.mem_layout.proofs.WholeLaws.{whole-stands}
use Rattle.mem_find.specs.declared.Lookup.{Lookup}
use Rattle.mem_layout.proofs.RowCounts.{length-contents}
use Rattle.mem_find.specs.declared.RowPlace.{RowPlace}
use Rattle.mem_find.specs.Places.{place_of, place_after, before_part, after_part, part_place, upload_place}
use Rattle.mem_find.specs.Known.{rows_in, OfOpenAt}
use Rattle.mem_find_uploads.proofs.Answers.{upload-lookup}
use Rattle.mem_find.proofs.Splits.{part-found}
use Rattle.mem_find.proofs.RowsAt.{At, row-at}
use Rattle.mem_find.proofs.Found.{is-some, is_none}
use Rattle.mem_edit_uploads.specs.Parts.{part_with, PartPuttable}
use Rattle.call_contract.specs.Made.{Memory, memory, state_in, outcome, result_of}
use Rattle.call_contract.proofs.Judging.{pass, result-stop, result-last, passed, result-found, result-missing, was-found}

-- what `part_at` does with the open upload x
unfoldable pub part_in : (A : ℕ) → State → (u n : ℕ) (d : Bytes) → Upload → Outcome
part_in A s u n d x =
    counted (with_upload s u (with_part x n (new_part d))) else tableFull then
    leb (held (with_upload s u (with_part x n (new_part d)))) A else arenaFull then
    accept (etag (plain (md5 d))) no_buffers (with_upload s u (with_part x n (new_part d)))

-- the last two checks, by the numbers that code has at hand
module _ (A : ℕ) (s : State) (v : Valid A s) (u n : ℕ) (d : Bytes) (x : Upload) (f : lookup by_number u s.U ≡ some x) where
  abbrev s' : State
  s' = with_upload s u (with_part x n (new_part d))

  abbrev stored : Outcome
  stored = accept (etag (plain (md5 d))) no_buffers s'

  full : 256 < total parts_in s'.U → result_of (part_in A s u n d x) ≡ 4
  unfolding part_in
  full l = result-stop (counted s') tableFull (leb (held s') A else arenaFull then stored) (part-counted A s v u x (with_part x n (new_part d)) f ∙ lt-leb _ _ l)

  counts-pass : total parts_in s'.U ≤ 256 → part_in A s u n d x ≡ (leb (held s') A else arenaFull then stored)
  unfolding part_in
  counts-pass l = pass (counted s') tableFull (leb (held s') A else arenaFull then stored) (part-counted A s v u x (with_part x n (new_part d)) f ∙ le-leb _ _ l)

  room : total parts_in s'.U ≤ 256 → (kept : ℕ) → kept + length d ≡ held s' → result_of (part_in A s u n d x) ≡ cond (leb (kept + length d) A) 0 5
  room l kept e = ap result_of (counts-pass l) ∙ result-last (leb (held s') A) arenaFull (etag (plain (md5 d))) no_buffers s' ∙ ap (λ (k : ℕ). cond (leb k A) 0 5) (sym e)

  is-outcome : (r : ℕ) → result_of (part_in A s u n d x) ≡ r → r ≡ result_of (part_at A s u n d)
  unfolding part_in
  is-outcome r e = sym (result-found (lookup by_number u s.U) badRequest (part_in A s u n d) x f ∙ e)

  -- in place of a part y, which is a share of what is held
  module _ (y : Part) (g : lookup by_number n x.parts ≡ some y) where
    part-share : length y.content ≤ held s
    part-share = omega (arith, rw g at (held-part s u n x (new_part []) f))

    room-old : result_of (part_in A s u n d x) ≡ cond (leb (held s - length y.content + length d) A) 0 5
    room-old =
        let p = v.parts in
        room (omega (arith, rw g at (parts-part s u n x (new_part d) f))) (held s - length y.content) (omega (arith, part-share, rw g at (held-part s u n x (new_part d) f)))

  -- a part more
  module _ (g : lookup by_number n x.parts ≡ none) where
    room-none : 256 ≤ total parts_in s.U → result_of (part_in A s u n d x) ≡ 4
    room-none l = full (omega (arith, rw g at (parts-part s u n x (new_part d) f)))

    room-new : total parts_in s.U < 256 → result_of (part_in A s u n d x) ≡ cond (leb (held s + length d) A) 0 5
    room-new l = room (omega (arith, rw g at (parts-part s u n x (new_part d) f))) (held s) (omega (arith, rw g at (held-part s u n x (new_part d) f)))

-- the same over whole memory, by what the readers give
module _ (t a d : List ℕ) (b : AreBytes t) (w : whole t a ≡ true) (u n : ℕ) (is_open : is_some (lookup by_number u (state_of t a).U) ≡ true)
    (opened : Lookup) (opened-is : opened ≡ upload_place (state_of t a) u) (place : Lookup) (place-there : OfOpenAt t a (place_of opened) (λ s v x. place ≡ part_place s v x n))
    (end : RowPlace) (end-is : end ≡ place_after (rows_in t a)) where
  abbrev m : State
  m = state_of t a

  abbrev h : Stands t a m
  h = whole-stands t a b w

  abbrev x₀ : Upload
  x₀ = (is-some (lookup by_number u m.U) is_open).0

  open₀ : lookup by_number u m.U ≡ some x₀
  open₀ = (is-some (lookup by_number u m.U) is_open).1

  -- the rows end after the bytes held
  bytes-are : end.base ≡ held m
  bytes-are = ap (λ (p : RowPlace). p.base) end-is ∙ length-contents m

  pub held-inside : end.base ≤ length a
  held-inside = let r = h.valid.room in omega (arith, bytes-are)

  -- where the part of the open upload goes
  pub place_is : (x : Upload) → lookup by_number u m.U ≡ some x → place ≡ part_place m u x n
  place_is x f = place-there u x (upload-lookup m u opened opened-is) f

  place_at : place ≡ part_place m u x₀ n
  place_at = place_is x₀ open₀

  found-is : place.found ≡ is_some (lookup by_number n x₀.parts)
  unfolding part_place
  found-is = ap (λ (p : Lookup). p.found) place_at

  module _ (yes : place.found ≡ true) where
    abbrev y₀ : Part
    y₀ = (is-some (lookup by_number n x₀.parts) (sym found-is ∙ yes)).0

    there : lookup by_number n x₀.parts ≡ some y₀
    there = (is-some (lookup by_number n x₀.parts) (sym found-is ∙ yes)).1

    here : At t a m h (before_part m u x₀ n) (part_row n y₀) (after_part m u x₀ n)
    here = row-at t a m h (before_part m u x₀ n) (part_row n y₀) (after_part m u x₀ n) (part-found m u x₀ open₀ n y₀ there)

    at-is : place.at ≡ header_length + length (encode_rows (before_part m u x₀ n))
    unfolding part_place
    at-is = ap (λ (p : Lookup). p.at) place_at

    pub old-inside : place.at + numbers_length ≤ length t
    old-inside = omega (arith, at-is, here.inside)

    module _ (head : Head) (head-is : head ≡ head_at (drop place.at t)) where
      size_is : head.size ≡ length y₀.content
      size_is = ap (λ (z : Head). z.size) (head-is ∙ ap (λ (i : ℕ). head_at (drop i t)) at-is ∙ here.head)

      pub old-held : head.size ≤ end.base
      old-held = omega (arith, size_is, bytes-are, part-share (length a) m h.valid u n d x₀ open₀ y₀ there)

      pub judged-old : (r : ℕ) → r ≡ cond (leb (end.base - head.size + length d) (length a)) 0 5 → r ≡ result_of (part_at (length a) m u n d)
      judged-old r is =
          let q : end.base - head.size ≡ held m - length y₀.content = omega (arith, size_is, bytes-are) in
          is-outcome (length a) m h.valid u n d x₀ open₀ r (room-old (length a) m h.valid u n d x₀ open₀ y₀ there ∙ sym (rw (is, q)))

  module _ (no : place.found ≡ false) (parts : ℕ) (parts_are : parts ≡ total parts_in (state_of t a).U) where
    absent : lookup by_number n x₀.parts ≡ none
    absent = is_none _ (sym found-is ∙ no)

    pub judged-full : 256 ≤ parts → 4 ≡ result_of (part_at (length a) m u n d)
    judged-full l = is-outcome (length a) m h.valid u n d x₀ open₀ 4 (room-none (length a) m h.valid u n d x₀ open₀ absent (omega (arith, parts_are)))

    pub judged-new : parts < 256 → (r : ℕ) → r ≡ cond (leb (end.base + length d) (length a)) 0 5 → r ≡ result_of (part_at (length a) m u n d)
    judged-new l r is =
        is-outcome (length a) m h.valid u n d x₀ open₀ r (room-new (length a) m h.valid u n d x₀ open₀ absent (omega (arith, parts_are)) ∙ sym (rw (is, bytes-are)))

-- the first two checks
module _ (m : Memory) (u n : ℕ) (d : Bytes) where
  abbrev A : ℕ
  A = length m.arena

  abbrev s : State
  s = state_in m

  pub bad-number : request_part_ok n ≡ false → 2 ≡ result_of (outcome (PART u n d) m)
  unfolding outcome act
  bad-number e = sym (result-stop (request_part_ok n) badRequest (part_at A s u n d) e)

  number_ok : request_part_ok n ≡ true → outcome (PART u n d) m ≡ part_at A s u n d
  unfolding outcome act
  number_ok e = pass (request_part_ok n) badRequest (part_at A s u n d) e

  pub not-open : request_part_ok n ≡ true → (place : Lookup) → place ≡ upload_place s u → place.found ≡ false → 2 ≡ result_of (outcome (PART u n d) m)
  unfolding part_in upload_place
  not-open e place is f =
      sym (ap result_of (number_ok e) ∙ result-missing (lookup by_number u s.U) badRequest (part_in A s u n d) (is_none _ (sym (ap (λ (p : Lookup). p.found) is) ∙ f)))

  pub open-found : (place : Lookup) → place ≡ upload_place s u → place.found ≡ true → is_some (lookup by_number u s.U) ≡ true
  unfolding upload_place
  open-found place is f = sym (ap (λ (p : Lookup). p.found) is) ∙ f

  pub part-judged : request_part_ok n ≡ true → (r : ℕ) → r ≡ result_of (part_at A s u n d) → r ≡ result_of (outcome (PART u n d) m)
  part-judged e r is = is ∙ sym (ap result_of (number_ok e))

  -- result 0: all checks were passed
  module _ (zero-result : result_of (outcome (PART u n d) m) ≡ 0) where
    first : (request_part_ok n ≡ true) × (outcome (PART u n d) m ≡ part_at A s u n d)
    unfolding outcome act
    first = passed (request_part_ok n) badRequest (part_at A s u n d) zero-result

    -- the open upload
    pub opened : (x : Upload) × (lookup by_number u s.U ≡ some x) × (part_at A s u n d ≡ part_in A s u n d x)
    unfolding part_in
    opened = was-found (lookup by_number u s.U) badRequest (part_in A s u n d) (sym (ap result_of first.1) ∙ zero-result)

    abbrev x₁ : Upload
    x₁ = opened.0

    abbrev s₁ : State
    s₁ = with_upload s u (with_part x₁ n (new_part d))

    pub part-accepted : outcome (PART u n d) m ≡ accept (etag (plain (md5 d))) no_buffers s₁
    unfolding part_in
    part-accepted =
        let z : result_of (part_in A s u n d x₁) ≡ 0 = sym (ap result_of (first.1 ∙ opened.2)) ∙ zero-result in
        let three = passed (counted s₁) tableFull (leb (held s₁) A else arenaFull then accept (etag (plain (md5 d))) no_buffers s₁) z in
        let four = passed (leb (held s₁) A) arenaFull (accept (etag (plain (md5 d))) no_buffers s₁) (sym (ap result_of three.1) ∙ z) in
        first.1 ∙ opened.2 ∙ three.1 ∙ four.1

    target-valid : Valid A s → Valid A s₁
    unfolding outcome
    target-valid v = subst (Valid A) (ap (after s) part-accepted) (next-valid A s (PART u n d) v)

-- the part that is set, by the digest of its data
pub part-digest : (d : Bytes) (digest : Digest) → digest ≡ rfc.md5 d → bytes_of digest ≡ md5 d
part-digest d digest e = ap bytes_of e ∙ sym (digest_bytes-is d)

part-is : (d : Bytes) (digest : Digest) → digest ≡ rfc.md5 d → part_with digest d ≡ new_part d
part-is d digest e = ap (λ (z : List ℕ). record { content = d; digest = z }) (part-digest d digest e)

module _ (t a d : List ℕ) (u n : ℕ) (digest : Digest) (zero-result : result_of (outcome (PART u n d) (memory t a)) ≡ 0) (e : digest ≡ rfc.md5 d) where
  abbrev x₂ : Upload
  x₂ = (opened (memory t a) u n d zero-result).0

  pub part-ready : AreBytes t → whole t a ≡ true → PartPuttable t a u n digest d
  part-ready b w =
      record {
        is_whole = w;
        upload = x₂;
        is_open = (opened (memory t a) u n d zero-result).1;
        valid =
            subst (λ (y : Part). Valid (length a) (with_upload (state_of t a) u (with_part x₂ n y))) (sym (part-is d digest e))
            (target-valid (memory t a) u n d zero-result (whole-stands t a b w).valid);
      }

  pub part-stands : (t' a' : List ℕ) → ((x : Upload) → lookup by_number u (state_of t a).U ≡ some x → Stands t' a' (with_upload (state_of t a) u (with_part x n (part_with digest d))))
      → Stands t' a' (with_upload (state_of t a) u (with_part x₂ n (new_part d)))
  part-stands t' a' h = subst (λ (y : Part). Stands t' a' (with_upload (state_of t a) u (with_part x₂ n y))) (part-is d digest e) (h x₂ (opened (memory t a) u n d zero-result).1)
