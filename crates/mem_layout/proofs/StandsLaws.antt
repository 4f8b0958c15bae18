-- A valid state's encoding is whole, and stands for that state alone. Assumes nothing.
use Prim.Native.Nat.{ℕ, ◌+◌, ◌≤◌}
use mathlib.Core.Path.{◌≡◌, refl, sym, ap, ap₂, ◌∙◌}
use mathlib.Core.Bool.{true}
use mathlib.Core.List.{List, [], ◌++◌, append_assoc}
use native.Mathlib.Omega.{arith}
use borrow.Author.Tests.{le-leb, eq-eqb}
use lib.ListN.{length, drop}
use lib.Seq.{drop_at}
use Rattle.machine.specs.Pairs.{pairs_most}
use Rattle.machine.specs.State.{State, held}
use Rattle.machine.specs.Valid.{Valid}
use Rattle.mem_row.specs.Fields.{numbers_at, WithinWidths}
use Rattle.mem_row.proofs.FieldLaws.{length_fields, numbers-fields}
use Rattle.mem_row.specs.Row.{Row, encode_rows, contents_of, rows_at, past_rows, past_data, good, EncodableAll}
use Rattle.mem_row.proofs.RowLaws.{encode-append, contents-append, encodable-append, rows-complete, rows_back, past_back, past-data-back}
use Rattle.mem_layout.specs.declared.Mark.{Mark}
use Rattle.mem_layout.specs.declared.Header.{Header}
use Rattle.mem_layout.specs.Rules.{object_ok, object_next, entry_ok, entry_next, start}
use Rattle.mem_layout.specs.Header.{header_widths, header_length, header_numbers, header_bytes, header_of, encode_header, header_from, header_at}
use Rattle.mem_layout.specs.Memory.{object_rows, upload_rows, rows_of, arena_most, objects_of, nest, Nest, uploads_among, object_rows_at, upload_tables, upload_arena, upload_rows_at, state_of, header_ok, objects_good, uploads_good, whole_of, StandsOf}
use Rattle.mem_layout.proofs.TestLaws.{true-all}
use Rattle.mem_layout.proofs.ObjectLaws.{objects-back, length-object-rows, object-rows-encodable, object-rows-follow, objects-first}
use Rattle.mem_layout.proofs.UploadLaws.{length-upload-rows, opens-uploads, nest_back, upload-rows-encodable, upload-rows-follow, uploads-first}
use Rattle.mem_layout.proofs.RowCounts.{length-object-contents, length-upload-contents}

pub rows-encodable : (A : ℕ) (s : State) → A ≤ arena_most → Valid A s → EncodableAll (rows_of s)
unfolding rows_of held
rows-encodable A s l v =
    let h = v.room in
    encodable-append (object_rows s.O) (upload_rows s.U)
    (object-rows-encodable s.O (omega (arith, length-object-contents s.O)) v.object)
    (upload-rows-encodable s.N s.U v.last (omega (arith, length-upload-contents s.U)) v.upload)

pub header-fits : (A : ℕ) (s : State) → A ≤ arena_most → Valid A s → WithinWidths header_widths (header_numbers (header_of A s))
header-fits A s l v =
    let n = v.last in
    let o = v.paths in
    let u = v.opens in
    let p = v.parts in
    (omega arith, (omega arith, (omega arith, (omega arith, (omega arith, tt)))))

pub length-header : (A : ℕ) (s : State) → A ≤ arena_most → Valid A s → length (encode_header A s) ≡ header_length
unfolding header_bytes
length-header A s l v = length_fields header_widths _ (header-fits A s l v)

module _ {T : ℕ} (t a : List ℕ) (s : State) (h : StandsOf T t a s) where
  abbrev rest : List ℕ
  rest = encode_rows (rows_of s) ++ h.tables-free

  pub header-back : header_at t ≡ header_of (length a) s
  unfolding header_at header_bytes
  header-back =
      ap header_from (ap (numbers_at header_widths) h.tables ∙ numbers-fields header_widths _ rest (header-fits (length a) s h.small h.valid))

  pub past-header : drop header_length t ≡ encode_rows (rows_of s) ++ h.tables-free
  past-header = ap (drop header_length) h.tables ∙ drop_at (encode_header (length a) s) rest header_length (length-header (length a) s h.small h.valid)

  encodable : EncodableAll (rows_of s)
  encodable = rows-encodable (length a) s h.small h.valid

  encodable-objects : EncodableAll (object_rows s.O)
  unfolding held
  encodable-objects =
      let r = h.valid.room in
      let l = h.small in
      object-rows-encodable s.O (omega (arith, length-object-contents s.O)) h.valid.object

  encodable-uploads : EncodableAll (upload_rows s.U)
  unfolding held
  encodable-uploads =
      let r = h.valid.room in
      let l = h.small in
      upload-rows-encodable s.N s.U h.valid.last (omega (arith, length-upload-contents s.U)) h.valid.upload

  abbrev upload-rest : List ℕ
  upload-rest = encode_rows (upload_rows s.U) ++ h.tables-free

  abbrev upload-data : List ℕ
  upload-data = contents_of (upload_rows s.U) ++ h.arena-free

  tables₁-is : drop header_length t ≡ encode_rows (object_rows s.O) ++ upload-rest
  unfolding rows_of
  tables₁-is = past-header ∙ ap (λ (l : List ℕ). l ++ h.tables-free) (encode-append (object_rows s.O) (upload_rows s.U)) ∙ append_assoc (encode_rows (object_rows s.O)) (encode_rows (upload_rows s.U)) h.tables-free

  arena₁-is : a ≡ contents_of (object_rows s.O) ++ upload-data
  unfolding rows_of
  arena₁-is = h.arena ∙ ap (λ (l : List ℕ). l ++ h.arena-free) (contents-append (object_rows s.O) (upload_rows s.U)) ∙ append_assoc (contents_of (object_rows s.O)) (contents_of (upload_rows s.U)) h.arena-free

  count-is : (header_at t).objects ≡ length (object_rows s.O)
  count-is = ap (λ (x : Header). x.objects) header-back ∙ sym (length-object-rows s.O)

  count₂-is : (header_at t).uploads + (header_at t).parts ≡ length (upload_rows s.U)
  count₂-is = ap (λ (x : Header). x.uploads + x.parts) header-back ∙ sym (length-upload-rows s.U)

  objects-are : object_rows_at t a ≡ object_rows s.O
  unfolding object_rows_at
  objects-are =
      ap (λ (n : ℕ). rows_at n (drop header_length t) a) count-is
      ∙ ap₂ (rows_at (length (object_rows s.O))) tables₁-is arena₁-is
      ∙ rows_back (object_rows s.O) upload-rest upload-data encodable-objects

  upload-tables-are : upload_tables t a ≡ upload-rest
  unfolding upload_tables
  upload-tables-are =
      ap (λ (n : ℕ). past_rows n (drop header_length t)) count-is
      ∙ ap (past_rows (length (object_rows s.O))) tables₁-is
      ∙ past_back (object_rows s.O) upload-rest encodable-objects

  upload-arena-is : upload_arena t a ≡ upload-data
  unfolding upload_arena
  upload-arena-is =
      ap (λ (n : ℕ). past_data n (drop header_length t) a) count-is
      ∙ ap₂ (past_data (length (object_rows s.O))) tables₁-is arena₁-is
      ∙ past-data-back (object_rows s.O) upload-rest upload-data encodable-objects

  uploads-are : upload_rows_at t a ≡ upload_rows s.U
  unfolding upload_rows_at
  uploads-are =
      ap (λ (n : ℕ). rows_at n (upload_tables t a) (upload_arena t a)) count₂-is
      ∙ ap₂ (rows_at (length (upload_rows s.U))) upload-tables-are upload-arena-is
      ∙ rows_back (upload_rows s.U) h.tables-free h.arena-free encodable-uploads

  pub stands-state : state_of t a ≡ s
  unfolding state_of
  stands-state =
      let o : objects_of (object_rows_at t a) ≡ s.O = ap objects_of objects-are ∙ objects-back s.O h.valid.object in
      let u : (nest (upload_rows_at t a)).uploads ≡ s.U = ap (λ (rs : List Row). (nest rs).uploads) uploads-are ∙ ap (λ (k : Nest). k.uploads) (nest_back s.U) in
      let n : (header_at t).next ≡ s.N = ap (λ (x : Header). x.next) header-back in
      λ i. record { O = o i; U = u i; N = n i }

  header_ok_lem : header_ok T (length t) (length a) (header_at t) ≡ true
  unfolding header_ok
  header_ok_lem =
      ap (λ (x : Header). header_ok T (length t) (length a) x) header-back
      ∙ true-all _ (
        eq-eqb _ _ h.size,
        (
          le-leb _ _ h.small,
          (
            eq-eqb (length a) _ refl,
            (
              le-leb _ _ h.valid.first,
              (
                le-leb _ _ h.valid.last,
                (
                  le-leb _ _ h.valid.paths,
                  (
                    le-leb _ _ h.valid.opens,
                    (le-leb _ _ h.valid.parts, tt),
                  ),
                ),
              ),
            ),
          ),
        ),
      )

  objects-ok-back : objects_good pairs_most t a ≡ true
  unfolding objects_good
  objects-ok-back =
      ap (λ (n : ℕ). good (List ℕ) (object_ok pairs_most) object_next n [] (drop header_length t) a) count-is
      ∙ ap₂ (good (List ℕ) (object_ok pairs_most) object_next (length (object_rows s.O)) []) tables₁-is arena₁-is
      ∙ rows-complete (List ℕ) (object_ok pairs_most) object_next [] (object_rows s.O) upload-rest upload-data encodable-objects
      (object-rows-follow [] s.O (objects-first s.O h.valid.object) h.valid.objects h.valid.object)

  uploads-ok-back : uploads_good pairs_most t a ≡ true
  unfolding uploads_good
  uploads-ok-back =
      let n : (header_at t).next ≡ s.N = ap (λ (x : Header). x.next) header-back in
      ap₂ (λ (N n : ℕ). good Mark (entry_ok pairs_most N) entry_next n start (upload_tables t a) (upload_arena t a)) n count₂-is
      ∙ ap₂ (good Mark (entry_ok pairs_most s.N) entry_next (length (upload_rows s.U)) start) upload-tables-are upload-arena-is
      ∙ rows-complete Mark (entry_ok pairs_most s.N) entry_next start (upload_rows s.U) h.tables-free h.arena-free encodable-uploads
      (upload-rows-follow s.N start s.U (uploads-first s.N s.U h.valid.upload) h.valid.uploads h.valid.upload)

  pub stands-whole : whole_of T pairs_most t a ≡ true
  unfolding whole_of
  stands-whole =
      let c : uploads_among (upload_rows_at t a) ≡ (header_at t).uploads = ap uploads_among uploads-are ∙ opens-uploads s.U ∙ sym (ap (λ (x : Header). x.uploads) header-back) in
      true-all _ (header_ok_lem, (objects-ok-back, (uploads-ok-back, (eq-eqb _ _ c, tt))))

-- memory stands for one state only
pub stands-once : {T : ℕ} (t a : List ℕ) (s s' : State) → StandsOf T t a s → StandsOf T t a s' → s ≡ s'
stands-once t a s s' h h' = sym (stands-state t a s h) ∙ stands-state t a s' h'
