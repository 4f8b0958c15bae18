-- An upload taken out, its pairs and its parts' data, in listed order, left after the last byte held. Assumes nothing.
use Prim.Native.Nat.{ℕ, ◌+◌, ◌-◌, ◌*◌, ◌≤◌}
use mathlib.Core.Path.{◌≡◌, refl, sym, ap, ◌∙◌, subst}
use mathlib.Core.Bool.{false≢true}
use mathlib.Core.List.{List, [], ◌∷◌, ◌++◌, append_assoc}
use mathlib.Core.Option.{some}
use native.Mathlib.Omega.{arith}
use lib.ListN.{length, take, drop, length-append}
use lib.Seq.{take_at, drop_at}
use Rattle.base_order.proofs.OrderLaws.{numbers}
use Rattle.base_md5.specs.declared.words.Digest.{Digest}
use Rattle.base_md5.specs.Md5.{bytes_of}
use Rattle.base_md5.specs.DigestBytes.{digest_bytes-is}
use Rattle.base_buffer.specs.Buffer.{spliced, rotated}
use Rattle.base_buffer.proofs.Parts.{rotated-parts}
use Rattle.machine.specs.Map.{Map, by_number, lookup, remove, Every, total}
use Rattle.machine.specs.Digest.{md5}
use Rattle.machine.specs.Names.{Bytes, stored_part_ok, number_ok}
use Rattle.machine.specs.State.{Part, Upload, State, held, parts_in, without_upload}
use Rattle.machine.specs.Steps.{take_listed, contents, digests}
use Rattle.machine.specs.Valid.{Valid, PartOk, UploadOk}
use Rattle.machine.proofs.ListFits.{fit-cons, fit-contents, fit_length}
use Rattle.machine.proofs.MapLaws.{every-lookup, every-remove}
use Rattle.machine.proofs.MapSums.{length-remove, total-remove, total-share}
use Rattle.machine.proofs.KeepsValid.{without-upload-valid}
use Rattle.pairs_stored.specs.Stored.{pair_bytes}
use Rattle.mem_row.specs.Row.{Row, encode_rows, contents_of}
use Rattle.mem_row.proofs.RowLaws.{encode-append, contents-append}
use Rattle.mem_layout.specs.declared.Header.{Header}
use Rattle.mem_layout.specs.Rules.{parts_most}
use Rattle.mem_layout.specs.Memory.{upload_row, part_rows, rows_of, Stands}
use Rattle.mem_layout.proofs.RowCounts.{length-contents, length-part-contents}
use Rattle.mem_layout.proofs.StandsLaws.{length-header}
use Rattle.mem_layout.proofs.UploadLaws.{length-part-rows}
use Rattle.mem_layout.specs.Header.{header_of, headed, encode_header, header_length}
use Rattle.mem_find.specs.Places.{place_after, before_upload, before_parts, through_parts, after_upload}
use Rattle.mem_find.proofs.Splits.{upload-found, parts-place, parts-after}
use Rattle.mem_edit.proofs.Changes.{without-upload-rows}
use Rattle.mem_edit.proofs.TablesRoom.{tables-fit}
use Rattle.mem_edit.proofs.RowLists.{rows-spliced, header-written}
use Rattle.machine.specs.PartLists.{part_list}
use Rattle.mem_join_order.specs.Region.{listed_rows, ListedAt, ordered_tables, ordered_arena, Arranged}
use Rattle.mem_join_order.proofs.Listed.{fit_count}
use Rattle.mem_join.specs.declared.Bounds.{Bounds}
use Rattle.mem_join.specs.Bounds.{Inside, bounds_of, end_after}
use Rattle.mem_join.proofs.UploadBounds.{bounds-at, parts-data, parts-encodable, few-parts, rows-through, data-through}

-- no part has the number that an odd byte makes
pub fit-even : (list : Bytes) (m : Map ℕ Part) (ys : List Part) → Every PartOk m → take_listed (part_list list) m ≡ some ys → length list ≡ 2 * length (part_list list)
unfolding part_list stored_part_ok number_ok
fit-even [] m ys v f = refl
fit-even (b ∷ []) m ys v f =
    let c = fit-cons 0 [] m ys f in
    absurd (false≢true (every-lookup numbers PartOk 0 c.0 m v c.2).number)
fit-even (b ∷ (d ∷ list)) m ys v f =
    let n = b + 256 * d in
    let c = fit-cons n (part_list list) m ys f in
    omega (arith, fit-even list (remove by_number n m) c.1 (every-remove numbers PartOk n m v) c.3)

ahead_more : (s : State) (u : ℕ) (x : Upload) → length (encode_rows (before_upload s u)) ≤ length (encode_rows (before_parts s u x))
unfolding before_parts
ahead_more s u x =
    omega (arith, ap length (encode-append (before_upload s u) (upload_row u x ∷ [])), length-append (encode_rows (before_upload s u)) (encode_rows (upload_row u x ∷ [])))

module _ (t a : List ℕ) (s : State) (h : Stands t a s) (u : ℕ) (x : Upload) (f : lookup by_number u s.U ≡ some x)
    (list : Bytes) (ys : List Part) (fits : take_listed (part_list list) x.parts ≡ some ys) (b : Bounds) (b-is : b ≡ bounds_of s u x) where
  abbrev header : List ℕ
  header = encode_header (length a) s

  abbrev ahead : List Row
  ahead = before_parts s u x

  abbrev parts : List Row
  parts = part_rows x.parts

  abbrev after : List Row
  after = after_upload s u

  abbrev s' : State
  s' = without_upload s u

  upload-ok : UploadOk s.N u x
  upload-ok = every-lookup numbers (UploadOk s.N) u x s.U h.valid.upload f

  pub even : length list ≡ 2 * length (part_list list)
  even = fit-even list x.parts ys upload-ok.each fits

  pub few : length list ≤ 512
  few = omega (arith, even, fit_count (part_list list) x.parts ys fits, fit_length (part_list list) x.parts ys fits, few-parts t a s h u x f)

  at-is : b.at ≡ header_length + length (encode_rows (before_upload s u))
  at-is = bounds-at s u x b b-is

  pub first-is : b.first ≡ header_length + length (encode_rows ahead)
  unfolding bounds_of
  first-is = ap (λ (k : Bounds). k.first) b-is

  after_is : b.after ≡ header_length + length (encode_rows (through_parts s u x))
  unfolding bounds_of
  after_is = ap (λ (k : Bounds). k.after) b-is

  used-is : b.used ≡ header_length + length (encode_rows (rows_of s))
  unfolding bounds_of
  used-is = ap (λ (k : Bounds). k.used) b-is

  pub base-is : b.base ≡ length (contents_of (before_upload s u))
  unfolding bounds_of
  base-is = ap (λ (k : Bounds). k.base) b-is

  pub starts_is : b.parts ≡ length (contents_of ahead)
  unfolding bounds_of
  starts_is = ap (λ (k : Bounds). k.parts) b-is

  size_is : b.size ≡ length (pair_bytes x.pairs) + length (contents_of parts)
  unfolding bounds_of
  size_is = ap (λ (k : Bounds). k.size) b-is

  held-is : b.held ≡ length (contents_of (rows_of s))
  unfolding bounds_of
  held-is = ap (λ (k : Bounds). k.held) b-is

  count-is : b.count ≡ length x.parts
  unfolding bounds_of
  count-is = ap (λ (k : Bounds). k.count) b-is

  rows_is : b.rows ≡ length (rows_of s)
  unfolding bounds_of
  rows_is = ap (λ (k : Bounds). k.rows) b-is

  -- the parts as `arrange` asks for them
  abbrev pub listed_at : ListedAt t a b.first b.parts list
  listed_at =
      record {
        region = record {
          parts = x.parts;
          before = header ++ encode_rows ahead;
          after = encode_rows after ++ h.tables-free;
          tables = tables-told;
          starts = omega (arith, length-append header (encode_rows ahead), length-header (length a) s h.small h.valid, first-is);
          arena-before = contents_of ahead;
          arena-after = contents_of after ++ h.arena-free;
          arena = arena-told;
          arena-starts = sym starts_is;
          encodable = parts-encodable t a s h u x f;
        };
        listed = ys;
        fits = fits;
        even = even;
      }
    where
      tables-told : t ≡ (header ++ encode_rows ahead) ++ (encode_rows parts ++ (encode_rows after ++ h.tables-free))
      tables-told =
          h.tables
          ∙ ap (λ (rs : List Row). header ++ (encode_rows rs ++ h.tables-free)) (parts-place s u x f)
          ∙ ap (λ (l : List ℕ). header ++ (l ++ h.tables-free)) (encode-append ahead (parts ++ after) ∙ ap (λ (l : List ℕ). encode_rows ahead ++ l) (encode-append parts after))
          ∙ simp append_assoc

      arena-told : a ≡ contents_of ahead ++ (contents_of parts ++ (contents_of after ++ h.arena-free))
      arena-told =
          h.arena
          ∙ ap (λ (rs : List Row). contents_of rs ++ h.arena-free) (parts-place s u x f)
          ∙ ap (λ (l : List ℕ). l ++ h.arena-free) (contents-append ahead (parts ++ after) ∙ ap (λ (l : List ℕ). contents_of ahead ++ l) (contents-append parts after))
          ∙ simp append_assoc

  -- what rows and data take, through the upload's parts and after them
  rows-used : length (encode_rows (rows_of s)) ≡ length (encode_rows (through_parts s u x)) + length (encode_rows after)
  rows-used =
      omega (arith, ap length (ap encode_rows (parts-after s u x f) ∙ encode-append (through_parts s u x) after), length-append (encode_rows (through_parts s u x)) (encode_rows after))

  data-used : length (contents_of (rows_of s)) ≡ length (contents_of (before_upload s u)) + (length (pair_bytes x.pairs) + length (contents_of parts)) + length (contents_of after)
  data-used =
      omega (
        arith,
        ap length (ap contents_of (parts-after s u x f) ∙ contents-append (through_parts s u x) after),
        length-append (contents_of (through_parts s u x)) (contents_of after),
        data-through t a s h u x f,
      )

  rows-counted : length (rows_of s) ≡ length (before_upload s u) + (1 + length x.parts) + length after
  rows-counted =
      omega (
        arith,
        ap length (upload-found s u x f),
        length-append (before_upload s u) (upload_row u x ∷ (parts ++ after)),
        length-append parts after,
        length-part-rows x.parts,
      )

  -- what `cut` asks, in memory of the same lengths
  pub cut_inside : (t₁ a₁ : List ℕ) → length t₁ ≡ length t → length a₁ ≡ length a
      → Inside t₁ a₁ b
  cut_inside t₁ a₁ l l' =
      let z = h.size in
      let r = h.valid.room in (
        omega (arith, at-is),
        omega (arith, at-is, after_is, rows-through t a s h u x f, ahead_more s u x),
        omega (arith, after_is, used-is, rows-used),
        omega (arith, used-is, tables-fit (length a) s h.small h.valid),
        omega (arith, base-is, size_is, held-is, data-used),
        omega (arith, held-is, length-contents s),
        omega (arith, rows_is, count-is, rows-counted),
      )

  -- where the rows end then
  pub end-left : end_after b ≡ place_after (rows_of s')
  end-left =
      let rs = without-upload-rows s u x f in
      let row : b.rows - (1 + b.count) ≡ length (rows_of s') = omega (arith, rows_is, count-is, rows-counted, ap length rs, length-append (before_upload s u) after) in
      let at : b.used - (b.after - b.at) ≡ header_length + length (encode_rows (rows_of s')) =
      omega (
        arith,
        at-is,
        after_is,
        used-is,
        rows-used,
        rows-through t a s h u x f,
        ahead_more s u x,
        ap length (ap encode_rows rs ∙ encode-append (before_upload s u) after),
        length-append (encode_rows (before_upload s u)) (encode_rows after),
      ) in
      let base : b.held - b.size ≡ length (contents_of (rows_of s')) =
      omega (
        arith,
        size_is,
        held-is,
        data-used,
        ap length (ap contents_of rs ∙ contents-append (before_upload s u) after),
        length-append (contents_of (before_upload s u)) (contents_of after),
      ) in
      λ i. record { row = row i; at = at i; base = base i }

  -- the header of the state without the upload
  pub closed_is : (head : Header) → head ≡ header_of (length a) s
      → record { arena = head.arena; next = head.next; objects = head.objects; uploads = head.uploads - 1; parts = head.parts - b.count } ≡ header_of (length a) s'
  closed_is head is =
      let one : length s.U - 1 ≡ length s'.U = omega (arith, rw f at (length-remove numbers u s.U)) in
      let less : total parts_in s.U - b.count ≡ total parts_in s'.U = omega (arith, count-is, rw f at (total-remove numbers parts_in u s.U)) in
      rw (is, one, less)

  pub some-upload : (head : Header) → head ≡ header_of (length a) s → (1 ≤ head.uploads) × (b.count ≤ head.parts) × (b.count ≤ parts_most)
  some-upload head is =
      let n : head.uploads ≡ length s.U = ap (λ (k : Header). k.uploads) is in
      let m : head.parts ≡ total parts_in s.U = ap (λ (k : Header). k.parts) is in (
        omega (arith, rw f at (length-remove numbers u s.U)),
        omega (arith, count-is, total-share numbers parts_in u x s.U f),
        omega (arith, count-is, few-parts t a s h u x f),
      )

  abbrev rows : List Row
  rows = listed_rows (part_list list) ys

  -- the block of the object
  abbrev block : List ℕ
  block = pair_bytes x.pairs ++ contents ys

  -- tables and arena with the parts in listed order
  module _ (t₁ a₁ : List ℕ) (e : t₁ ≡ ordered_tables t a b.first b.parts list listed_at) (e' : a₁ ≡ ordered_arena t a b.first b.parts list listed_at)
      (keeps : length t₁ ≡ length t) where
    gone : List Row
    gone = upload_row u x ∷ rows

    regroup : before_upload s u ++ (gone ++ after) ≡ ahead ++ (rows ++ after)
    unfolding gone before_parts
    regroup = sym (append_assoc (before_upload s u) (upload_row u x ∷ []) (rows ++ after))

    told : t₁ ≡ header ++ (encode_rows (before_upload s u ++ (gone ++ after)) ++ h.tables-free)
    unfolding ordered_tables
    told =
        e
        ∙ simp append_assoc (sym (ap (λ (rs : List Row). header ++ (encode_rows rs ++ h.tables-free)) regroup
        ∙ ap (λ (l : List ℕ). header ++ (l ++ h.tables-free)) (encode-append ahead (rows ++ after) ∙ ap (λ (l : List ℕ). encode_rows ahead ++ l) (encode-append rows after))
        ∙ simp append_assoc))

    -- the rows take as many bytes as before
    same-used : length (encode_rows (before_upload s u ++ (gone ++ after))) ≡ length (encode_rows (rows_of s))
    same-used =
        omega (
          arith,
          ap length told,
          ap length h.tables,
          length-append header (encode_rows (before_upload s u ++ (gone ++ after)) ++ h.tables-free),
          length-append header (encode_rows (rows_of s) ++ h.tables-free),
          length-append (encode_rows (before_upload s u ++ (gone ++ after))) h.tables-free,
          length-append (encode_rows (rows_of s)) h.tables-free,
        )

    width : b.after - b.at ≡ length (encode_rows gone)
    width =
        omega (
          arith,
          same-used,
          at-is,
          after_is,
          rows-used,
          ap length (encode-append (before_upload s u) (gone ++ after)),
          length-append (encode_rows (before_upload s u)) (encode_rows (gone ++ after)),
          ap length (encode-append gone after),
          length-append (encode_rows gone) (encode_rows after),
        )

    pub tables-cut : (t₂ : List ℕ) → t₂ ≡ spliced t₁ b.at (b.after - b.at) b.used []
        → t₂ ≡ header ++ (encode_rows (rows_of s') ++ drop (header_length + length (encode_rows (before_upload s u ++ after))) t₁)
    unfolding encode_rows
    tables-cut t₂ c =
        let used : b.used ≡ header_length + length (encode_rows (before_upload s u ++ (gone ++ after))) = omega (arith, used-is, same-used) in
        let c₁ : t₂ ≡ spliced t₁ (header_length + length (encode_rows (before_upload s u))) (length (encode_rows gone)) (header_length + length (encode_rows (before_upload s u ++ (gone ++ after)))) [] = c ∙ (λ i. spliced t₁ (at-is i) (width i) (used i) []) in
        rows-spliced (before_upload s u) gone [] after t₁ t₂ header h.tables-free [] told (length-header (length a) s h.small h.valid) refl c₁
        ∙ ap (λ (rs : List Row). header ++ (encode_rows rs ++ drop (header_length + length (encode_rows (before_upload s u ++ after))) t₁)) (sym (without-upload-rows s u x f))

    size-told : b.size ≡ length block
    size-told =
        omega (
          arith,
          size_is,
          length-part-contents x.parts,
          fit-contents (part_list list) x.parts ys fits,
          length-append (pair_bytes x.pairs) (contents ys),
        )

    right : b.held - (b.base + b.size) ≡ length (contents_of after)
    right = omega (arith, base-is, size_is, held-is, data-used)

    arena-told : a₁ ≡ contents_of (before_upload s u) ++ (block ++ (contents_of after ++ h.arena-free))
    unfolding ordered_arena
    arena-told =
        e'
        ∙ ap (λ (l : List ℕ). l ++ (contents ys ++ (contents_of after ++ h.arena-free))) (parts-data s u x)
        ∙ append_assoc (contents_of (before_upload s u)) (pair_bytes x.pairs) (contents ys ++ (contents_of after ++ h.arena-free))
        ∙ ap (λ (l : List ℕ). contents_of (before_upload s u) ++ l) (sym (append_assoc (pair_bytes x.pairs) (contents ys) (contents_of after ++ h.arena-free)))

    pub arena-cut : (a₂ : List ℕ) → a₂ ≡ rotated a₁ b.base b.size (b.held - (b.base + b.size)) → a₂ ≡ contents_of (rows_of s') ++ (block ++ h.arena-free)
    arena-cut a₂ c =
        let rows_are : contents_of (rows_of s') ≡ contents_of (before_upload s u) ++ contents_of after =
        ap contents_of (without-upload-rows s u x f) ∙ contents-append (before_upload s u) after in
        rotated-parts a₁ (contents_of (before_upload s u)) block (contents_of after) h.arena-free b.base b.size (b.held - (b.base + b.size)) arena-told (sym base-is) (sym size-told) (sym right) a₂ c
        ∙ sym (append_assoc (contents_of (before_upload s u)) (contents_of after) (block ++ h.arena-free))
        ∙ ap (λ (l : List ℕ). l ++ (block ++ h.arena-free)) (sym rows_are)

  -- the upload's rows cut out of the ordered tables, and its data moved to after those still held
  pub taken : (t₁ a₁ t₂ a₂ : List ℕ) (digest : Digest) (head : Header) → Arranged t a b.first b.parts list listed_at t₁ a₁ digest → length t₁ ≡ length t → head ≡ header_of (length a) s
      → t₂ ≡ headed (spliced t₁ b.at (b.after - b.at) b.used [])
      (record { arena = head.arena; next = head.next; objects = head.objects; uploads = head.uploads - 1; parts = head.parts - b.count })
      → a₂ ≡ rotated a₁ b.base b.size (b.held - (b.base + b.size)) → length t₂ ≡ length t → length a₂ ≡ length a
      → Stands t₂ a₂ s' × (take b.size (drop (held s') a₂) ≡ block) × (b.size ≡ length block) × (b.count ≡ length ys) × (bytes_of digest ≡ md5 (digests ys))
  taken t₁ a₁ t₂ a₂ digest head g keeps is e e' l l' =
      let free = drop (header_length + length (encode_rows (before_upload s u ++ after))) t₁ in
      let cut = tables-cut t₁ a₁ g.tables g.arena keeps _ refl in
      let arena : a₂ ≡ contents_of (rows_of s') ++ (block ++ h.arena-free) = arena-cut t₁ a₁ g.tables g.arena keeps a₂ e' in
      let written = header-written (length a) s s' _ t₂ (encode_rows (rows_of s') ++ free) _ (length-header (length a) s h.small h.valid) cut (closed_is head is) e in
      let size = size-told t₁ a₁ g.tables g.arena keeps in
      let stands : Stands t₂ a₂ s' = record {
        size = l ∙ h.size;
        small = let z = h.small in omega arith;
        valid = subst (λ (A : ℕ). Valid A s') (sym l') (without-upload-valid (length a) s u h.valid);
        tables-free = free;
        tables = written ∙ ap (λ (A : ℕ). encode_header A s' ++ (encode_rows (rows_of s') ++ free)) (sym l');
        arena-free = block ++ h.arena-free;
        arena = arena;
      } in
      let rest : drop (held s') a₂ ≡ block ++ h.arena-free = ap (drop (held s')) arena ∙ drop_at (contents_of (rows_of s')) (block ++ h.arena-free) (held s') (length-contents s') in (
        stands,
        ap (take b.size) rest ∙ take_at block h.arena-free b.size (sym size),
        size,
        count-is ∙ sym (fit_length (part_list list) x.parts ys fits),
        ap bytes_of g.digest-is ∙ sym (digest_bytes-is (digests ys)),
      )
