-- Rows and data cut out, put in and replaced, and a header written over another. Each law takes what the callee ensures. Assumes nothing.
use Prim.Native.Nat.{ℕ, ◌+◌, ◌-◌}
use mathlib.Core.Path.{◌≡◌, refl, sym, ap, ap₂, ◌∙◌}
use mathlib.Core.List.{List, [], ◌++◌, append_assoc, append-nil}
use native.Mathlib.Omega.{arith}
use lib.ListN.{length, drop, length-append}
use lib.Seq.{drop_at}
use Rattle.machine.specs.State.{State}
use Rattle.base_buffer.specs.Buffer.{spliced, rotated}
use Rattle.base_buffer.proofs.Live.{spliced-live, rotated-live}
use Rattle.mem_row.specs.Row.{Row, encode_rows, contents_of}
use Rattle.mem_row.proofs.RowLaws.{encode-append, contents-append}
use Rattle.mem_layout.specs.declared.Header.{Header}
use Rattle.mem_layout.specs.Header.{header_of, header_bytes, headed, encode_header, header_length}

encode-append₃ : (xs ys zs : List Row) → encode_rows (xs ++ (ys ++ zs)) ≡ encode_rows xs ++ (encode_rows ys ++ encode_rows zs)
encode-append₃ xs ys zs = encode-append xs (ys ++ zs) ∙ ap (λ (l : List ℕ). encode_rows xs ++ l) (encode-append ys zs)

contents-append₃ : (xs ys zs : List Row) → contents_of (xs ++ (ys ++ zs)) ≡ contents_of xs ++ (contents_of ys ++ contents_of zs)
contents-append₃ xs ys zs = contents-append xs (ys ++ zs) ∙ ap (λ (l : List ℕ). contents_of xs ++ l) (contents-append ys zs)

-- rows ys give way to rows ys', of which src are the bytes
module _ (xs ys ys' zs : List Row) where
  pub rows-spliced : (t t' header free src : List ℕ) → t ≡ header ++ (encode_rows (xs ++ (ys ++ zs)) ++ free) → length header ≡ header_length → src ≡ encode_rows ys'
      → t' ≡ spliced t (header_length + length (encode_rows xs)) (length (encode_rows ys)) (header_length + length (encode_rows (xs ++ (ys ++ zs)))) src
      → t' ≡ header ++ (encode_rows (xs ++ (ys' ++ zs)) ++ drop (header_length + length (encode_rows (xs ++ (ys' ++ zs)))) t)
  rows-spliced t t' header free src told l is e =
      let live = header ++ encode_rows (xs ++ (ys ++ zs)) in
      let live' = header ++ encode_rows (xs ++ (ys' ++ zs)) in
      let p : live ≡ (header ++ encode_rows xs) ++ (encode_rows ys ++ encode_rows zs) = ap (λ (r : List ℕ). header ++ r) (encode-append₃ xs ys zs) ∙ sym (append_assoc header (encode_rows xs) _) in
      let q : live' ≡ (header ++ encode_rows xs) ++ (src ++ encode_rows zs) =
      ap (λ (r : List ℕ). header ++ r) (encode-append₃ xs ys' zs ∙ ap (λ (r : List ℕ). encode_rows xs ++ (r ++ encode_rows zs)) (sym is)) ∙ sym (append_assoc header (encode_rows xs) _) in
      let k : length (header ++ encode_rows xs) ≡ header_length + length (encode_rows xs) = omega (arith, length-append header (encode_rows xs)) in
      let u : length live ≡ header_length + length (encode_rows (xs ++ (ys ++ zs))) = omega (arith, length-append header (encode_rows (xs ++ (ys ++ zs)))) in
      let u' : length live' ≡ header_length + length (encode_rows (xs ++ (ys' ++ zs))) = omega (arith, length-append header (encode_rows (xs ++ (ys' ++ zs)))) in
      spliced-live t t' live live' free (told ∙ sym (append_assoc header _ free)) (header ++ encode_rows xs) (encode_rows ys) (encode_rows zs) src _ _ _ p q k refl u e
      ∙ ap (λ (n : ℕ). live' ++ drop n t) u'
      ∙ append_assoc header _ _

  pub data-spliced : (a a' free src : List ℕ) → a ≡ contents_of (xs ++ (ys ++ zs)) ++ free → src ≡ contents_of ys'
      → a' ≡ spliced a (length (contents_of xs)) (length (contents_of ys)) (length (contents_of (xs ++ (ys ++ zs)))) src
      → a' ≡ contents_of (xs ++ (ys' ++ zs)) ++ drop (length (contents_of (xs ++ (ys' ++ zs)))) a
  data-spliced a a' free src told is e =
      spliced-live a a' (contents_of (xs ++ (ys ++ zs))) (contents_of (xs ++ (ys' ++ zs))) free told (contents_of xs) (contents_of ys) (contents_of zs) src _ _ _
      (contents-append₃ xs ys zs)
      (contents-append₃ xs ys' zs ∙ ap (λ (r : List ℕ). contents_of xs ++ (r ++ contents_of zs)) (sym is))
      refl refl refl e

  -- data d after the last byte held is brought before those of ys, and these are then cut out
  pub data-moved : (a a₁ a' d free : List ℕ) (base m end size : ℕ) → a ≡ contents_of (xs ++ (ys ++ zs)) ++ (d ++ free) → d ≡ contents_of ys'
      → base ≡ length (contents_of xs) → m ≡ length (contents_of ys) → end ≡ length (contents_of (xs ++ (ys ++ zs))) → size ≡ length d
      → a₁ ≡ rotated a base (end - base) size → a' ≡ spliced a₁ (base + size) m (end + size) []
      → a' ≡ contents_of (xs ++ (ys' ++ zs)) ++ drop (length (contents_of (xs ++ (ys' ++ zs)))) a₁
  data-moved a a₁ a' d free base m end size told is base-is m-is end_is size_is turned cut =
      let x = contents_of xs in
      let y = contents_of ys in
      let z = contents_of zs in
      let live = contents_of (xs ++ (ys ++ zs)) in
      let all : live ≡ x ++ (y ++ z) = contents-append₃ xs ys zs in
      let sum : end ≡ length x + (length y + length z) = end_is ∙ ap length all ∙ length-append x (y ++ z) ∙ ap (λ (n : ℕ). length x + n) (length-append y z) in
      let brought : a₁ ≡ (x ++ (d ++ (y ++ z))) ++ free =
      rotated-live a a₁ (live ++ d) (x ++ (d ++ (y ++ z))) free (told ∙ sym (append_assoc live d free)) x (y ++ z) d [] base (end - base) size
      (ap (λ (l : List ℕ). l ++ d) all ∙ append_assoc x (y ++ z) d ∙ ap (λ (l : List ℕ). x ++ ((y ++ z) ++ l)) (sym (append-nil d)))
      (ap (λ (l : List ℕ). x ++ (d ++ l)) (sym (append-nil (y ++ z))))
      (sym base-is) (omega (arith, length-append y z)) (sym size_is) turned in
      spliced-live a₁ a' (x ++ (d ++ (y ++ z))) (contents_of (xs ++ (ys' ++ zs))) free brought (x ++ d) y z [] (base + size) m (end + size)
      (sym (append_assoc x d (y ++ z)))
      (contents-append₃ xs ys' zs ∙ ap (λ (l : List ℕ). x ++ (l ++ z)) (sym is) ∙ sym (append_assoc x d z))
      (omega (arith, length-append x d)) (sym m-is) (omega (arith, length-append x (d ++ (y ++ z)), length-append d (y ++ z), length-append y z)) cut

-- the header of s', written over that of s
pub header-written : (A : ℕ) (s s' : State) (t t' rest : List ℕ) (h : Header) → length (encode_header A s) ≡ header_length → t ≡ encode_header A s ++ rest
    → h ≡ header_of A s' → t' ≡ headed t h → t' ≡ encode_header A s' ++ rest
unfolding header_bytes headed
header-written A s s' t t' rest h l told is e =
    e ∙ ap₂ (λ (x : Header) (y : List ℕ). header_bytes x ++ y) is (ap (drop header_length) told ∙ drop_at (encode_header A s) rest header_length l)
