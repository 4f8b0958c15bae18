-- LIST's record of a row, written piece by piece. Assumes nothing.
use Prim.Native.Nat.{ℕ, ◌+◌, ◌-◌, ◌*◌, ◌≤◌}
use mathlib.Core.Path.{◌≡◌, refl, sym, ap, ap₂, ◌∙◌}
use mathlib.Core.Bool.{Bool, true, false, cond}
use mathlib.Core.List.{List, [], ◌∷◌, ◌++◌, append_assoc}
use native.Mathlib.Nat.{add-sub_cancel_left}
use native.Mathlib.Omega.{arith}
use borrow.Author.Tests.{eq-eqb, ne_eqb}
use lib.Dec.{eqb}
use lib.ListN.{length, take, drop, set, length-append, length-drop}
use lib.Seq.{drop-drop, length-take-le}
use Rattle.base_number.specs.Number.{le}
use Rattle.base_number.proofs.NumberLaws.{length-le}
use Rattle.base_number.proofs.Halves.{write_byte}
use Rattle.base_number.proofs.Fields.{replaced_at, over-length}
use Rattle.base_text.specs.Text.{hex, decimal}
use Rattle.base_text.proofs.TextLaws.{length-hex}
use Rattle.machine.specs.Etags.{plain, joined, text}
use Rattle.pairs_stored.specs.Stored.{sum_of}
use Rattle.mem_row.specs.declared.Head.{Head}
use Rattle.mem_row.specs.Row.{head_at, digest_at, path_at, lengths_at, numbers_length, head_length, span}
use Rattle.mem_layout.specs.Memory.{row_etag}
use Rattle.call_list.specs.Rows.{text_at, record_at}
use Rattle.call_list.proofs.RowLengths.{digest-length, record-length, text-plain, text-joined}
use Rattle.call_list.proofs.Front.{over-next}

-- the length of the data, the stamp, and the length of the text
pub numbers-written : (b b₁ b₂ : List ℕ) (to size created n : ℕ) → to + 13 ≤ length b → b₁ ≡ replaced_at b to (le 4 size) 4 → b₂ ≡ replaced_at b₁ (to + 4) (le 8 created) 8
    → set b₂ (to + 12) n ≡ replaced_at b to (le 4 size ++ (le 8 created ++ (n ∷ []))) 13
numbers-written b b₁ b₂ to size created n room e₁ e₂ =
    let x = le 4 size in
    let y = le 8 created in
    let two : b₂ ≡ replaced_at b to (x ++ y) 12 = over-next b b₁ b₂ x y to 4 8 (length-le 4 size) (omega arith) e₁ e₂ in
    let l : length (x ++ y) ≡ 12 = omega (arith, length-append x y, length-le 4 size, length-le 8 created) in
    let k : length b₂ ≡ length b = ap length two ∙ over-length b to (x ++ y) 12 l (omega arith) in
    over-next b b₂ (set b₂ (to + 12) n) (x ++ y) (n ∷ []) to 12 1 l (omega arith) two (write_byte b₂ (to + 12) n (omega arith))
    ∙ ap (λ (z : List ℕ). replaced_at b to z 13) (append_assoc x y (n ∷ []))

-- the text of an etag
text-least : (x : Bool) (d : List ℕ) (count : ℕ) → length d ≡ 16 → 32 ≤ length (text (cond x (plain d) (joined d count)))
unfolding text
text-least true d count l = omega (arith, length-hex d)
text-least false d count l = omega (arith, length-hex d, length-append (hex d) (45 ∷ decimal count))

module _ (t b b₁ : List ℕ) (at to kind count : ℕ) (inside : at + head_length ≤ length t) where
  abbrev digest : List ℕ
  digest = take (at + numbers_length + 16 - (at + numbers_length)) (drop (at + numbers_length) t)

  digest-is : digest ≡ digest_at (drop at t)
  unfolding digest_at
  digest-is = ap₂ take (add-sub_cancel_left (at + numbers_length) 16) (sym (drop-drop numbers_length at t))

  pub digest-read : length digest ≡ 16
  digest-read = length-take-le (at + numbers_length + 16 - (at + numbers_length)) (drop (at + numbers_length) t) (simp length-drop (omega arith)) ∙ add-sub_cancel_left (at + numbers_length) 16

  abbrev etag : List ℕ
  etag = text (row_etag kind (digest_at (drop at t)) count)

  digits : length (digest_at (drop at t)) ≡ 16
  digits = ap length (sym digest-is) ∙ digest-read

  module _ (e : b₁ ≡ replaced_at b to (hex digest) (2 * length digest)) where
    hex-written : b₁ ≡ replaced_at b to (hex (digest_at (drop at t))) 32
    hex-written =
        let n : 2 * length digest ≡ 32 = omega (arith, digest-read) in
        e ∙ ap₂ (λ (x : List ℕ) (k : ℕ). replaced_at b to (hex x) k) digest-is n

    pub plain-written : kind ≡ 0 → b₁ ≡ replaced_at b to etag (length etag)
    unfolding text
    plain-written z =
        let n : 32 ≡ length etag = text-plain kind count (digest_at (drop at t)) z digits in
        hex-written ∙ ap (replaced_at b to (hex (digest_at (drop at t)))) n ∙ ap (λ (x : List ℕ). replaced_at b to x (length etag)) (sym (rw (eq-eqb kind 0 z)))

    pub joined-written : (b₂ : List ℕ) → (kind ≡ 0 → ⊥) → to + length etag ≤ length b → b₂ ≡ replaced_at b₁ (to + 32) (45 ∷ decimal count) (1 + length (decimal count)) → b₂ ≡ replaced_at b to etag (length etag)
    unfolding text
    joined-written b₂ z room f =
        let m : 33 + length (decimal count) ≡ length etag = text-joined kind count (length (decimal count)) (digest_at (drop at t)) z refl digits in
        let n : 32 + (1 + length (decimal count)) ≡ length etag = omega arith in
        let l : length (hex (digest_at (drop at t))) ≡ 32 = omega (arith, length-hex (digest_at (drop at t)), digits) in
        over-next b b₁ b₂ (hex (digest_at (drop at t))) (45 ∷ decimal count) to 32 (1 + length (decimal count)) l (omega arith) hex-written f
        ∙ ap (replaced_at b to (hex (digest_at (drop at t)) ++ (45 ∷ decimal count))) n
        ∙ ap (λ (x : List ℕ). replaced_at b to x (length etag)) (sym (rw (ne_eqb kind 0 z)))

  -- room for it
  pub text-room : to + length etag ≤ length b → to + 2 * length digest ≤ length b
  text-room room = omega (arith, digest-read, text-least (eqb kind 0) (digest_at (drop at t)) count digits)

  pub count_room : (kind ≡ 0 → ⊥) → to + length etag ≤ length b → length b₁ ≡ length b → to + 32 + (1 + length (decimal count)) ≤ length b₁
  count_room z room same = omega (arith, text-joined kind count (length (decimal count)) (digest_at (drop at t)) z refl digits)

-- the record
pieces : (n k : ℕ) (p s c e : List ℕ) → ((n ∷ p) ++ (s ++ (c ++ (k ∷ [])))) ++ e ≡ n ∷ p ++ (s ++ (c ++ k ∷ e))
pieces n k p s c e = simp append_assoc

module _ (t b : List ℕ) (at to : ℕ) (h : Head) (k size : ℕ) (inside : at + span (head_at (drop at t)) ≤ length t) (read : h ≡ head_at (drop at t))
    (text-long : (d : List ℕ) → length d ≡ 16 → k ≡ length (text (row_etag h.kind d h.count)))
    (data-long : size ≡ h.size - sum_of (lengths_at (drop at t))) where
  measured : k ≡ length (text (row_etag h.kind (digest_at (drop at t)) h.count))
  measured = text-long (digest_at (drop at t)) (digest-length t at inside)

  sized : size ≡ (head_at (drop at t)).size - sum_of (lengths_at (drop at t))
  sized = data-long ∙ ap (λ (x : Head). x.size - sum_of (lengths_at (drop at t))) read

  abbrev told : Head → List ℕ
  told x = text (row_etag x.kind (digest_at (drop at t)) x.count)

  abbrev etag_text : List ℕ
  etag_text = told h

  abbrev path : List ℕ
  path = take h.pathlen (drop (at + head_length) t)

  abbrev numbers : List ℕ
  numbers = le 4 size ++ (le 8 h.stamp ++ (k ∷ []))

  record_is : ((h.pathlen ∷ path) ++ numbers) ++ etag_text ≡ record_at (drop at t)
  unfolding record_at text_at path_at
  record_is =
      ap (λ (i : ℕ). ((h.pathlen ∷ path) ++ (le 4 size ++ (le 8 h.stamp ++ (i ∷ [])))) ++ etag_text) measured
      ∙ ap (λ (x : Head). ((x.pathlen ∷ take x.pathlen (drop (at + head_length) t)) ++ (le 4 size ++ (le 8 x.stamp ++ (length (told x) ∷ [])))) ++ told x) read
      ∙ pieces (head_at (drop at t)).pathlen (length (text_at (drop at t))) (take (head_at (drop at t)).pathlen (drop (at + head_length) t)) (le 4 size) (le 8 (head_at (drop at t)).stamp) (text_at (drop at t))
      ∙ rw (← (drop-drop head_length at t), sized)

  path-length : length path ≡ h.pathlen
  path-length = length-take-le h.pathlen (drop (at + head_length) t) (simp length-drop (omega (arith, ap (λ (x : Head). x.pathlen) read)))

  pub record-long : to + 1 + h.pathlen + 13 + k ≡ to + length (record_at (drop at t))
  unfolding text_at
  record-long = omega (arith, record-length t at inside, measured ∙ ap (λ (x : Head). length (told x)) read, ap (λ (x : Head). x.pathlen) read)

  pub path_inside : at + head_length + h.pathlen ≤ length t
  path_inside = omega (arith, ap (λ (x : Head). x.pathlen) read)

  -- room for the path, the numbers and the text
  module _ (room : to + length (record_at (drop at t)) ≤ length b) where
    pub path_room : to + (1 + h.pathlen) ≤ length b
    path_room = omega (arith, record-long)

    pub numbers-room : (b₁ : List ℕ) → length b₁ ≡ length b → to + 1 + h.pathlen + 13 ≤ length b₁
    numbers-room b₁ same = omega (arith, record-long)

    pub etag-room : (b₂ : List ℕ) → length b₂ ≡ length b → to + 1 + h.pathlen + 13 + length etag_text ≤ length b₂
    etag-room b₂ same = omega (arith, record-long, measured)

  pub record-written : (b₁ b₂ b₃ : List ℕ) → to + length (record_at (drop at t)) ≤ length b → b₁ ≡ replaced_at b to (h.pathlen ∷ path) (1 + h.pathlen)
      → b₂ ≡ replaced_at b₁ (to + 1 + h.pathlen) numbers 13 → b₃ ≡ replaced_at b₂ (to + 1 + h.pathlen + 13) etag_text (length etag_text)
      → b₃ ≡ replaced_at b to (record_at (drop at t)) (length (record_at (drop at t)))
  record-written b₁ b₂ b₃ room e₁ e₂ e₃ =
      let n = h.pathlen in
      let x = n ∷ path in
      let long = record-long in
      let long-text = measured in
      let lx : length x ≡ 1 + n = omega (arith, path-length) in
      let ln : length numbers ≡ 13 = omega (arith, length-append (le 4 size) (le 8 h.stamp ++ (k ∷ [])), length-append (le 8 h.stamp) (k ∷ []), length-le 4 size, length-le 8 h.stamp) in
      let lxn : length (x ++ numbers) ≡ 1 + n + 13 = omega (arith, length-append x numbers) in
      let p : to + 1 + n ≡ to + (1 + n) = omega arith in
      let q : to + 1 + n + 13 ≡ to + (1 + n + 13) = omega arith in
      let m : 1 + n + 13 + length etag_text ≡ length (record_at (drop at t)) = omega arith in
      let two : b₂ ≡ replaced_at b to (x ++ numbers) (1 + n + 13) = over-next b b₁ b₂ x numbers to (1 + n) 13 lx (omega arith) e₁ (e₂ ∙ ap (λ (i : ℕ). replaced_at b₁ i numbers 13) p) in
      over-next b b₂ b₃ (x ++ numbers) etag_text to (1 + n + 13) (length etag_text) lxn (omega arith) two (e₃ ∙ ap (λ (i : ℕ). replaced_at b₂ i etag_text (length etag_text)) q)
      ∙ ap₂ (replaced_at b to) record_is m
