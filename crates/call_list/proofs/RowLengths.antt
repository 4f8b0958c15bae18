-- The lengths of an etag's text and of LIST's record of a row. Assumes nothing.
use Prim.Native.Nat.{ℕ, ◌+◌, ◌-◌, ◌≤◌}
use mathlib.Core.Path.{◌≡◌, sym, ap, ap₂, ◌∙◌}
use mathlib.Core.Bool.{Bool, true, false}
use mathlib.Core.List.{List, ◌∷◌}
use native.Mathlib.Nat.{add-sub_cancel_left}
use native.Mathlib.Omega.{arith}
use borrow.Author.Tests.{eq-eqb, ne_eqb}
use lib.ListN.{length, take, drop, length-append, length-drop}
use lib.Seq.{drop-drop, length-take-le, take_all}
use Rattle.base_order.specs.Order.{begins, ends}
use Rattle.base_order.proofs.AffixLaws.{begins-true}
use Rattle.base_number.proofs.NumberLaws.{length-le}
use Rattle.base_text.specs.Text.{hex, decimal}
use Rattle.base_text.proofs.TextLaws.{length-hex}
use Rattle.machine.specs.Etags.{text}
use Rattle.mem_row.specs.Row.{head_at, digest_at, path_at, numbers_length, head_length, span}
use Rattle.mem_layout.specs.Memory.{row_etag}
use Rattle.machine.specs.Steps.{is_listed}
use Rattle.call_list.specs.Rows.{text_at, record_at}

pub text-plain : (kind count : ℕ) (d : List ℕ) → kind ≡ 0 → length d ≡ 16 → 32 ≡ length (text (row_etag kind d count))
unfolding text
text-plain kind count d z l = rw (eq-eqb kind 0 z) (omega (arith, length-hex d))

pub text-joined : (kind count n : ℕ) (d : List ℕ) → (kind ≡ 0 → ⊥) → n ≡ length (decimal count) → length d ≡ 16 → 33 + n ≡ length (text (row_etag kind d count))
unfolding text
text-joined kind count n d z e l = rw (ne_eqb kind 0 z) (omega (arith, length-hex d, length-append (hex d) (45 ∷ decimal count)))

module _ (t : List ℕ) (at : ℕ) (room : at + span (head_at (drop at t)) ≤ length t) where
  pub digest-length : length (digest_at (drop at t)) ≡ 16
  unfolding digest_at
  digest-length = length-take-le 16 (drop numbers_length (drop at t)) (simp length-drop (omega arith))

  path-length : length (path_at (drop at t)) ≡ (head_at (drop at t)).pathlen
  unfolding path_at
  path-length = length-take-le (head_at (drop at t)).pathlen (drop head_length (drop at t)) (simp length-drop (omega arith))

  pub path-read : (n : ℕ) → n ≡ (head_at (drop at t)).pathlen → take (at + head_length + n - (at + head_length)) (drop (at + head_length) t) ≡ path_at (drop at t)
  unfolding path_at
  path-read n e = ap₂ take (add-sub_cancel_left (at + head_length) n ∙ e) (sym (drop-drop head_length at t))

  pub record-length : length (record_at (drop at t)) ≡ 14 + (head_at (drop at t)).pathlen + length (text_at (drop at t))
  unfolding record_at
  record-length = simp (length-append, length-le, path-length) (omega arith)

  pub measured-length : (n w m : ℕ) → n ≡ (head_at (drop at t)).pathlen → w ≡ n → m ≡ length (text (row_etag (head_at (drop at t)).kind (digest_at (drop at t)) (head_at (drop at t)).count)) → 14 + w + m ≡ length (record_at (drop at t))
  unfolding text_at
  measured-length n w m e f g = omega (arith, record-length)

-- LIST's test of a path
module _ (prefix suffix p : List ℕ) where
  pub long-enough : begins prefix p ≡ true → length prefix ≤ length p
  long-enough e = omega (arith, ap length (begins-true prefix p e), length-append prefix (drop (length prefix) p))

  pub has-not : begins prefix p ≡ false → false ≡ is_listed prefix suffix p
  unfolding is_listed
  has-not e = rw e

  pub has_rest : (r : Bool) → begins prefix p ≡ true → r ≡ ends suffix (take (length p - length prefix) (drop (length prefix) p)) → r ≡ is_listed prefix suffix p
  unfolding is_listed
  has_rest r e q = rw e (q ∙ ap (ends suffix) (take_all (length p - length prefix) (drop (length prefix) p) (simp length-drop (omega arith))))
