-- The reply, written field by field. Assumes nothing.
use Prim.Native.Nat.{ℕ, ◌+◌, ◌*◌, ◌<◌}
use mathlib.Core.Path.{◌≡◌, refl, sym, ap, ◌∙◌}
use mathlib.Core.List.{List, [], ◌++◌, append_assoc, append-nil}
use native.Mathlib.Omega.{arith}
use lib.ListN.{length, length-append, drop_of_length-le}
use Rattle.base_number.specs.Number.{le}
use Rattle.base_number.proofs.NumberLaws.{length-le, pair-bytes}
use Rattle.base_number.proofs.Fields.{replaced_at, front-next}
use Rattle.base_md5.specs.Md5.{bytes_of}
use Rattle.c_reply.specs.Reply.{field_bytes}

module _ (b : List ℕ) (room : length b ≡ 48) (created size upload records bytes kind more count : ℕ) (digest : List ℕ) (pairs pairsBytes : ℕ) where
  -- the nine calls of `write_fields`
  pub written : (pair : ℕ) {b₁ b₂ b₃ b₄ b₅ b₆ b₇ b₈ b₉ : List ℕ} → pair ≡ kind + 256 * more → kind < 256 → more < 256 → length digest ≡ 16
      → b₁ ≡ replaced_at b 0 (le 8 created) 8 → b₂ ≡ replaced_at b₁ 8 (le 4 size) 4 → b₃ ≡ replaced_at b₂ 12 (le 4 upload) 4 → b₄ ≡ replaced_at b₃ 16 (le 4 records) 4
      → b₅ ≡ replaced_at b₄ 20 (le 4 bytes) 4 → b₆ ≡ replaced_at b₅ 24 (le 2 pair) 2 → b₇ ≡ replaced_at b₆ 26 (le 2 count) 2 → b₈ ≡ replaced_at b₇ 28 digest 16
      → b₉ ≡ replaced_at b₈ 44 (le 2 pairs ++ le 2 pairsBytes) 4 → b₉ ≡ field_bytes created size upload records bytes kind more count digest pairs pairsBytes
  unfolding field_bytes
  written pair {b₁} {b₂} {b₃} {b₄} {b₅} {b₆} {b₇} {b₈} {b₉} is small small' l e₁ e₂ e₃ e₄ e₅ e₆ e₇ e₈ e₉ =
      let x₁ = le 8 created in
      let x₂ = x₁ ++ le 4 size in
      let x₃ = x₂ ++ le 4 upload in
      let x₄ = x₃ ++ le 4 records in
      let x₅ = x₄ ++ le 4 bytes in
      let x₆ = x₅ ++ le 2 pair in
      let x₇ = x₆ ++ le 2 count in
      let x₈ = x₇ ++ digest in
      let l₁ : length x₁ ≡ 8 = length-le 8 created in
      let l₂ : length x₂ ≡ 12 = omega (arith, length-append x₁ (le 4 size), length-le 4 size) in
      let l₃ : length x₃ ≡ 16 = omega (arith, length-append x₂ (le 4 upload), length-le 4 upload) in
      let l₄ : length x₄ ≡ 20 = omega (arith, length-append x₃ (le 4 records), length-le 4 records) in
      let l₅ : length x₅ ≡ 24 = omega (arith, length-append x₄ (le 4 bytes), length-le 4 bytes) in
      let l₆ : length x₆ ≡ 26 = omega (arith, length-append x₅ (le 2 pair), length-le 2 pair) in
      let l₇ : length x₇ ≡ 28 = omega (arith, length-append x₆ (le 2 count), length-le 2 count) in
      let l₈ : length x₈ ≡ 44 = omega (arith, length-append x₇ digest) in
      let q₁ = front-next b b b₁ [] x₁ 0 8 refl refl e₁ in
      let q₂ = front-next b b₁ b₂ x₁ (le 4 size) 8 4 q₁ l₁ e₂ in
      let q₃ = front-next b b₂ b₃ x₂ (le 4 upload) 12 4 q₂ l₂ e₃ in
      let q₄ = front-next b b₃ b₄ x₃ (le 4 records) 16 4 q₃ l₃ e₄ in
      let q₅ = front-next b b₄ b₅ x₄ (le 4 bytes) 20 4 q₄ l₄ e₅ in
      let q₆ = front-next b b₅ b₆ x₅ (le 2 pair) 24 2 q₅ l₅ e₆ in
      let q₇ = front-next b b₆ b₇ x₆ (le 2 count) 26 2 q₆ l₆ e₇ in
      let q₈ = front-next b b₇ b₈ x₇ digest 28 16 q₇ l₇ e₈ in
      let q₉ = front-next b b₈ b₉ x₈ (le 2 pairs ++ le 2 pairsBytes) 44 4 q₈ l₈ e₉ in
      let apart : x₆ ≡ x₅ ++ le 1 kind ++ le 1 more = rw (is, pair-bytes kind more small small') (sym (append_assoc x₅ (le 1 kind) (le 1 more))) in
      q₉ ∙ rw (drop_of_length-le b {i = 48} (omega arith), append-nil) (ap (λ (x : List ℕ). x ++ le 2 count ++ digest ++ (le 2 pairs ++ le 2 pairsBytes)) apart)

-- the digest's place where an etag is absent
pub zero-digest : le 16 0 ≡ bytes_of (record { a = 0; b = 0; c = 0; d = 0 })
unfolding le bytes_of
zero-digest = refl
