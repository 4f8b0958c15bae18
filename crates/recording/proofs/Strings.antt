-- Quoted strings are read as they are printed. Assumes nothing.
use Prim.Native.Nat.{ℕ, ◌+◌, ◌*◌, ◌-◌, ◌/◌, ◌%◌, ◌≤◌, ◌<◌}
use mathlib.Core.Path.{◌≡◌, refl, sym, ap, ap₂, subst, ◌∙◌}
use mathlib.Core.Bool.{true, false, ◌&&◌}
use mathlib.Core.List.{[], ◌∷◌, ◌++◌, append_assoc, append-nil}
use native.Mathlib.Omega.{arith}
use lib.Dec.{leb, ltb, eqb, lit≤}
use borrow.Author.Tests.{eq-eqb, ne_eqb, eqb-true, eqb-false, lt-ltb, le-ltb, ltb-true, ltb-false, le-leb, lt-leb, leb-true}
use Rattle.base_text.specs.Text.{hex_digit, hex}
use Rattle.base_text.proofs.TextLaws.{one-or-more}
use Rattle.machine.specs.Names.{Bytes}
use Rattle.recording.specs.Entry.{AreBytes}
use Rattle.recording.specs.Print.{quoted}
use Rattle.recording.specs.Read.{got, no, hex_value, hex_pair, hex_on, read_string}
use Rattle.recording.proofs.Readers.{Exact, Any, by-test, no-got, got-value, got-rest, past-exact}

-- The value of a digit -------------------------------------------------------------------------------------------------

pub hex-value : (d : ℕ) → d < 16 → hex_value (hex_digit d) ≡ d
unfolding hex_value hex_digit
hex-value d h =
    one-or-more d
    (λ s. rw (lt-ltb d 10 s, le-leb 48 (48 + d) (omega arith), le-leb (48 + d) 57 (omega arith)) (omega arith))
    (λ m. rw (le-ltb d 10 m, le-leb 48 (87 + d) (omega arith), lt-leb (87 + d) 57 (omega arith), le-leb 97 (87 + d) (omega arith), le-leb (87 + d) 102 (omega arith)) (omega arith))

pub between : (low b high : ℕ) → leb low b && leb b high ≡ true → (low ≤ b) × (b ≤ high)
between low b high e =
    by-test (leb low b)
    (λ t. (leb-true low b t, leb-true b high (rw t at e)))
    (λ t. let f : false ≡ true = rw t at e in let z : ◌≡◌ {A = ℕ} 0 1 = cc in absurd (omega arith))

-- a byte with a value is a digit
pub is-hex : (b : ℕ) → hex_value b < 16 → b ≡ hex_digit (hex_value b)
unfolding hex_value hex_digit
is-hex b h =
    by-test (leb 48 b && leb b 57)
    (λ t. let w = between 48 b 57 t in rw (t, lt-ltb (b - 48) 10 (omega arith)) (omega arith))
    (λ t. by-test (leb 97 b && leb b 102)
    (λ u. let w = between 97 b 102 u in rw (t, u, le-ltb (b - 87) 10 (omega arith)) (omega arith))
    (λ u. let z : 16 < 16 = rw (t, u) at h in absurd (omega arith)))

quote-value : hex_value 34 ≡ 16
unfolding hex_value
quote-value = refl

no-quote : (d : ℕ) → d < 16 → hex_digit d ≡ 34 → ⊥
no-quote d h e = let z : d ≡ 16 = sym (hex-value d h) ∙ ap hex_value e ∙ quote-value in omega arith

-- of two digits
pub pair-value : (x : ℕ) → x < 256 → hex_pair (hex_digit (x / 16)) (hex_digit (x % 16)) ≡ x
unfolding hex_pair
pair-value x h =
    rw (hex-value (x / 16) (omega arith), hex-value (x % 16) (omega arith), lt-ltb (x / 16) 16 (omega arith), lt-ltb (x % 16) 16 (omega arith)) (omega arith)

module _ (h l : ℕ) where
  pub no-high : 16 ≤ hex_value h → hex_pair h l ≡ 256
  unfolding hex_pair
  no-high n = rw (le-ltb (hex_value h) 16 n)

  pub no-low : 16 ≤ hex_value l → hex_pair h l ≡ 256
  unfolding hex_pair
  no-low n = by-test (ltb (hex_value h) 16) (λ t. rw (t, le-ltb (hex_value l) 16 n)) (λ t. rw t)

  pub both-digits : hex_value h < 16 → hex_value l < 16 → hex_pair h l ≡ 16 * hex_value h + hex_value l
  unfolding hex_pair
  both-digits a b = rw (lt-ltb (hex_value h) 16 a, lt-ltb (hex_value l) 16 b)

-- 0 is no digit
pub pair-zero : (h : ℕ) → hex_pair h 0 ≡ 256
unfolding hex_value
pair-zero h = no-low h 0 (lit≤ tt)

pub record IsPair (h l : ℕ) : Type 0 where
  pub high : h ≡ hex_digit (hex_pair h l / 16)
  pub low : l ≡ hex_digit (hex_pair h l % 16)

pub is-pair : (h l : ℕ) → hex_pair h l < 256 → IsPair h l
unfolding hex_pair
is-pair h l s =
    by-test (ltb (hex_value h) 16)
    (λ t. by-test (ltb (hex_value l) 16)
    (λ u.
    let a : hex_value h < 16 = ltb-true (hex_value h) 16 t in
    let b : hex_value l < 16 = ltb-true (hex_value l) 16 u in
    let q : (16 * hex_value h + hex_value l) / 16 ≡ hex_value h = omega arith in
    let m : (16 * hex_value h + hex_value l) % 16 ≡ hex_value l = omega arith in
    record { high = rw (t, u, q) (is-hex h a); low = rw (t, u, m) (is-hex l b) })
    (λ u. let z : 256 < 256 = rw (t, u) at s in absurd (omega arith)))
    (λ t. let z : 256 < 256 = rw t at s in absurd (omega arith))

-- A step of the reader -------------------------------------------------------------------------------------------------

pub hex-closed : (bs : Bytes) (b : ℕ) (l : Bytes) → b ≡ 34 → hex_on bs (b ∷ l) ≡ got bs l
unfolding hex_on
hex-closed bs b [] e = rw (eq-eqb b 34 e)
hex-closed bs b (c ∷ l) e = rw (eq-eqb b 34 e)

pub hex-cut : (bs : Bytes) (b : ℕ) → (b ≡ 34 → ⊥) → hex_on bs (b ∷ []) ≡ no
unfolding hex_on
hex-cut bs b n = rw (ne_eqb b 34 n)

module _ (bs : Bytes) (b c : ℕ) (l : Bytes) (n : b ≡ 34 → ⊥) where
  pub hex-more : hex_pair b c < 256 → hex_on bs (b ∷ (c ∷ l)) ≡ hex_on (bs ++ hex_pair b c ∷ []) l
  unfolding hex_on
  hex-more h = rw (ne_eqb b 34 n, lt-ltb (hex_pair b c) 256 h)

  pub hex-bad : 256 ≤ hex_pair b c → hex_on bs (b ∷ (c ∷ l)) ≡ no
  unfolding hex_on
  hex-bad h = rw (ne_eqb b 34 n, le-ltb (hex_pair b c) 256 h)

-- Both ways ------------------------------------------------------------------------------------------------------------

hex-find : (xs bs rest : Bytes) → AreBytes xs → hex_on bs (hex xs ++ 34 ∷ rest) ≡ got (bs ++ xs) rest
unfolding hex
hex-find [] bs rest ok = hex-closed bs 34 rest refl ∙ ap (λ (m : Bytes). got m rest) (sym (append-nil bs))
hex-find (x ∷ xs) bs rest ok =
    let h : ℕ = hex_digit (x / 16) in
    let l : ℕ = hex_digit (x % 16) in
    let x< : x < 256 = ok.0 in
    let p : hex_pair h l ≡ x = pair-value x x< in
    hex-more bs h l (hex xs ++ 34 ∷ rest) (no-quote (x / 16) (omega arith)) (omega arith)
    ∙ ap (λ (y : ℕ). hex_on (bs ++ y ∷ []) (hex xs ++ 34 ∷ rest)) p
    ∙ hex-find xs (bs ++ x ∷ []) rest ok.1
    ∙ ap (λ (m : Bytes). got m rest) (append_assoc bs (x ∷ []) xs)

pub record FoundHex (bs xs l rest : Bytes) : Type 0 where
  pub more : Bytes
  pub all : xs ≡ bs ++ more
  pub text : l ≡ hex more ++ 34 ∷ rest
  pub ok : AreBytes more

found_none : (bs xs : Bytes) (b : ℕ) (l rest : Bytes) → b ≡ 34 → got bs l ≡ got xs rest → FoundHex bs xs (b ∷ l) rest
unfolding hex
found_none bs xs b l rest q e =
    record { more = []; all = sym (got-value e) ∙ sym (append-nil bs); text = ap₂ (λ (y : ℕ) (m : Bytes). y ∷ m) q (got-rest e); ok = tt }

hex-only : (bs l xs rest : Bytes) → hex_on bs l ≡ got xs rest → FoundHex bs xs l rest
unfolding hex_on hex
hex-only bs [] xs rest e = no-got e
hex-only bs (h ∷ []) xs rest e =
    by-test (eqb h 34)
    (λ t. found_none bs xs h [] rest (eqb-true h 34 t) (sym (hex-closed bs h [] (eqb-true h 34 t)) ∙ e))
    (λ t. no-got (sym (hex-cut bs h (eqb-false h 34 t)) ∙ e))
hex-only bs (h ∷ (l ∷ r)) xs rest e =
    by-test (eqb h 34)
    (λ t. found_none bs xs h (l ∷ r) rest (eqb-true h 34 t) (sym (hex-closed bs h (l ∷ r) (eqb-true h 34 t)) ∙ e))
    (λ t.
    by-test (ltb (hex_pair h l) 256)
    (λ u.
    let s : hex_pair h l < 256 = ltb-true (hex_pair h l) 256 u in
    let x : ℕ = hex_pair h l in
    let p = is-pair h l s in
    let f = hex-only (bs ++ x ∷ []) r xs rest (sym (hex-more bs h l r (eqb-false h 34 t) s) ∙ e) in
    record {
      more = x ∷ f.more;
      all = f.all ∙ append_assoc bs (x ∷ []) f.more;
      text = ap₂ (λ (a b : ℕ). a ∷ b ∷ r) p.high p.low ∙ ap (λ (m : Bytes). hex_digit (x / 16) ∷ hex_digit (x % 16) ∷ m) f.text;
      ok = (s, f.ok);
    })
    (λ u. no-got (sym (hex-bad bs h l r (eqb-false h 34 t) (ltb-false (hex_pair h l) 256 u)) ∙ e)))

hex-exact : Exact (hex_on []) (λ bs. hex bs ++ 34 ∷ []) AreBytes Any
hex-exact = record {
  finds = λ xs ok rest s. ap (hex_on []) (append_assoc (hex xs) (34 ∷ []) rest) ∙ hex-find xs [] rest ok;
  only = λ l xs rest e.
      let f = hex-only [] l xs rest e in
      subst (λ (ys : Bytes). (l ≡ hex ys ++ 34 ∷ [] ++ rest) × AreBytes ys) (sym f.all) (f.text ∙ sym (append_assoc (hex f.more) (34 ∷ []) rest), f.ok);
}

pub string-exact : Exact read_string quoted AreBytes Any
unfolding read_string quoted
string-exact = past-exact hex-exact 34
