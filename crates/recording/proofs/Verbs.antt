-- Each verb's arguments are read as they are printed. Assumes nothing.
use Prim.Native.Nat.{ℕ, suc}
use mathlib.Core.Path.{◌≡◌, refl, sym, ap, subst, ◌∙◌}
use mathlib.Core.List.{List, [], ◌∷◌, ◌++◌, map, append_assoc}
use native.Mathlib.Nat.{le_of_eq}
use native.Mathlib.Omega.{arith}
use lib.ListN.{length, length-append}
use Rattle.base_text.specs.Text.{decimal}
use Rattle.machine.specs.Names.{Bytes}
use Rattle.recording.specs.Entry.{Each, Word64, AreBytes, PairBytes}
use Rattle.recording.specs.Print.{bracket, quoted, pair}
use Rattle.recording.specs.Read.{Read, got, no, Reader, both, digit_value, read_number, read_pair, first_number, inside_numbers, read_numbers}
use Rattle.recording.specs.Parse.{number, string, numbers, pairs}
use Rattle.recording.proofs.Readers.{Exact, Closing, Any, got-value, got-rest, past-exact, closed-exact, both-exact}
use Rattle.recording.proofs.Items.{shown, items-exact, follows, items-find, items-only, length-shown}
use Rattle.recording.proofs.Digits.{NoDigit, number-none, number-exact}
use Rattle.recording.proofs.Strings.{string-exact}

-- a space or a ")" ends a number
space-ends : (l : Bytes) → NoDigit (32 ∷ l)
unfolding digit_value
space-ends l = refl

pub close-ends : (l : Bytes) → NoDigit (41 ∷ l)
unfolding digit_value
close-ends l = refl

closing-ends : (l : Bytes) → Closing l → NoDigit l
closing-ends l c = subst NoDigit (sym c.1) (close-ends c.0)

-- the same reader and the same text
module _ {X : Type 0} {r : Reader X} {show : X → Bytes} {Ok : X → Type 0} {Stop : Bytes → Type 0} where
  pub printed-so : {show' : X → Bytes} → ((x : X) → show x ≡ show' x) → Exact r show Ok Stop → Exact r show' Ok Stop
  printed-so {show'} same h = record {
    finds = λ x ok rest s. ap (λ (m : Bytes). r (m ++ rest)) (sym (same x)) ∙ h.finds x ok rest s;
    only = λ l x rest e. let o = h.only l x rest e in (o.0 ∙ ap (λ (m : Bytes). m ++ rest) (same x), o.1);
  }

-- Pairs and part lists -------------------------------------------------------------------------------------------------

pub pair-exact : Exact read_pair pair PairBytes Any
unfolding read_pair
pair-exact =
    past-exact
    (printed-so (λ e. simp append_assoc)
    (closed-exact (both-exact string-exact (past-exact string-exact 32) (λ y rest s. tt)) (λ l. tt)))
    40

pub pairs-exact : Exact pairs (shown pair) (Each PairBytes) Closing
pairs-exact = items-exact pair-exact (λ l. tt) (λ l c. tt)

abbrev inside : List ℕ → Bytes
inside [] = []
inside (n ∷ ns) = decimal n ++ shown decimal ns

inside-find : (ns : List ℕ) → Each Word64 ns → (rest : Bytes) → Closing rest → first_number (read_number (inside ns ++ rest)) (inside ns ++ rest) ≡ got ns rest
inside-find [] ok rest c = ap (λ (r : Read ℕ). first_number r rest) (ap read_number c.1 ∙ number-none 41 c.0 (λ e. omega arith) (le_of_eq (sym (close-ends c.0))))
inside-find (n ∷ ns) ok rest c =
    let l : Bytes = shown decimal ns ++ rest in
    let e : read_number (inside (n ∷ ns) ++ rest) ≡ got n l =
    ap read_number (append_assoc (decimal n) (shown decimal ns) rest) ∙ number-exact.finds n ok.0 l (follows number-exact space-ends closing-ends ns rest c) in
    ap (λ (r : Read ℕ). first_number r (inside (n ∷ ns) ++ rest)) e
    ∙ items-find number-exact space-ends closing-ends ns (suc (length l)) (n ∷ []) rest (omega (arith, length-shown decimal ns, length-append (shown decimal ns) rest)) ok.1 c

inside-only : (r : Read ℕ) (l : Bytes) → read_number l ≡ r → (xs : List ℕ) (rest : Bytes) → first_number r l ≡ got xs rest → (l ≡ inside xs ++ rest) × Each Word64 xs
inside-only (got n m) l q xs rest e =
    let o = number-exact.only l n m q in
    let f = items-only number-exact space-ends closing-ends (suc (length m)) (n ∷ []) m xs rest e in
    subst (λ (ys : List ℕ). (l ≡ inside ys ++ rest) × Each Word64 ys) (sym f.all)
    (o.0 ∙ ap (λ (k : Bytes). decimal n ++ k) f.text ∙ sym (append_assoc (decimal n) (shown decimal f.more) rest), (o.1, f.ok))
inside-only no l q xs rest e =
    subst (λ (ys : List ℕ). (l ≡ inside ys ++ rest) × Each Word64 ys) (got-value e) (got-rest e, tt)

inside-exact : Exact inside_numbers inside (Each Word64) Closing
inside-exact = record { finds = inside-find; only = λ l xs rest e. inside-only (read_number l) l refl xs rest e }

inside-printed : (ns : List ℕ) → 40 ∷ inside ns ++ 41 ∷ [] ≡ bracket (map decimal ns)
inside-printed [] = refl
inside-printed (n ∷ ns) = ap (λ (m : Bytes). 40 ∷ m) (append_assoc (decimal n) (shown decimal ns) (41 ∷ []))

pub numbers-exact : Exact read_numbers (λ ns. bracket (map decimal ns)) (Each Word64) Any
unfolding read_numbers
numbers-exact = printed-so inside-printed (past-exact (closed-exact inside-exact (λ l. (l, refl))) 40)

-- The arguments of a line ----------------------------------------------------------------------------------------------

pub number-field : Exact number (λ n. 32 ∷ decimal n) Word64 NoDigit
number-field = past-exact number-exact 32

pub string-field : Exact string (λ bs. 32 ∷ quoted bs) AreBytes Any
string-field = past-exact string-exact 32

pub numbers-field : Exact numbers (λ ns. 32 ∷ bracket (map decimal ns)) (Each Word64) Any
numbers-field = past-exact numbers-exact 32

-- a string before any other thing
pub string-then : {Y : Type 0} {q : Reader Y} {show : Y → Bytes} {Ok : Y → Type 0} {Stop : Bytes → Type 0} → Exact q show Ok Stop
    → Exact (both string q) (λ a. 32 ∷ quoted a.0 ++ show a.1) (λ a. AreBytes a.0 × Ok a.1) Stop
string-then h = both-exact string-field h (λ y rest s. tt)

-- a number before what begins with a space
pub number-then : {Y : Type 0} {q : Reader Y} {show : Y → Bytes} {Ok : Y → Type 0} {Stop : Bytes → Type 0} → Exact q (λ y. 32 ∷ show y) Ok Stop
    → Exact (both number q) (λ a. 32 ∷ decimal a.0 ++ 32 ∷ show a.1) (λ a. Word64 a.0 × Ok a.1) Stop
number-then h = both-exact number-field h (λ y rest s. space-ends [])
