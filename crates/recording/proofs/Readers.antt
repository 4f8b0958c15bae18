-- A reader finds what a printer wrote, and nothing else; what is made of such readers does so too. Assumes nothing.
use Prim.Native.Nat.{ℕ}
use mathlib.Core.Path.{◌≡◌, refl, sym, ap, subst, ◌∙◌}
use mathlib.Core.Bool.{Bool, true, false}
use mathlib.Core.List.{[], ◌∷◌, ◌++◌, append_assoc}
use native.Mathlib.Omega.{arith}
use lib.Dec.{eqb}
use borrow.Author.Tests.{eq-eqb, eqb-true}
use Rattle.machine.specs.Names.{Bytes}
use Rattle.recording.specs.Read.{Read, got, no, Reader, and_then, both, past, closed}

-- r finds each x that is all right and printed by `show`, where what follows may stop it; and it finds nothing but these
pub record Exact {X : Type 0} (r : Reader X) (show : X → Bytes) (Ok : X → Type 0) (Stop : Bytes → Type 0) : Type 0 where
  pub finds : (x : X) → Ok x → (rest : Bytes) → Stop rest → r (show x ++ rest) ≡ got x rest
  pub only : (l : Bytes) (x : X) (rest : Bytes) → r l ≡ got x rest → (l ≡ show x ++ rest) × Ok x

-- a ")" follows
abbrev pub Closing : Bytes → Type 0
Closing l = (l₁ : Bytes) × (l ≡ 41 ∷ l₁)

abbrev pub Any : Bytes → Type 0
Any l = Unit {0}

pub by-test : {B : Type 0} (t : Bool) → (t ≡ true → B) → (t ≡ false → B) → B
by-test true f g = f refl
by-test false f g = g refl

-- What was read on the way ---------------------------------------------------------------------------------------------

pub no-got : {X B : Type 0} {x : X} {l : Bytes} → no ≡ got x l → B
no-got e = let z : ◌≡◌ {A = ℕ} 0 1 = cc in absurd (omega arith)

pub got-value : {X : Type 0} {x y : X} {l m : Bytes} → got x l ≡ got y m → x ≡ y
got-value e = cc

pub got-rest : {X : Type 0} {x y : X} {l m : Bytes} → got x l ≡ got y m → l ≡ m
got-rest e = cc

pub record Went {X Y : Type 0} (r : Read X) (k : X → Reader Y) (y : Y) (rest : Bytes) : Type 0 where
  pub value : X
  pub after : Bytes
  pub here : r ≡ got value after
  pub there : k value after ≡ got y rest

pub went : {X Y : Type 0} {y : Y} {rest : Bytes} (r : Read X) (k : X → Reader Y) → and_then r k ≡ got y rest → Went r k y rest
went (got x l) k e = record { value = x; after = l; here = refl; there = e }
went no k e = no-got e

pub record Passed {X : Type 0} (b : ℕ) (r : Reader X) (l : Bytes) (x : X) (rest : Bytes) : Type 0 where
  pub after : Bytes
  pub here : l ≡ b ∷ after
  pub there : r after ≡ got x rest

pub passed : {X : Type 0} {x : X} {rest : Bytes} (b : ℕ) (r : Reader X) (l : Bytes) → past b r l ≡ got x rest → Passed b r l x rest
passed b r [] e = no-got e
passed b r (c ∷ l) e =
    by-test (eqb c b)
    (λ t. record { after = l; here = ap (λ (n : ℕ). n ∷ l) (eqb-true c b t); there = rw t at e })
    (λ t. no-got (rw t at e))

-- The combinations -----------------------------------------------------------------------------------------------------

module _ {X : Type 0} {r : Reader X} {show : X → Bytes} {Ok : X → Type 0} {Stop : Bytes → Type 0} (h : Exact r show Ok Stop) where
  pub past-exact : (b : ℕ) → Exact (past b r) (λ x. b ∷ show x) Ok Stop
  past-exact b = record {
    finds = λ x ok rest s. rw (eq-eqb b b refl) (h.finds x ok rest s);
    only = λ l x rest e.
        let p = passed b r l e in
        let o = h.only p.after x rest p.there in
        (p.here ∙ ap (λ (m : Bytes). b ∷ m) o.0, o.1);
  }

  pub closed-exact : ((l : Bytes) → Stop (41 ∷ l)) → Exact (closed r) (λ x. show x ++ 41 ∷ []) Ok Any
  closed-exact stops = record {
    finds = λ x ok rest s. rw (append_assoc, h.finds x ok (41 ∷ rest) (stops rest));
    only = λ l x rest e.
        let w = went (r l) (λ x. past 41 (got x)) e in
        let p = passed 41 (got w.value) w.after w.there in
        let o = h.only l w.value w.after w.here in
        let v = w.value in
        subst (λ (y : X). (l ≡ show y ++ 41 ∷ [] ++ rest) × Ok y) (got-value p.there)
        (o.0 ∙ ap (λ (m : Bytes). show v ++ m) (p.here ∙ ap (λ (m : Bytes). 41 ∷ m) (got-rest p.there)) ∙ sym (append_assoc (show v) (41 ∷ []) rest), o.1);
  }

module _ {X Y : Type 0} {r : Reader X} {show : X → Bytes} {Ok : X → Type 0} {Stop : Bytes → Type 0}
    {q : Reader Y} {show' : Y → Bytes} {Ok' : Y → Type 0} {Stop' : Bytes → Type 0} where
  pub both-exact : Exact r show Ok Stop → Exact q show' Ok' Stop' → ((y : Y) (rest : Bytes) → Stop' rest → Stop (show' y ++ rest))
      → Exact (both r q) (λ a. show a.0 ++ show' a.1) (λ a. Ok a.0 × Ok' a.1) Stop'
  both-exact h h' stops = record {
    finds = λ a ok rest s. rw (append_assoc, h.finds a.0 ok.0 (show' a.1 ++ rest) (stops a.1 rest s), h'.finds a.1 ok.1 rest s);
    only = λ l a rest e.
        let w = went (r l) (λ x m. and_then (q m) (λ y n. got (x, y) n)) e in
        let w' = went (q w.after) (λ y n. got (w.value, y) n) w.there in
        let o = h.only l w.value w.after w.here in
        let o' = h'.only w.after w'.value w'.after w'.here in
        let x = w.value in
        let y = w'.value in
        subst (λ (a : X × Y). (l ≡ show a.0 ++ show' a.1 ++ rest) × (Ok a.0 × Ok' a.1)) (got-value w'.there)
        (o.0 ∙ ap (λ (m : Bytes). show x ++ m) (o'.0 ∙ ap (λ (m : Bytes). show' y ++ m) (got-rest w'.there)) ∙ sym (append_assoc (show x) (show' y) rest), (o.1, o'.1));
  }
