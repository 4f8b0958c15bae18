-- Lists of items, each after one space, up to a ")". Assumes nothing.
use Prim.Native.Nat.{ℕ, zero, suc, ◌+◌, ◌≤◌, ◌<◌}
use native.Mathlib.Nat.{le_of_suc-le-suc, not-suc-le-zero}
use mathlib.Core.Path.{◌≡◌, sym, ap, subst, ◌∙◌}
use mathlib.Core.List.{List, [], ◌∷◌, ◌++◌, map, append_assoc, append-nil}
use native.Mathlib.Omega.{arith}
use lib.Dec.{eqb}
use lib.ListN.{length, length-append}
use borrow.Author.Tests.{eqb-true}
use Rattle.machine.specs.Names.{Bytes}
use Rattle.recording.specs.Entry.{Each}
use Rattle.recording.specs.Print.{spaced}
use Rattle.recording.specs.Read.{got, Reader, items_on, items}
use Rattle.recording.proofs.Readers.{Exact, Closing, by-test, no-got, got-value, got-rest, went}

abbrev pub shown : {X : Type 0} → (X → Bytes) → List X → Bytes
shown show xs = spaced (map show xs)

-- an item has its space at least
pub length-shown : {X : Type 0} (show : X → Bytes) (xs : List X) → length xs ≤ length (shown show xs)
length-shown show [] = omega arith
length-shown show (x ∷ xs) = omega (arith, length-shown show xs, length-append (show x) (shown show xs))

-- one more item
pub item-read : {X : Type 0} {x : X} {l m : Bytes} (r : Reader X) (n : ℕ) (xs : List X) → r l ≡ got x m
    → items_on r (suc n) xs (32 ∷ l) ≡ items_on r n (xs ++ x ∷ []) m
item-read r n xs e = rw e

module _ {X : Type 0} {r : Reader X} {show : X → Bytes} {Ok : X → Type 0} {Stop : Bytes → Type 0} (h : Exact r show Ok Stop)
    (space : (l : Bytes) → Stop (32 ∷ l)) (close : (l : Bytes) → Closing l → Stop l) where
  -- what follows an item may stop it
  pub follows : (xs : List X) (rest : Bytes) → Closing rest → Stop (shown show xs ++ rest)
  follows [] rest c = close rest c
  follows (x ∷ xs) rest c = space (show x ++ shown show xs ++ rest)

  pub items-find : (ys : List X) (n : ℕ) (xs : List X) (rest : Bytes) → length ys < n → Each Ok ys → Closing rest
      → items_on r n xs (shown show ys ++ rest) ≡ got (xs ++ ys) rest
  items-find [] zero xs rest long ok c = absurd (not-suc-le-zero long)
  items-find [] (suc n) xs rest long ok c = rw (c.1, append-nil)
  items-find (y ∷ ys) zero xs rest long ok c = absurd (not-suc-le-zero long)
  items-find (y ∷ ys) (suc n) xs rest long ok c =
      item-read r n xs (ap r (append_assoc (show y) (shown show ys) rest) ∙ h.finds y ok.0 (shown show ys ++ rest) (follows ys rest c))
      ∙ (items-find ys n (xs ++ y ∷ []) rest (le_of_suc-le-suc long) ok.1 c ∙ ap (λ (zs : List X). got zs rest) (append_assoc xs (y ∷ []) ys))

  pub record Found (xs zs : List X) (l rest : Bytes) : Type 0 where
    pub more : List X
    pub all : zs ≡ xs ++ more
    pub text : l ≡ shown show more ++ rest
    pub ok : Each Ok more

  nothing-more : {xs zs : List X} {l rest : Bytes} → got xs l ≡ got zs rest → Found xs zs l rest
  nothing-more {xs} e = record { more = []; all = sym (got-value e) ∙ sym (append-nil xs); text = got-rest e; ok = tt }

  pub items-only : (n : ℕ) (xs : List X) (l : Bytes) (zs : List X) (rest : Bytes) → items_on r n xs l ≡ got zs rest → Found xs zs l rest
  items-only zero xs l zs rest e = no-got e
  items-only (suc n) xs [] zs rest e = nothing-more e
  items-only (suc n) xs (b ∷ l) zs rest e =
      by-test (eqb b 32)
      (λ t.
      let w = went (r l) (λ x. items_on r n (xs ++ x ∷ [])) (rw t at e) in
      let o = h.only l w.value w.after w.here in
      let f = items-only n (xs ++ w.value ∷ []) w.after zs rest w.there in
      let y = w.value in
      record {
        more = y ∷ f.more;
        all = f.all ∙ append_assoc xs (y ∷ []) f.more;
        text = ap (λ (k : ℕ). k ∷ l) (eqb-true b 32 t) ∙ ap (λ (m : Bytes). 32 ∷ m) (o.0 ∙ ap (λ (m : Bytes). show y ++ m) f.text ∙ sym (append_assoc (show y) (shown show f.more) rest));
        ok = (o.1, f.ok);
      })
      (λ t. nothing-more (rw t at e))

  pub items-exact : Exact (items r) (shown show) (Each Ok) Closing
  items-exact = record {
    finds = λ xs ok rest c. items-find xs (suc (length (shown show xs ++ rest))) [] rest (omega (arith, length-shown show xs, length-append (shown show xs) rest)) ok c;
    only = λ l xs rest e.
        let f = items-only (suc (length l)) [] l xs rest e in
        subst (λ (ys : List X). (l ≡ shown show ys ++ rest) × Each Ok ys) (sym f.all) (f.text, f.ok);
  }
