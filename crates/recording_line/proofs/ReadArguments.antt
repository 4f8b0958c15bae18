-- A line whose arguments were read in the bytes that the store takes. Assumes nothing.
use Prim.Native.Nat.{ℕ}
use mathlib.Core.Path.{◌≡◌, sym, ap, subst}
use mathlib.Core.Bool.{true, false}
use mathlib.Core.Option.{none, some}
use native.Mathlib.Omega.{arith}
use lib.ListN.{drop}
use Rattle.std.specs.Prelude.{Option, Some, None}
use Rattle.machine.specs.Names.{Bytes}
use Rattle.recording.specs.Entry.{Entry}
use Rattle.recording.specs.Read.{got, no, Reader, closed, map_read}
use Rattle.recording.proofs.Readers.{by-test}
use Rattle.recording.specs.Parse.{whole, ends_line}
use Rattle.recording.proofs.Wholes.{whole-none, whole_open, whole-form}
use Rattle.recording_read.specs.Meant.{meant, closed_meant}
use Rattle.recording_read.specs.declared.Field.{Field}
use Rattle.recording_lists.proofs.PairSteps.{MappedRead, unmapped, unmapped-no}

-- the arguments were read by r, and f made of them what the store takes; e is the entry that they make
module _ {X Y : Type 0} (e : X → Entry) (r : Reader X) (f : X → Y) (l : Bytes) where
  pub mapped-none : no ≡ map_read f r l → whole (map_read e (closed r) l) ≡ none
  mapped-none h = whole-none e r l (sym (unmapped-no f (r l) h))

  module _ (y : Y) (rest : Bytes) (h : got y rest ≡ map_read f r l) where
    pub said : MappedRead f (r l) y rest
    said = unmapped f (r l) y rest h

    pub mapped-open : ends_line rest ≡ false → whole (map_read e (closed r) l) ≡ none
    mapped-open t = whole_open e r l said.value rest (sym said.here) t

    pub mapped-form : ends_line rest ≡ true → whole (map_read e (closed r) l) ≡ some (e said.value)
    mapped-form t = whole-form e r l said.value rest (sym said.here) t

-- What was read, where just ")" is left -------------------------------------------------------------------------------

module _ {T : Type 0} (s : Bytes) where
  pub record Closed (o : Option (Field T)) (t : T) : Type 0 where
    pub next : ℕ
    pub read : o ≡ Some (record { value = t; next = next })
    pub ends : ends_line (drop next s) ≡ true

  pub was-closed : (o : Option (Field T)) (t : T) → Some t ≡ closed_meant s o → Closed o t
  was-closed (Some r) t e =
      by-test (ends_line (drop r.next s))
      (λ w. let q : r.value ≡ t = (let z = rw w at e in cc) in record { next = r.next; read = ap (λ (x : T). Some (record { value = x; next = r.next })) q; ends = w })
      (λ w. let n = rw w at e in let z : ◌≡◌ {A = ℕ} 0 1 = cc in absurd (omega arith))
  was-closed None t e = let z : ◌≡◌ {A = ℕ} 0 1 = cc in absurd (omega arith)

-- g says what was read from l, which the bytes s end with
module _ {X Y T : Type 0} (e : X → Entry) (r : Reader X) (f : X → Y) (g : T → Y) (s l : Bytes) where
  pub no-entry : (o : Option (Field T)) → meant g s o ≡ map_read f r l → None ≡ closed_meant s o → whole (map_read e (closed r) l) ≡ none
  no-entry None h q = mapped-none e r f l h
  no-entry (Some x) h q =
      by-test (ends_line (drop x.next s))
      (λ w. let n = rw w at q in let z : ◌≡◌ {A = ℕ} 0 1 = cc in absurd (omega arith))
      (λ w. mapped-open e r f l (g x.value) (drop x.next s) h w)

  pub record Entered (t : T) : Type 0 where
    pub value : X
    pub so : g t ≡ f value
    pub entry : whole (map_read e (closed r) l) ≡ some (e value)

  pub an-entry : (o : Option (Field T)) → meant g s o ≡ map_read f r l → (t : T) → Some t ≡ closed_meant s o → Entered t
  an-entry o h t q =
      let k = was-closed s o t q in
      let h' = subst (λ (z : Option (Field T)). meant g s z ≡ map_read f r l) k.read h in
      let v = said e r f l (g t) (drop k.next s) h' in
      record { value = v.value; so = v.so; entry = mapped-form e r f l (g t) (drop k.next s) h' k.ends }

-- the same where it was read as it is
module _ {X T : Type 0} (e : X → Entry) (r : Reader X) (g : T → X) (s l : Bytes) where
  pub no-plain : (o : Option (Field T)) → meant g s o ≡ r l → None ≡ closed_meant s o → whole (map_read e (closed r) l) ≡ none
  no-plain None h q = whole-none e r l (sym h)
  no-plain (Some x) h q =
      by-test (ends_line (drop x.next s))
      (λ w. let n = rw w at q in let z : ◌≡◌ {A = ℕ} 0 1 = cc in absurd (omega arith))
      (λ w. whole_open e r l (g x.value) (drop x.next s) (sym h) w)

  pub a-plain : (o : Option (Field T)) → meant g s o ≡ r l → (t : T) → Some t ≡ closed_meant s o → whole (map_read e (closed r) l) ≡ some (e (g t))
  a-plain o h t q =
      let k = was-closed s o t q in
      whole-form e r l (g t) (drop k.next s) (sym (subst (λ (z : Option (Field T)). meant g s z ≡ r l) k.read h)) k.ends
