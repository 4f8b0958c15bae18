-- How many records LIST and UPLOADS write of a valid state, and how many bytes; how many uploads are due. Assumes nothing.
use Prim.Native.Nat.{ℕ, suc, ◌*◌, ◌/◌, ◌≤◌}
use mathlib.Core.Bool.{Bool, true, false, cond}
use mathlib.Core.List.{[], ◌∷◌}
use native.Mathlib.Omega.{arith}
use lib.ListN.{length, length-append}
use Rattle.base_number.proofs.NumberLaws.{length-le}
use Rattle.base_order.specs.Order.{begins}
use Rattle.base_text.specs.Text.{hex, decimal}
use Rattle.base_text.proofs.TextLaws.{length-hex, one-or-more, length-digits-one, length-digits-more}
use Rattle.machine.specs.Map.{Map, Every, keep, records}
use Rattle.machine.specs.Names.{Bytes}
use Rattle.machine.specs.Etags.{Etag, absent, plain, joined, text}
use Rattle.machine.specs.State.{Object, Upload, State}
use Rattle.machine.specs.Steps.{is_listed, listed, list_record, open_under, upload_record, is_due, due}
use Rattle.machine.specs.Valid.{EtagOk, ObjectOk, UploadOk, Valid}
use Rattle.machine.proofs.Records.{length-list_record}
use Rattle.mem_layout.proofs.TestLaws.{stored-path-length}

-- what is kept of a map is no longer, and each of its entries keeps to what all kept to
module _ {K X : Type 0} (f : K → X → Bool) where
  kept-length : (m : Map K X) → length (keep f m) ≤ length m
  kept-length [] = omega arith
  kept-length (e ∷ m) = go (f e.0 e.1) (kept-length m)
    where
      go : (b : Bool) → length (keep f m) ≤ length m → length (cond b (e ∷ keep f m) (keep f m)) ≤ suc (length m)
      go true h = omega arith
      go false h = omega arith

  kept-every : (P : K → X → Type 0) (m : Map K X) → Every P m → Every P (keep f m)
  kept-every P [] h = tt
  kept-every P (e ∷ m) h = go (f e.0 e.1) (kept-every P m h.1)
    where
      go : (b : Bool) → Every P (keep f m) → Every P (cond b (e ∷ keep f m) (keep f m))
      go true k = (h.0, k)
      go false k = k

-- records of at most w bytes
records-length : {K X : Type 0} (g : K → X → Bytes) (P : K → X → Type 0) (w : ℕ) → ((k : K) (x : X) → P k x → length (g k x) ≤ w)
    → (m : Map K X) → Every P m → length (records g m) ≤ w * length m
records-length g P w small [] h = omega arith
records-length g P w small (e ∷ m) h =
    omega (arith, length-append (g e.0 e.1) (records g m), small e.0 e.1 h.0, records-length g P w small m h.1)

decimal-length : (n : ℕ) → n ≤ 256 → length (decimal n) ≤ 3
unfolding decimal
decimal-length n h =
    one-or-more n
    (λ l. omega (arith, length-digits-one 19 n l))
    (λ l. one-or-more (n / 10)
    (λ k. omega (arith, length-digits-more 19 n l, length-digits-one 18 (n / 10) k))
    (λ k. omega (arith, length-digits-more 19 n l, length-digits-more 18 (n / 10) k, length-digits-one 17 (n / 10 / 10) (omega arith))))

text-length : (e : Etag) → EtagOk e → length (text e) ≤ 36
unfolding text
text-length absent h = absurd h
text-length (plain d) h = omega (arith, length-hex d)
text-length (joined d n) h =
    let l = h.0 in
    omega (arith, length-hex d, length-append (hex d) (45 ∷ decimal n), decimal-length n h.1)

list-record-length : (p : Bytes) (x : Object) → ObjectOk p x → length (list_record p x) ≤ 178
list-record-length p x h =
    let l = (stored-path-length p h.path).below in
    omega (arith, length-list_record p x, text-length x.etag h.etag)

upload-record-length : (N u : ℕ) (x : Upload) → UploadOk N u x → length (upload_record u x) ≤ 143
unfolding upload_record
upload-record-length N u x h =
    let l = (stored-path-length x.path h.path).below in
    simp (length-append, length-le) (omega arith)

module _ (A : ℕ) (s : State) (v : Valid A s) where
  module _ (prefix suffix : Bytes) where
    pub listed-few : length (listed prefix suffix s.O) ≤ 256
    unfolding listed
    listed-few = omega (arith, kept-length (λ p x. is_listed prefix suffix p) s.O, v.paths)

    pub listed-bytes : length (records list_record (listed prefix suffix s.O)) ≤ 178 * 256
    unfolding listed
    listed-bytes =
        let every = kept-every (λ p x. is_listed prefix suffix p) ObjectOk s.O v.object in
        omega (arith, records-length list_record ObjectOk 178 list-record-length (listed prefix suffix s.O) every, listed-few)

  module _ (prefix : Bytes) where
    pub opens-few : length (open_under prefix s.U) ≤ 16
    unfolding open_under
    opens-few = omega (arith, kept-length (λ (u : ℕ) (x : Upload). begins prefix x.path) s.U, v.opens)

    pub opens-bytes : length (records upload_record (open_under prefix s.U)) ≤ 143 * 16
    unfolding open_under
    opens-bytes =
        let every = kept-every (λ (u : ℕ) (x : Upload). begins prefix x.path) (UploadOk s.N) s.U v.upload in
        omega (arith, records-length upload_record (UploadOk s.N) 143 (upload-record-length s.N) (open_under prefix s.U) every, opens-few)

  pub due-few : (t : ℕ) → length (due t s.U) ≤ 16
  unfolding due
  due-few t = omega (arith, kept-length (λ (u : ℕ) (x : Upload). is_due t x) s.U, v.opens)
