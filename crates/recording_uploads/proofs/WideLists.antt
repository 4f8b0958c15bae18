-- A part list with numbers too wide for 16 bits is refused as it is with 65,535 for these. Assumes nothing.
use Prim.Native.Nat.{ℕ, ◌+◌, ◌*◌, ◌/◌, ◌%◌, ◌<◌, ◌≤◌}
use mathlib.Core.Path.{◌≡◌, refl, sym, ap, subst, ◌∙◌}
use mathlib.Core.List.{List, [], ◌∷◌, map}
use mathlib.Core.Option.{Option, none, some}
use native.Mathlib.Omega.{arith}
use lib.Dec.{ltb}
use lib.ListN.{length}
use borrow.Author.Tests.{ltb-true, ltb-false}
use Rattle.base_number.specs.Number.{AreBytes, le}
use Rattle.base_order.proofs.OrderLaws.{numbers}
use Rattle.machine.specs.Map.{Map, by_number, lookup, remove, also, mapped, Every}
use Rattle.machine.specs.Names.{stored_part_ok, number_ok}
use Rattle.machine.specs.State.{Part, Upload, State}
use Rattle.machine.specs.Valid.{Valid, PartOk, UploadOk}
use Rattle.machine.specs.Calls.{Reply, COMMIT, given}
use Rattle.machine.specs.Steps.{take_listed, act}
use Rattle.machine.proofs.MapLaws.{every-lookup, every-remove}
use Rattle.mem_layout.proofs.WholeLaws.{whole-stands}
use Rattle.machine.specs.PartLists.{part_list}
use Rattle.call_contract.specs.Made.{Memory, memory, state_in, Made}
use Rattle.recording.proofs.Readers.{by-test}
use Rattle.recording.proofs.Strings.{between}
use Rattle.recording_lists.specs.Packed.{narrowed, packed}
use Rattle.recording_line.proofs.SameCalls.{same-made}

-- the bytes that the code makes say the narrowed numbers
pub packed-list : (ns : List ℕ) → part_list (packed ns) ≡ map narrowed ns
unfolding part_list packed le
packed-list [] = refl
packed-list (n ∷ ns) = let e : narrowed n % 256 + 256 * (narrowed n / 256 % 256) ≡ narrowed n = omega arith in ap (λ (k : ℕ). k ∷ part_list (packed ns)) e ∙ ap (λ (l : List ℕ). narrowed n ∷ l) (packed-list ns)

no_part : (m : Map ℕ Part) → Every PartOk m → (n : ℕ) → 11000 < n → lookup by_number n m ≡ none
unfolding stored_part_ok number_ok
no_part m v n wide = go (lookup by_number n m) refl
  where
    go : (o : Option Part) → lookup by_number n m ≡ o → lookup by_number n m ≡ none
    go none e = e
    go (some x) e = let k = between 1 n 11000 (every-lookup numbers PartOk n x m v e).number in absurd (omega arith)

same-fit : (ns : List ℕ) (m : Map ℕ Part) → Every PartOk m → take_listed (map narrowed ns) m ≡ take_listed ns m
same-fit [] m v = refl
same-fit (n ∷ ns) m v =
    by-test (ltb 65535 n)
    (λ t.
    let w : 65535 < n = ltb-true 65535 n t in
    let a : lookup by_number (narrowed n) m ≡ none = no_part m v (narrowed n) (omega arith) in
    let b : lookup by_number n m ≡ none = no_part m v n (omega arith) in
    ap (λ (o : Option Part). also o (λ x. mapped (λ (xs : List Part). x ∷ xs) (take_listed (map narrowed ns) (remove by_number (narrowed n) m)))) a
    ∙ sym (ap (λ (o : Option Part). also o (λ x. mapped (λ (xs : List Part). x ∷ xs) (take_listed ns (remove by_number n m)))) b))
    (λ t.
    let w : n ≤ 65535 = ltb-false 65535 n t in
    let e : narrowed n ≡ n = omega arith in
    ap (λ (k : ℕ). take_listed (k ∷ map narrowed ns) m) e
    ∙ ap (λ (o : Option (List Part)). also (lookup by_number n m) (λ x. mapped (λ (xs : List Part). x ∷ xs) o))
    (same-fit ns (remove by_number n m) (every-remove numbers PartOk n m v)))

same-commit : (A : ℕ) (s : State) → Valid A s → (u : ℕ) (ns : List ℕ) → act A s (COMMIT u (map narrowed ns)) ≡ act A s (COMMIT u ns)
unfolding act given
same-commit A s v u ns = go (lookup by_number u s.U) refl
  where
    go : (o : Option Upload) → lookup by_number u s.U ≡ o → act A s (COMMIT u (map narrowed ns)) ≡ act A s (COMMIT u ns)
    go none e = rw e
    go (some x) e = rw (e, same-fit ns x.parts (every-lookup numbers (UploadOk s.N) u x s.U v.upload e).each)

-- what the store promises of the bytes that the code makes, it promises of the list that was recorded
pub commit-made : (t a : List ℕ) → AreBytes t → (u : ℕ) (ns : List ℕ) (r : Reply) (m' : Memory)
    → Made (COMMIT u (part_list (packed ns))) (memory t a) r m' → Made (COMMIT u ns) (memory t a) r m'
commit-made t a b u ns r m' d =
    same-made (COMMIT u (map narrowed ns)) (COMMIT u ns) (memory t a) refl
    (λ w. same-commit (length a) (state_in (memory t a)) (whole-stands t a b w).valid u ns)
    r m' (subst (λ (l : List ℕ). Made (COMMIT u l) (memory t a) r m') (packed-list ns) d)
