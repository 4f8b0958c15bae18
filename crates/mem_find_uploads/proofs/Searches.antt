-- What the searches along the rows find. Assumes nothing.
use Prim.Native.Nat.{ℕ, zero, suc, ◌+◌, ◌≤◌, compare}
use mathlib.Core.Path.{◌≡◌, refl, sym, ap, ◌∙◌}
use mathlib.Core.Bool.{Bool, true, false, cond}
use mathlib.Core.List.{List, [], ◌∷◌, ◌++◌}
use mathlib.Core.Option.{some}
use native.Mathlib.Omega.{arith}
use borrow.Author.Tests.{eq-eqb, ne_eqb}
use lib.ListN.{length, take, drop, length-append}
use Rattle.base_order.proofs.OrderLaws.{cases, alike, below, numbers}
use Rattle.machine.specs.Map.{is_some, Map, by_number, lookup, place, Ascending}
use Rattle.machine.specs.State.{Part, Upload}
use Rattle.machine.specs.Steps.{is_due, due}
use Rattle.machine.proofs.Options.{none-some}
use Rattle.machine.proofs.MapLaws.{above-chain, lookup-above}
use Rattle.machine.proofs.Sweeping.{first-due}
use Rattle.mem_row.specs.Row.{Row}
use Rattle.mem_layout.specs.Rules.{upload_kind, part_kind}
use Rattle.mem_layout.specs.Memory.{part_row, part_rows, upload_rows}
use Rattle.mem_find_uploads.specs.Search.{Goal}
use Rattle.mem_find_uploads.specs.Search as goal
use Rattle.mem_find_uploads.specs.Search.{reach, stops_at, stops_of, leads}

-- to the end of the rows
pub reach-end : (rs : List Row) → reach (stops_of goal.End) rs ≡ length rs
unfolding reach stops_at
reach-end [] = refl
reach-end (r ∷ rs) = ap suc (reach-end rs)

-- to an upload, from the uploads on
reach-over-parts : (g : Goal) → ((n : ℕ) (p : Part) → stops_of g (part_row n p) ≡ false) → (ps : Map ℕ Part) (rs : List Row)
    → reach (stops_of g) (part_rows ps ++ rs) ≡ length (part_rows ps) + reach (stops_of g) rs
unfolding reach part_rows
reach-over-parts g passes [] rs = omega arith
reach-over-parts g passes (e ∷ ps) rs = rw (passes e.0 e.1, reach-over-parts g passes ps rs) (omega arith)

pub reach-uploads : (u : ℕ) (m : Map ℕ Upload) → reach (stops_of (goal.Upload u)) (upload_rows m) ≡ length (upload_rows (take (place by_number u m) m))
unfolding reach upload_rows stops_at
reach-uploads u [] = refl
reach-uploads u (e ∷ m) =
    cases (compare u e.0)
    (λ q. rw q)
    (λ q. rw q)
    (λ q. rw q (ap suc (reach-over-parts (goal.Upload u) (λ n p. refl) e.1.parts (upload_rows m) ∙ rw (length-append, reach-uploads u m))))

pub upload-leads : (u : ℕ) (m : Map ℕ Upload) → leads upload_kind u (upload_rows (drop (place by_number u m) m)) ≡ is_some (lookup by_number u m)
unfolding leads upload_rows
upload-leads u [] = refl
upload-leads u (e ∷ m) =
    cases (compare u e.0)
    (λ q. let l = below u e.0 q in rw (q, ne_eqb e.0 u (λ z. omega arith)))
    (λ q. rw (q, eq-eqb e.0 u (sym (alike u e.0 q))))
    (λ q. rw q (upload-leads u m))

-- to a part, and after the parts
reach-no-part : (n : ℕ) (m : Map ℕ Upload) → reach (stops_of (goal.Part n)) (upload_rows m) ≡ 0
unfolding reach upload_rows stops_at
reach-no-part n [] = refl
reach-no-part n (e ∷ m) = refl

pub reach-part : (n : ℕ) (ps : Map ℕ Part) (m : Map ℕ Upload) → reach (stops_of (goal.Part n)) (part_rows ps ++ upload_rows m) ≡ length (part_rows (take (place by_number n ps) ps))
unfolding reach part_rows stops_at
reach-part n [] m = reach-no-part n m
reach-part n (e ∷ ps) m = cases (compare n e.0) (λ q. rw q) (λ q. rw q) (λ q. rw q (ap suc (reach-part n ps m)))

no-part-leads : (n : ℕ) (m : Map ℕ Upload) → leads part_kind n (upload_rows m) ≡ false
unfolding leads upload_rows
no-part-leads n [] = refl
no-part-leads n (e ∷ m) = refl

pub part-leads : (n : ℕ) (ps : Map ℕ Part) (m : Map ℕ Upload) → leads part_kind n (part_rows (drop (place by_number n ps) ps) ++ upload_rows m) ≡ is_some (lookup by_number n ps)
unfolding leads part_rows
part-leads n [] m = no-part-leads n m
part-leads n (e ∷ ps) m =
    cases (compare n e.0)
    (λ q. let l = below n e.0 q in rw (q, ne_eqb e.0 n (λ z. omega arith)))
    (λ q. rw (q, eq-eqb e.0 n (sym (alike n e.0 q))))
    (λ q. rw q (part-leads n ps m))

reach-no-upload : (m : Map ℕ Upload) → reach (stops_of goal.NextUpload) (upload_rows m) ≡ 0
unfolding reach upload_rows stops_at
reach-no-upload [] = refl
reach-no-upload (e ∷ m) = refl

reach-next : (ps : Map ℕ Part) (m : Map ℕ Upload) → reach (stops_of goal.NextUpload) (part_rows ps ++ upload_rows m) ≡ length (part_rows ps)
unfolding reach part_rows stops_at
reach-next [] m = reach-no-upload m
reach-next (e ∷ ps) m = ap suc (reach-next ps m)

pub reach-next-from : (j : ℕ) (ps : Map ℕ Part) (m : Map ℕ Upload) → j ≤ length ps → j + reach (stops_of goal.NextUpload) (drop j (part_rows ps ++ upload_rows m)) ≡ length (part_rows ps)
unfolding part_rows
reach-next-from zero ps m l = omega (arith, reach-next ps m)
reach-next-from (suc j) [] m l = absurd (omega arith)
reach-next-from (suc j) (e ∷ ps) m l = omega (arith, reach-next-from j ps m (omega arith))

-- to an upload that started before a stamp: after all rows where none is due, else at the row of the first that is
module _ (t : ℕ) where
  pub reach-none-due : (m : Map ℕ Upload) → due t m ≡ [] → reach (stops_of (goal.Due t)) (upload_rows m) ≡ length (upload_rows m)
  unfolding reach upload_rows stops_at due
  reach-none-due [] e = refl
  reach-none-due (w ∷ m) e = go (is_due t w.1) refl e (reach-none-due m)
    where
      go : (b : Bool) → is_due t w.1 ≡ b → cond b (w ∷ due t m) (due t m) ≡ [] → (due t m ≡ [] → reach (stops_of (goal.Due t)) (upload_rows m) ≡ length (upload_rows m))
          → reach (stops_of (goal.Due t)) (upload_rows (w ∷ m)) ≡ length (upload_rows (w ∷ m))
      go true q h i = absurd (let z : ◌≡◌ {A = ℕ} 0 1 = cc in omega arith)
      go false q h i = rw q (ap suc (reach-over-parts (goal.Due t) (λ n p. refl) w.1.parts (upload_rows m) ∙ rw (length-append, i h)))

  pub reach-first-due : (u : ℕ) (x : Upload) (rest m : Map ℕ Upload) → Ascending by_number m → due t m ≡ (u, x) ∷ rest
      → reach (stops_of (goal.Due t)) (upload_rows m) ≡ length (upload_rows (take (place by_number u m) m))
  unfolding reach upload_rows stops_at due
  reach-first-due u x rest [] a e = refl
  reach-first-due u x rest (w ∷ m) a e = go (is_due t w.1) refl e (reach-first-due u x rest m a.1)
    where
      go : (b : Bool) → is_due t w.1 ≡ b → cond b (w ∷ due t m) (due t m) ≡ (u, x) ∷ rest
          → (due t m ≡ (u, x) ∷ rest → reach (stops_of (goal.Due t)) (upload_rows m) ≡ length (upload_rows (take (place by_number u m) m)))
          → reach (stops_of (goal.Due t)) (upload_rows (w ∷ m)) ≡ length (upload_rows (take (place by_number u (w ∷ m)) (w ∷ m)))
      go true q h i =
          let is : w.0 ≡ u = cc in
          rw (q, is, numbers.self u)
      go false q h i =
          let there : lookup by_number u m ≡ some x = (first-due t u x rest m a.1 h).0 in
          cases (compare u w.0)
          (λ o. absurd (none-some (sym (lookup-above numbers u m (above-chain numbers u w.0 m o a.0)) ∙ there)))
          (λ o. absurd (none-some (sym (lookup-above numbers u m (rw (alike u w.0 o) a.0)) ∙ there)))
          (λ o. rw (o, q) (ap suc (reach-over-parts (goal.Due t) (λ n p. refl) w.1.parts (upload_rows m) ∙ rw (length-append, i h))))
