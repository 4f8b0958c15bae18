-- The sweep, one ABORT after the other: what holds at the start, from one to the next, and at the end. Assumes nothing.
use Prim.Native.Nat.{ℕ, suc, ◌+◌, ◌-◌, ◌<◌, ◌≤◌}
use mathlib.Core.Path.{◌≡◌, refl, sym, ap, subst, ◌∙◌}
use mathlib.Core.Bool.{true, false}
use mathlib.Core.List.{[], ◌∷◌, ◌++◌, map}
use mathlib.Core.Option.{some}
use native.Mathlib.Nat.{min-eq_left, min-eq_right}
use native.Mathlib.Omega.{arith}
use borrow.Author.Tests.{lt-ltb, le-ltb}
use lib.ListN.{length, take}
use lib.Seq.{take-nil}
use Rattle.base_number.specs.Number.{AreBytes}
use Rattle.machine.specs.Map.{Map, is_some, by_number, lookup}
use Rattle.machine.specs.State.{Upload, State, without_upload}
use Rattle.machine.specs.Steps.{due, to_sweep, after_aborts}
use Rattle.machine.proofs.Sweeping.{abort-leaves, first-due, one-swept}
use Rattle.mem_layout.specs.Memory.{object_rows, rows_of, Stands}
use Rattle.mem_layout.proofs.StandsLaws.{stands-state, stands-whole}
use Rattle.mem_layout.proofs.WholeLaws.{whole-stands}
use Rattle.mem_find.specs.declared.RowPlace.{RowPlace}
use Rattle.mem_find.specs.Places.{place_after, before_upload, after_upload, upload_row_of, first_upload_row}
use Rattle.mem_find.specs.RowPlaces.{IsRowPlace}
use Rattle.mem_find.specs.Known.{WholeOpenAt}
use Rattle.mem_find_uploads.specs.Search.{due_from}
use Rattle.mem_find_uploads.proofs.Answers.{place-row, is-row-place, uploads-within, open-within, none-due-answer, first-due-answer, place-stays, search-goes-on}
use Rattle.mem_edit.proofs.Changes.{without-upload-rows}
use Rattle.call_contract.specs.Made.{Memory, whole_memory, state_in}
use Rattle.call_sweep.specs.Swept.{Swept}

-- After `count` ABORTs, from memory m₀, memory is m: the first upload that is due there has its row at `here`, or none is due and the rows end
-- there; what is due is the rest, and a sweep of the rest leaves what the whole sweep leaves.
pub record Going (t n : ℕ) (m₀ : Memory) (count : ℕ) (m : Memory) (here end : RowPlace) : Type 0 where
  pub at_most : count ≤ n
  pub tables-length : length m.tables ≡ length m₀.tables
  pub arena-length : length m.arena ≡ length m₀.arena
  pub stands : Stands m.tables m.arena (state_in m)
  pub first : here ≡ due_from t (rows_of (state_in m)) (length (object_rows (state_in m).O))
  pub last : end ≡ place_after (rows_of (state_in m))
  pub due-left : count + length (due t (state_in m).U) ≡ length (due t (state_in m₀).U)
  pub leaves : after_aborts (state_in m) (to_sweep t (n - count) (state_in m).U) ≡ after_aborts (state_in m₀) (to_sweep t n (state_in m₀).U)

-- the first upload's row is a place of the rows
pub first-place : (m : Memory) (p : RowPlace) → p ≡ first_upload_row (state_in m) → IsRowPlace (rows_of (state_in m)) p
first-place m p e = is-row-place (rows_of (state_in m)) p _ e (uploads-within (state_in m))

pub start : (t n : ℕ) (m : Memory) → AreBytes m.tables → whole_memory m ≡ true → (p here end : RowPlace) → p ≡ first_upload_row (state_in m)
    → here ≡ due_from t (rows_of (state_in m)) p.row → end ≡ place_after (rows_of (state_in m)) → Going t n m 0 m here end
start t n m b w p here end first found last =
    let z : n - 0 ≡ n = omega arith in
    record {
      at_most = omega arith;
      tables-length = refl;
      arena-length = refl;
      stands = whole-stands m.tables m.arena b w;
      first = found ∙ ap (due_from t (rows_of (state_in m))) (place-row (rows_of (state_in m)) p _ first);
      last = last;
      due-left = omega arith;
      leaves = ap (λ (k : ℕ). after_aborts (state_in m) (to_sweep t k (state_in m).U)) z;
    }

module _ (t n : ℕ) (m₀ : Memory) (count : ℕ) (m : Memory) (here end : RowPlace) (g : Going t n m₀ count m here end) where
  abbrev s : State
  s = state_in m

  end_row : end.row ≡ length (rows_of s)
  end_row = ap (λ (p : RowPlace). p.row) g.last

  -- the first that is due, and that its row is here
  pub record First : Type 0 where
    pub number : ℕ
    pub upload : Upload
    pub rest : Map ℕ Upload
    pub is-due : due t s.U ≡ (number, upload) ∷ rest
    pub is_open : lookup by_number number s.U ≡ some upload
    pub left : due t (without_upload s number).U ≡ rest
    pub place : here ≡ upload_row_of s number

  first_of : (u : ℕ) (x : Upload) (rest : Map ℕ Upload) → due t s.U ≡ (u, x) ∷ rest → First
  first_of u x rest d =
      let a = g.stands.valid.uploads in
      let f = first-due t u x rest s.U a d in
      record { number = u; upload = x; rest = rest; is-due = d; is_open = f.0; left = f.1; place = first-due-answer t s here g.first u x rest a d }

  -- where `here` is a row, one is due
  pub one-due : here.row < end.row → First
  one-due l = go (due t s.U) refl
    where
      go : (d : Map ℕ Upload) → due t s.U ≡ d → First
      go [] e = absurd (omega (arith, end_row, none-due-answer t s here g.first e))
      go ((u, x) ∷ rest) e = first_of u x rest e

  -- where it is the end, none is
  no_due : end.row ≤ here.row → due t s.U ≡ []
  no_due l = go (due t s.U) refl
    where
      go : (d : Map ℕ Upload) → due t s.U ≡ d → d ≡ []
      go [] e = refl
      go ((u, x) ∷ rest) e =
          let f = first_of u x rest e in
          absurd (omega (arith, end_row, place-row (rows_of s) here _ f.place, open-within s f.number (ap is_some f.is_open)))

  -- the upload there is taken out
  module _ (f : First) where
    abbrev u : ℕ
    u = f.number

    pub open-here : WholeOpenAt m.tables m.arena here
    open-here = (stands-whole m.tables m.arena _ g.stands, (u, f.place, ap is_some f.is_open))

    module _ (m' : Memory) (stood : Stands m'.tables m'.arena (without_upload s u)) where
      now-is : state_in m' ≡ without_upload s u
      now-is = stands-state m'.tables m'.arena _ stood

      rows_are : rows_of (state_in m') ≡ before_upload s u ++ after_upload s u
      rows_are = ap rows_of now-is ∙ without-upload-rows s u f.upload f.is_open

      -- what stood after it is there
      pub place-there : IsRowPlace (rows_of (state_in m')) here
      place-there = place-stays t s here g.first u f.place _ _ rows_are

      pub turn : (count ≡ n → ⊥) → (here' end' : RowPlace) → here' ≡ due_from t (rows_of (state_in m')) here.row → end' ≡ place_after (rows_of (state_in m'))
          → length m'.tables ≡ length m.tables → length m'.arena ≡ length m.arena → Going t n m₀ (count + 1) m' here' end'
      turn l here' end' found last lt la =
          let a = g.stands.valid.uploads in
          let c = g.at_most in
          let w = g.due-left in
          let k = n - (count + 1) in
          let more : n - count ≡ suc k = omega arith in
          let us = to_sweep t k (without_upload s u).U in
          let fewer : due t (state_in m').U ≡ f.rest = ap (λ (z : State). due t z.U) now-is ∙ f.left in
          record {
            at_most = omega arith;
            tables-length = lt ∙ g.tables-length;
            arena-length = la ∙ g.arena-length;
            stands = subst (Stands m'.tables m'.arena) (sym now-is) stood;
            first =
                found
                ∙ search-goes-on t s here g.first u f.place _ _ rows_are
                ∙ ap (λ (z : State). due_from t (rows_of (state_in m')) (length (object_rows z.O))) (sym now-is);
            last = last;
            due-left = omega (arith, ap length fewer, ap length f.is-due);
            leaves =
                ap (λ (z : State). after_aborts z (to_sweep t k z.U)) now-is
                ∙ sym (ap (λ (j : ℕ). after_aborts s (to_sweep t j s.U)) more ∙ ap (after_aborts s) (one-swept t k u f.upload f.rest s a f.is-due) ∙ ap (λ (z : State). after_aborts z us) (abort-leaves s u))
                ∙ g.leaves;
          }

  -- where nothing is left to abort, memory stands for what the sweep leaves
  settled : to_sweep t (n - count) s.U ≡ [] → Stands m.tables m.arena (after_aborts (state_in m₀) (to_sweep t n (state_in m₀).U))
  settled e = subst (Stands m.tables m.arena) (sym (ap (after_aborts s) e) ∙ g.leaves) g.stands

  -- none is due
  pub none-due : end.row ≤ here.row → Swept t n m₀ (record { count = count; more = false }) m
  none-due l =
      let e = no_due l in
      let w = g.due-left in
      let c = g.at_most in
      let all : length (due t (state_in m₀).U) ≡ count = omega (arith, ap length e) in
      let fits : length (due t (state_in m₀).U) ≤ n = omega arith in
      record {
        count = sym (min-eq_right fits ∙ all);
        more = sym (le-ltb n _ fits);
        stands = settled (ap (λ (d : Map ℕ Upload). map (λ (y : ℕ × Upload). y.0) (take (n - count) d)) e ∙ ap (map (λ (y : ℕ × Upload). y.0)) (take-nil (n - count)));
      }

  -- n are aborted, and one more is due
  pub most-done : count ≡ n → here.row < end.row → Swept t n m₀ (record { count = count; more = true }) m
  most-done same l =
      let f = one-due l in
      let w = g.due-left in
      let k : n - count ≡ 0 = omega arith in
      let fits : n < length (due t (state_in m₀).U) = omega (arith, ap length f.is-due) in
      record {
        count = same ∙ sym (min-eq_left (omega arith));
        more = sym (lt-ltb n _ fits);
        stands = settled (ap (λ (j : ℕ). to_sweep t j s.U) k);
      }
