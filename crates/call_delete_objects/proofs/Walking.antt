-- The walk over the places: what holds after i of them, at the start, from one to the next, and at the end. Assumes nothing.
use Prim.Native.Nat.{ℕ, suc, ◌+◌, ◌<◌, ◌≤◌}
use mathlib.Core.Path.{◌≡◌, refl, sym, ap, ◌∙◌}
use mathlib.Core.Bool.{true}
use mathlib.Core.List.{List, [], ◌∷◌, ◌++◌}
use native.Mathlib.Omega.{arith}
use native.Mathlib.Numerals.{add-one}
use lib.ListN.{length, take, drop, get_or, set}
use lib.Seq.{take_all, take-suc, drop-cons, length-take-le, set_at, append_snoc}
use Rattle.machine.specs.Names.{Bytes}
use Rattle.machine.specs.State.{State}
use Rattle.machine.specs.Calls.{NamePlace, DELETE-OBJECTS, nothing, buffers, no_buffers}
use Rattle.machine.specs.Steps.{delete_place, place_results, after_places, reply_of}
use Rattle.machine.proofs.Places.{length-results, after_more, results-more}
use Rattle.mem_layout.specs.Memory.{Stands}
use Rattle.mem_layout.proofs.StandsLaws.{stands-state, stands-whole}
use Rattle.call_types.specs.declared.Place.{Place}
use Rattle.call_contract.specs.Answers.{name_place, refused, success}
use Rattle.call_contract.specs.Made.{Memory, whole_memory, state_in, Made}
use Rattle.call_contract.proofs.MadeLaws.{done, over-whole}
use Rattle.call_delete_objects.specs.Judged.{Judged}
use Rattle.call_delete_objects.specs.Given.{Gives}
use Rattle.call_delete_objects.specs.PlaceDone.{place_of, PlaceDone, PlaceDoneAt}
use Rattle.call_delete_objects.proofs.Judging.{results-fit, refused-made, accepted}

-- After i places, from the state s and the result buffer b₀: memory m and the result buffer b.
pub record DoneTo (names : Bytes) (ps : List NamePlace) (s : State) (b₀ : Bytes) (i : ℕ) (m : Memory) (b : Bytes) : Type 0 where
  pub stands : Stands m.tables m.arena (after_places s names (take i ps))
  pub results : b ≡ place_results s names (take i ps) ++ drop i b₀

-- The same in a call over memory m₀, of each list of `count` places that `post` gives.
pub record Walked (names : Bytes) (post : ℕ → Place → Type 0) (count : ℕ) (m₀ : Memory) (b₀ : Bytes) (i : ℕ) (m : Memory) (b : Bytes) : Type 0 where
  pub is_whole : whole_memory m ≡ true
  pub tables-length : length m.tables ≡ length m₀.tables
  pub arena-length : length m.arena ≡ length m₀.arena
  pub results-length : length b ≡ length b₀
  pub to-here : (ps : List NamePlace) → Gives post count ps → DoneTo names ps (state_in m₀) b₀ i m b

-- One place ------------------------------------------------------------------------------------------------------------

module _ (names : Bytes) (ps : List NamePlace) (s : State) (b₀ : Bytes) (i : ℕ) (i< : i < length ps) (fits : length ps ≤ length b₀) (none : NamePlace) where
  abbrev p : NamePlace
  p = get_or ps i none

  abbrev before : List NamePlace
  before = take i ps

  one_more : take (i + 1) ps ≡ before ++ (p ∷ [])
  one_more = rw (add-one, take-suc ps i none i<)

  written : (n : ℕ) → n ≡ (reply_of no_buffers (delete_place (after_places s names before) names p)).result
      → set (place_results s names before ++ drop i b₀) i n ≡ place_results s names (take (i + 1) ps) ++ drop (i + 1) b₀
  written n e =
      let l : length (place_results s names before) ≡ i = length-results s names before ∙ length-take-le i ps (omega arith) in
      let h : i < length b₀ = omega arith in
      rw (one_more, results-more s names before p, drop-cons b₀ i 0 h, add-one)
      (set_at (place_results s names before) (get_or b₀ i 0) (drop (suc i) b₀) n i l ∙ ap (λ (x : ℕ). place_results s names before ++ x ∷ drop (suc i) b₀) e ∙ sym (append_snoc (place_results s names before) _ (drop (suc i) b₀)))

  pub done_more : {m m' : Memory} {b b' : Bytes} → DoneTo names ps s b₀ i m b → PlaceDoneAt names p i m b m' b' → DoneTo names ps s b₀ (i + 1) m' b'
  done_more {m} {m'} {b} {b'} d one =
      let is = stands-state m.tables m.arena _ d.stands in
      let o : PlaceDone names p m one.number m' = one.done in
      record {
        stands = rw (one_more, after_more s names before p) (rw is at o.stands);
        results = one.results ∙ ap (λ (l : Bytes). set l i one.number) d.results ∙ written one.number (rw is at o.result);
      }

-- The walk -------------------------------------------------------------------------------------------------------------

module _ (names : Bytes) (post : ℕ → Place → Type 0) (count left_over : ℕ) (m₀ : Memory) (b₀ : Bytes) (n : ℕ) (j : Judged count left_over (length b₀) m₀ n) where
  -- refused, by the number that was judged
  pub stopped : (n ≡ 0 → ⊥) → (ps : List NamePlace) → Gives post count ps → Made (DELETE-OBJECTS names ps left_over b₀) m₀ (refused n (buffers b₀ [])) m₀
  stopped not ps g = refused-made names ps left_over b₀ m₀ n (rw g.many j) not

  module _ (z : n ≡ 0) where
    pub start : Walked names post count m₀ b₀ 0 m₀ b₀
    start =
        record {
          is_whole = (results-fit _ _ _ _ _ j z).0;
          tables-length = refl;
          arena-length = refl;
          results-length = refl;
          to-here = λ ps g. record { stands = j.stands z; results = refl };
        }

    module _ (i : ℕ) (m : Memory) (b : Bytes) (t : Walked names post count m₀ b₀ i m b) where
      -- what a turn asks
      pub ready : i < count → (whole_memory m ≡ true) × (i < length b)
      ready h =
          let l = (results-fit _ _ _ _ _ j z).1 in
          let e = t.results-length in
          (t.is_whole, omega arith)

      pub turn : i < count → (p : Place) → post i p → (m' : Memory) (b' : Bytes) → PlaceDoneAt names (name_place p) i m b m' b'
          → length m'.tables ≡ length m.tables → length m'.arena ≡ length m.arena → length b' ≡ length b → Walked names post count m₀ b₀ (i + 1) m' b'
      turn h p given m' b' one lt la lb =
          let l = (results-fit _ _ _ _ _ j z).1 in
          record {
            is_whole = stands-whole m'.tables m'.arena _ one.done.stands;
            tables-length = lt ∙ t.tables-length;
            arena-length = la ∙ t.arena-length;
            results-length = lb ∙ t.results-length;
            to-here = λ ps g.
                let here : i < length ps = rw g.many h in
                let fits : length ps ≤ length b₀ = rw g.many l in
                done_more names ps (state_in m₀) b₀ i here fits (place_of 0 0) (t.to-here ps g) (rw (g.each i p h given) at one);
          }

      -- after all of them
      pub finish : i ≡ count → (ps : List NamePlace) → Gives post count ps → Made (DELETE-OBJECTS names ps left_over b₀) m₀ (success nothing (buffers b [])) m
      finish over ps g =
          let a = accepted names ps left_over b₀ m₀ n (rw g.many j) z in
          let d = t.to-here ps g in
          let out = place_results (state_in m₀) names ps in
          let i-is : i ≡ length ps = over ∙ sym g.many in
          let all : take i ps ≡ ps = take_all i ps (omega arith) in
          let rest : b ≡ out ++ drop (length out) b₀ =
          d.results ∙ ap (λ (l : List NamePlace). place_results (state_in m₀) names l ++ drop i b₀) all ∙ ap (λ (x : ℕ). out ++ drop x b₀) (i-is ∙ sym (length-results (state_in m₀) names ps)) in
          over-whole (results-fit _ _ _ _ _ j z).0
          (done nothing (buffers out []) _ a (ap (λ (l : Bytes). success nothing (buffers l [])) rest) (rw all at d.stands) t.tables-length t.arena-length)
