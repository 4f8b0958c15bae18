-- Kept pairs picked from a list, the smallest key above the last first. Assumes nothing.
use Rattle.std.specs.Prelude.{ℕ, ◌≤◌, ◌≡◌, Bool, true, not, ◌&&◌, cond, List, [], ◌∷◌, length, drop}
use Rattle.std.specs.Prelude.{Option, Some, None, IfSome, option_map}
use Rattle.base_order.specs.Order.{is_below}
use Rattle.machine.specs.Names.{Bytes}
use Rattle.machine.specs.Pairs.{Pair, system_key, kept, front_key, front_fits, front_pair, pair_list}

-- the key is not above that of the pair that is picked
abbrev pub not_above : Option Pair → Bytes → Bool
not_above None k = true
not_above (Some b) k = not (is_below b.0 k)

-- the pair is better than the one that is picked
unfoldable pub picks : (last : Bytes) → Option Pair → Pair → Bool
picks last best e = is_below last e.0 && not_above best e.0

-- the best of the list, after one that is picked
abbrev pub next_above : (last : Bytes) → Option Pair → List Pair → Option Pair
next_above last best [] = best
next_above last best (e ∷ l) = next_above last (cond (picks last best e) (Some e) best) l

-- the pair that the bytes begin with is kept, and better
abbrev pub is_better : (last rest : Bytes) → Option Pair → Bool
is_better last rest best = not (system_key (front_key rest)) && picks last best (front_pair rest)

-- the pair that is picked, from where it begins
abbrev pub picked_at : Bytes → Option ℕ → Option Pair
picked_at bs pick = option_map (λ at. front_pair (drop at bs)) pick

-- it stands among the pairs
abbrev pub IsPick : Bytes → Option ℕ → Type 0
IsPick bs pick = IfSome pick (λ at. (at ≤ length bs) × (front_fits (drop at bs) ≡ true))

-- the better of the pair at `at` and the one that is picked
pub record Better (bs last : Bytes) (pick : Option ℕ) (at : ℕ) (r : Option ℕ) : Type 0 where
  pub picked :
      picked_at bs r
      ≡ cond (is_better last (drop at bs) (picked_at bs pick)) (Some (front_pair (drop at bs))) (picked_at bs pick)
  pub is : IsPick bs r

-- the kept pair with the smallest key above the last, if there is one
pub record Next (bs last : Bytes) (r : Option ℕ) : Type 0 where
  pub picked : picked_at bs r ≡ next_above last None (kept (pair_list bs))
  pub is : IsPick bs r
