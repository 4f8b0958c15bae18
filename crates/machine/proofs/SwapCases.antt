-- Document 02, E4, at work: two lines' writes came in swapped.
-- Assumes nothing.
use mathlib.Core.Path.{◌≡◌, refl, sym, ◌∙◌}
use mathlib.Core.Bool.{false, true, false≢true}
use mathlib.Core.List.{[], ◌∷◌}
use mathlib.Core.Option.{none, some}
use native.Mathlib.Omega.{arith}
use Rattle.base_order.specs.Order.{same}
use Rattle.base_order.proofs.OrderLaws.{same_self}
use Rattle.machine.specs.Names.{Bytes, path_ok, request_path_ok, new_path_ok, stamp_ok}
use Rattle.machine.specs.Pairs.{pairs_ok, pair_map, encode_pairs}
use Rattle.machine.specs.State.{fresh, held, counted}
use Rattle.machine.specs.Calls.{PUT, HEAD, DELETE, COPY, Reply, given, ◌else◌then◌}
use Rattle.machine.specs.Steps.{put_at, object_at, delete_at, act}
use Rattle.machine.specs.Marked.{a, b, r, xyz, A}
use Rattle.machine.specs.Swaps.{Differ, Roomy, Swaps}
use Rattle.machine.specs.Swaps as swaps
use Rattle.machine.proofs.Options.{none-some}

other_path : (p q : Bytes) → same p q ≡ false → Differ (some p) (some q)
other_path p q h x e f = let n : p ≡ q = cc in false≢true (sym h ∙ rw n (same_self q))

no-path : (p : Bytes) → Differ (some p) none
no-path p x e f = none-some f

fits : (x : Reply) → x.result ≡ 0 → Roomy x
fits x h = record { table = λ e. omega arith; arena = λ e. omega arith }

-- the shelf line copies "a" to "r" and deletes "b", the other puts "a" and "b"; a look at "a" stays where it is
pub two-lines : Swaps 64 fresh
    (PUT 5 a xyz [] ∷ PUT 6 b A [] ∷ HEAD a [] ∷ COPY 7 a r ∷ DELETE b ∷ [])
    (PUT 6 b A [] ∷ PUT 5 a xyz [] ∷ HEAD a [] ∷ DELETE b ∷ COPY 7 a r ∷ [])
unfolding ◌else◌then◌ given act put_at object_at delete_at counted held path_ok request_path_ok new_path_ok stamp_ok pairs_ok pair_map encode_pairs
two-lines =
    swaps.Swaps.swap [] (PUT 5 a xyz []) (PUT 6 b A []) (HEAD a [] ∷ COPY 7 a r ∷ DELETE b ∷ [])
    (record { first = refl; second = refl; both-write = other_path a b refl; second_reads = no-path a; first_reads = no-path b })
    (record { first = fits _ refl; then-second = fits _ refl; second = fits _ refl; then-first = fits _ refl })
    (swaps.Swaps.swap (PUT 6 b A [] ∷ PUT 5 a xyz [] ∷ HEAD a [] ∷ []) (COPY 7 a r) (DELETE b) []
    (record { first = refl; second = refl; both-write = other_path r b refl; second_reads = no-path r; first_reads = other_path b a refl })
    (record { first = fits _ refl; then-second = fits _ refl; second = fits _ refl; then-first = fits _ refl })
    swaps.Swaps.same)
