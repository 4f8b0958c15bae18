-- What the path of a GET or HEAD names, and what stands in the row of an object. Assumes nothing.
use Rattle.std.specs.Prelude.{ℕ, ◌+◌, ◌-◌, ◌*◌, ◌≤◌, ◌≡◌, true, cond, List, [], ◌∷◌, leb, length, take, drop, Result, Ok, Err}
use Rattle.base_order.specs.Order.{by_bytes}
use Rattle.machine.specs.Map.{is_some, lookup}
use Rattle.machine.specs.Names.{Bytes, request_path_ok}
use Rattle.machine.specs.State.{Object, State}
use Rattle.machine.specs.Calls.{Answer, metadata, Outcome, bufferShort, ◌else◌then◌}
use Rattle.machine.specs.Steps.{with_pairs}
use Rattle.pairs_stored.specs.Stored.{sum_of, block_ok}
use Rattle.mem_row.specs.Row.{head_at, digest_at, lengths_at, span_at, row_at}
use Rattle.mem_layout.specs.Memory.{row_etag, object_of}
use Rattle.mem_find.specs.Places.{place_after, before_object}
use Rattle.call_types.specs.declared.Refusal.{Refusal}
use Rattle.call_types.specs.declared.Refusal.TheVariants.{BadRequest, NotFound}
use Rattle.call_get.specs.declared.Named.{Named}
use Rattle.call_get.specs.declared.Named.TheVariants as named

-- "The empty path is the root"; 2 for a bad path, 3 for one that O lacks
unfoldable pub named_in : State → Bytes → Result Named Refusal
named_in s [] = Ok named.Root
named_in s (b ∷ p) =
    let place = place_after (before_object s (b ∷ p)) in
    cond (request_path_ok (b ∷ p)) (cond (is_some (lookup by_bytes (b ∷ p) s.O)) (Ok (named.Object place.at place.base)) (Err NotFound)) (Err BadRequest)

-- the metadata in the row at the front of t
unfoldable pub metadata_at : List ℕ → Answer
metadata_at t =
    let h = head_at t in
    let n = sum_of (lengths_at t) in
    metadata (h.size - n) h.stamp (row_etag h.kind (digest_at t) h.count) h.pairs (2 * h.pairs + n)

-- the object whose row stands in t at `at`, with its block in a at `base`
unfoldable pub stored_at : (t a : List ℕ) (at base : ℕ) → Object
stored_at t a at base = object_of (row_at (drop at t) (drop base a))

-- an object's row and block are all there, and the block begins with its pairs
pub record Holds (t a : List ℕ) (at base : ℕ) : Type 0 where
  pub row : at + span_at (drop at t) ≤ length t
  pub block : base + (head_at (drop at t)).size ≤ length a
  pub pairs : block_ok (lengths_at (drop at t)) (take (head_at (drop at t)).size (drop base a)) ≡ true

-- what GET and HEAD of an object come to, with the answer buffers b and m
abbrev pub get_step : State → (b m : Bytes) → Object → Outcome
get_step s b m x = leb (length x.content) (length b) else bufferShort then with_pairs x x.content m s

abbrev pub head_step : State → (m : Bytes) → Object → Outcome
head_step s m x = with_pairs x [] m s
