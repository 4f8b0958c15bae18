-- A caller's lists of exported calls, with what it sees of them, and what it knows after the whole. Assumes nothing.
use Rattle.std.specs.Prelude.{ℕ, ◌≡◌, List, [], ◌∷◌, ◌++◌, length, Result, Ok, Err}
use Rattle.machine.specs.Names.{Bytes}
use Rattle.machine.specs.Pairs.{pair_list}
use Rattle.machine.specs.Calls.{PUT, GET, HEAD, DELETE, COPY, LIST, INITIATE, PART, COMMIT, ABORT, UPLOADS, DELETE-OBJECTS, SWEEP, Buffers, buffers, no_buffers}
use Rattle.machine.specs.PartLists.{part_list}
use Rattle.call_contract.specs.Answers.{places_in, left_over}
use Rattle.call_contract.specs.Made.{Memory, fresh_result}
use Rattle.c_shift.specs.declared.Shelf.{Shelf}
use Rattle.c_shift.specs.declared.Weighed.{Weighed}
use Rattle.c_shift.specs.declared.Returned.{Returned}
use Rattle.c_history.specs.Events.{Event, alone, replied, line}
use Rattle.c_history.specs.Known.{Known}

-- the calls on objects; the answer buffers and each reply before the calls, then after them
unfoldable pub shelf_events : (stamp : ℕ) (path content pairs other : Bytes) → Shelf → (answer : Buffers) (found kept about listing counts : Bytes) → (answer' : Buffers) (found' kept' about' listing' counts' : Bytes) → List Event
shelf_events stamp path content pairs other n answer found kept about listing counts answer' found' kept' about' listing' counts' =
    alone (PUT stamp path content (pair_list pairs)) n.put no_buffers
    ∷ replied (GET path (answer).answer (answer).pairs) found n.got answer' found'
    ∷ replied (HEAD path kept) about n.head (buffers [] kept') about'
    ∷ alone (COPY stamp path other) n.copied no_buffers
    ∷ replied (LIST path other listing) counts n.listed (buffers listing' []) counts'
    ∷ alone (DELETE path) n.deleted no_buffers
    ∷ []

-- DELETE_OBJECTS, with the result buffer before it and after it
unfoldable pub clear_events : (names places : Bytes) (n : ℕ) (results results' : Bytes) → List Event
clear_events names places n results results' = alone (DELETE-OBJECTS names (places_in places) (left_over places) results) n (buffers results' []) ∷ []

-- SWEEP, with the reply before it and after it
unfoldable pub sweep_events : (stamp most n : ℕ) (reply reply' : Bytes) → List Event
sweep_events stamp most n reply reply' = replied (SWEEP stamp most) reply n no_buffers reply' ∷ []

-- E8, a line replayed, with both answer buffers and the reply before it and after it
unfoldable pub replay_events : (text : Bytes) (n : ℕ) (answer : Buffers) (reply : Bytes) → (answer' : Buffers) (reply' : Bytes) → List Event
replay_events text n answer reply answer' reply' = line text answer reply n answer' reply' ∷ []

-- the calls on an upload, with its number 1 and its part 1
unfoldable pub weigh_events : (stamp : ℕ) (path pairs content list : Bytes) → Weighed → (opened sent answer counts : Bytes) → (opened' sent' answer' counts' : Bytes) → List Event
weigh_events stamp path pairs content list n opened sent answer counts opened' sent' answer' counts' =
    replied (INITIATE stamp path (pair_list pairs)) opened n.opened no_buffers opened'
    ∷ replied (PART 1 1 content) sent n.sent no_buffers sent'
    ∷ replied (UPLOADS path answer) counts n.listed (buffers answer' []) counts'
    ∷ alone (COMMIT 1 (part_list list)) n.committed no_buffers
    ∷ alone (ABORT 1) n.aborted no_buffers
    ∷ []

-- the answer buffers and the replies of a shift, before its calls or after them
pub record Slices : Type 0 where
  pub answer : Buffers
  pub found : Bytes
  pub kept : Bytes
  pub about : Bytes
  pub listing : Bytes
  pub counts : Bytes
  pub results : Bytes
  pub opened : Bytes
  pub sent : Bytes
  pub uploads : Bytes
  pub upload_counts : Bytes
  pub swept : Bytes

abbrev pub slices : (answer : Buffers) (found kept about listing counts results opened sent uploads upload_counts swept : Bytes) → Slices
slices answer found kept about listing counts results opened sent uploads upload_counts swept =
    record {
      answer = answer;
      found = found;
      kept = kept;
      about = about;
      listing = listing;
      counts = counts;
      results = results;
      opened = opened;
      sent = sent;
      uploads = uploads;
      upload_counts = upload_counts;
      swept = swept;
    }

-- all thirteen calls
unfoldable pub shift_events : (stamp : ℕ) (path content pairs other names places list : Bytes) (most : ℕ) → Returned → (b b' : Slices) → List Event
shift_events stamp path content pairs other names places list most n b b' =
    shelf_events stamp path content pairs other n.shelf b.answer b.found b.kept b.about b.listing b.counts
    b'.answer b'.found b'.kept b'.about b'.listing b'.counts
    ++ (clear_events names places n.cleared b.results b'.results
    ++ (weigh_events stamp path pairs content list n.weighed b.opened b.sent b.uploads b.upload_counts
    b'.opened b'.sent b'.uploads b'.upload_counts
    ++ sweep_events stamp most n.swept b.swept b'.swept))

-- FRESH refused by a number that is not 0, and nothing changed; or the calls of the list were made, and all that C knows of them holds
abbrev pub Concluded : (m : Memory) (list : Returned → (b b' : Slices) → List Event) → Result Returned ℕ → (b b' : Slices) (m' : Memory) → Type 0
Concluded m list (Err n) b b' m' = (n ≡ 0 → ⊥) × (n ≡ fresh_result m) × (m' ≡ m) × (b' ≡ b)
Concluded m list (Ok n) b b' m' = Known (length m.arena) (list n b b') m'
