-- The one contract of all calls, and FRESH's. Assumes nothing.
use Rattle.std.specs.Prelude.{ℕ, ◌≡◌, Bool, true, cond, List, eqb, length}
use Rattle.machine.specs.State.{State, fresh}
use Rattle.machine.specs.Calls.{Call, Reply, Outcome, refuse, accept, code, lent}
use Rattle.machine.specs.Steps.{act, FRESH, reply_of, after, reply, next}
use Rattle.mem_layout.specs.Memory.{whole, state_of, Stands, tables_length}
use Rattle.call_contract.specs.Answers.{refused}

-- what is lent at each call
pub record Memory : Type 0 where
  pub tables : List ℕ
  pub arena : List ℕ

abbrev pub memory : (t a : List ℕ) → Memory
memory t a = record { tables = t; arena = a }

abbrev pub whole_memory : Memory → Bool
whole_memory m = whole m.tables m.arena

abbrev pub state_in : Memory → State
state_in m = state_of m.tables m.arena

-- the machine's outcome over what the memory stands for
unfoldable pub outcome : Call → Memory → Outcome
outcome k m = act (length m.arena) (state_in m) k

-- an outcome's result number
abbrev pub result_of : Outcome → ℕ
result_of (refuse n) = code n
result_of (accept a out s) = 0

-- "1. Not a store: .. the memory isn't whole"; else the machine's reply and state
unfoldable pub meant_reply : Call → Memory → Reply
meant_reply k m = cond (whole_memory m) (reply (length m.arena) (state_in m) k) (refused 1 (lent k))

unfoldable pub meant_state : Call → Memory → State
meant_state k m = cond (whole_memory m) (next (length m.arena) (state_in m) k) (state_in m)

-- Call k over memory m answered r and left memory m'.
pub record Made (k : Call) (m : Memory) (r : Reply) (m' : Memory) : Type 0 where
  -- number, values and every byte of the answer buffers
  pub answers : r ≡ meant_reply k m
  -- the state that memory stands for
  pub state : state_in m' ≡ meant_state k m
  pub keeps-whole : whole_memory m ≡ true → whole_memory m' ≡ true
  -- accepted: tables and arena are that state's encoding, each followed by free bytes
  pub bytes : r.result ≡ 0 → Stands m'.tables m'.arena (meant_state k m)
  pub tables-length : length m'.tables ≡ length m.tables
  pub arena-length : length m'.arena ≡ length m.arena
  -- refused: every byte is as it was
  pub refusal : (r.result ≡ 0 → ⊥) → m' ≡ m

-- Call k over whole memory m answered r and left memory m': what `Made` comes to there (`over-whole`).
pub record MadeWhole (k : Call) (m : Memory) (r : Reply) (m' : Memory) : Type 0 where
  pub answers : r ≡ reply_of (lent k) (outcome k m)
  -- accepted: tables and arena are the encoding of the state after, each followed by free bytes
  pub bytes : r.result ≡ 0 → Stands m'.tables m'.arena (after (state_in m) (outcome k m))
  pub tables-length : length m'.tables ≡ length m.tables
  pub arena-length : length m'.arena ≡ length m.arena
  -- refused: every byte is as it was
  pub refusal : (r.result ≡ 0 → ⊥) → m' ≡ m

-- FRESH: 1 where the tables have another length, "FRESH looks at the length only"; 2 for an arena over 1,048,576; else 0
unfoldable pub fresh_result : Memory → ℕ
fresh_result m = cond (eqb (length m.tables) tables_length) (result_of (FRESH (length m.arena))) 1

-- FRESH over memory m answered n and left memory m'.
pub record MadeFresh (m : Memory) (n : ℕ) (m' : Memory) : Type 0 where
  pub answers : n ≡ fresh_result m
  pub state : n ≡ 0 → state_in m' ≡ fresh
  pub is_whole : n ≡ 0 → whole_memory m' ≡ true
  pub bytes : n ≡ 0 → Stands m'.tables m'.arena fresh
  pub arena : m'.arena ≡ m.arena
  pub tables-length : length m'.tables ≡ length m.tables
  pub refusal : (n ≡ 0 → ⊥) → m' ≡ m
