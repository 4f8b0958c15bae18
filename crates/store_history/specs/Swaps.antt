-- Document 02, E4, of the code: two runs, where the calls of one come from those of the other by swaps. Assumes nothing.
use Rattle.std.specs.Prelude.{ℕ, ◌≡◌, length}
use Rattle.std.proofs.Math.Option.{Option}
use Rattle.machine.specs.Names.{Bytes}
use Rattle.machine.specs.State.{State}
use Rattle.machine.specs.Lists.{Trace}
use Rattle.machine.specs.Swaps.{Moved, writing}
use Rattle.mem_layout.specs.Memory.{Stands}
use Rattle.call_contract.specs.Made.{Memory}

-- two memories that stand for the state s, with arenas of length A
pub record BothStand (A : ℕ) (s : State) (m n : Memory) : Type 0 where
  pub first : Stands m.tables m.arena s
  pub second : Stands n.tables n.arena s
  pub first-arena : length m.arena ≡ A
  pub second-arena : length n.arena ≡ A

-- "end in the same machine state in either order and have the same results": the run with calls and answers t left m, that with u left n
pub record SwappedRuns (A : ℕ) (t : Trace) (m : Memory) (u : Trace) (n : Memory) : Type 0 where
  pub state : State
  pub ends : BothStand A state m n
  pub replies : Moved t u
  pub logs : (path : Option Bytes) → writing path u ≡ writing path t
