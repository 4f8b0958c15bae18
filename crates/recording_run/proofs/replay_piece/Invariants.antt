-- `recording_run::replay_piece` meets its contract. Assumes nothing.
use Prim.Native.Nat.{ℕ, ◌-◌, ◌*◌, ◌≤◌}
use mathlib.Core.Path.{◌≡◌}
use lib.ListN.{length}
use Rattle.machine.specs.Names.{Bytes}
use Rattle.machine.specs.State.{State}
use Rattle.call_contract.specs.Made.{memory}
use Rattle.recording_split.specs.Held.{Holds}
use Rattle.recording_run.specs.Run.{Store}
use Rattle.recording_run.proofs.Feeding.{SoFar}
use Rattle.recording_run.proofs.replay_piece.Given as goal

abbrev pub invariant-loop-at : goal.invariant-loop-at
invariant-loop-at l =
    (length l.line ≡ 4096) × (l.n ≤ 4097) × (l.at ≤ length l.piece) × (l.k ≤ 2 * l.at) × (length l.out ≡ length l.initial.out) × (length l.tables ≡ length l.initial.tables) × (length l.arena ≡ length l.initial.arena) × (length l.answer ≡ length l.initial.answer) × (length l.pairs ≡ length l.initial.pairs)
    × ((x : Bytes) (A size : ℕ) (s : State) → Holds l.initial.line l.held x → length l.initial.answer ≡ size → length l.initial.pairs ≡ size → Store A s (memory l.initial.tables l.initial.arena) → SoFar A size s x l.piece l.at l.k l.line l.n l.out (memory l.tables l.arena))

abbrev pub decreases-loop-at : goal.decreases-loop-at
decreases-loop-at l = length l.piece - l.at
