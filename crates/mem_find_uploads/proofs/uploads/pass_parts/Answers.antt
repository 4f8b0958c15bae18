-- `mem_find_uploads::uploads::pass_parts` meets its contract: the parts begin at the row after the upload's. Assumes nothing.
use Prim.Native.Nat.{◌+◌}
use native.Mathlib.Omega.{arith}
use Rattle.machine.specs.State.{State}
use Rattle.mem_layout.specs.Memory.{state_of, rows_of}
use Rattle.mem_find_uploads.proofs.Answers.{is-row-place, first-part-row}
use Rattle.mem_find_uploads.proofs.uploads.pass_parts.Goals as goal

pub pass_parts_from-requires : goal.pass_parts_from-requires
pass_parts_from-requires c =
    let s : State = state_of c.args.memory.tables.now c.args.memory.arena.now in
    (is-row-place (rows_of s) c.next_row-first.result (c.args.here.row + 1) c.next_row-first.ensures (let l = c.requires.1 in omega arith), omega arith)

pub returns : goal.returns
returns c u x e f =
    let s : State = state_of c.args.memory.tables.now c.args.memory.arena.now in
    c.pass_parts_from.ensures u x (first-part-row s u c.args.here c.next_row-first.result e c.next_row-first.ensures) f (omega arith)
