-- `recording_lists::part_numbers::read_numbers` meets its contract. Assumes nothing.
use native.Mathlib.Omega.{arith}
use Rattle.recording_lists.proofs.InBrackets.{no_byte, after-byte, no-inside, no-close, is-closed}
use Rattle.recording_lists.specs.Packed.{packed}
use Rattle.recording.specs.Read.{closed, inside_numbers, read_numbers}
use Prim.Native.Nat.{◌+◌}
use lib.ListN.{take}
use mathlib.Core.Path.{◌∙◌}
use Rattle.recording_lists.proofs.part_numbers.read_numbers.Goals as goal

pub returns-in_err-inside : goal.returns-in_err-inside
unfolding read_numbers
returns-in_err-inside c =
    let a = c.args in
    rw c.from_residual.ensures (no_byte (closed inside_numbers) packed a.s.now a.at 40 c.in_err-inside.ensures, omega arith)

pub returns-in_err-list : goal.returns-in_err-list
unfolding read_numbers
returns-in_err-list c =
    let a = c.args in
    let p = c.in_ok-inside.ensures in
    let t = after-byte (closed inside_numbers) packed a.s.now a.at 40 p.0 p.1 in
    rw c.from_residual-in_err-list.ensures (no-inside inside_numbers packed a.s.now (a.at + 1) (rw p.2 at c.in_err-list.ensures.0) ∙ t, omega arith)

pub returns-in_err-next : goal.returns-in_err-next
unfolding read_numbers
returns-in_err-next c =
    let a = c.args in
    let p = c.in_ok-inside.ensures in
    let t = after-byte (closed inside_numbers) packed a.s.now a.at 40 p.0 p.1 in
    let w = c.in_ok-list in
    let y = take w.list.value c.numbers_inside.new.out in
    rw c.from_residual-in_err-next.ensures
    (no-close inside_numbers packed a.s.now (a.at + 1) y w.list.next (rw p.2 at w.ensures.0) c.in_err-next.ensures ∙ t, omega arith)

pub returns : goal.returns
unfolding read_numbers
returns c =
    let a = c.args in
    let p = c.in_ok-inside.ensures in
    let t = after-byte (closed inside_numbers) packed a.s.now a.at 40 p.0 p.1 in
    let w = c.in_ok-list in
    let y = take w.list.value c.numbers_inside.new.out in
    let q = c.in_ok-next.ensures in
    rw q.2 (is-closed inside_numbers packed a.s.now (a.at + 1) y w.list.next (rw p.2 at w.ensures.0) q.0 q.1 ∙ t, w.ensures.1)
