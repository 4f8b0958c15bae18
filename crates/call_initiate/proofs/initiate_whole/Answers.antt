-- `call_initiate::initiate_whole` meets its contract: refused, or an upload opened. Assumes nothing.
use Prim.Native.Nat.{ℕ}
use mathlib.Core.Path.{sym, ap}
use native.Mathlib.Omega.{arith}
use Rattle.machine.specs.Pairs.{pair_list}
use Rattle.machine.specs.Calls.{number, no_buffers}
use Rattle.mem_layout.proofs.WholeLaws.{whole-stands}
use Rattle.call_contract.specs.Answers.{success}
use Rattle.call_contract.specs.Made.{memory}
use Rattle.call_contract.proofs.MadeLaws.{done}
use Rattle.call_initiate.proofs.Initiating.{header-inside, next-is, initiate-accepted, last-number, pairs-taken, target-valid}
use Rattle.call_initiate.proofs.initiate_whole.Goals as goal

pub read_header-header-requires : goal.read_header-header-requires
read_header-header-requires c = header-inside c.args.tables.now c.args.arena.now (λ j. (c.slice_known-1.given j).fits) c.requires.0

pub open_upload-requires : goal.open_upload-requires
open_upload-requires c =
    let a = c.args in
    let m = memory a.tables.now a.arena.now in
    let ps = pair_list a.pairs.now in
    let e = sym (rw (c.of-memory.ensures.tables, c.of-memory.ensures.arena) at c.in_ok-end.ensures.judged) in
    let valid = target-valid m a.stamp.0 a.path.now ps e (whole-stands a.tables.now a.arena.now (λ j. (c.slice_known-1.given j).fits) c.requires.0).valid in
    (pairs-taken m a.stamp.0 a.path.now ps e, (rw (c.of-memory.ensures.tables, c.of-memory.ensures.arena) at c.in_ok-end.ensures.placed), (c.requires.0, valid))

pub overflow_cast-result : goal.overflow_cast-result
overflow_cast-result c =
    let a = c.args in
    let h = c.read_header-header in
    let last = last-number (memory a.tables.now a.arena.now) a.stamp.0 a.path.now (pair_list a.pairs.now) (sym (rw (c.of-memory.ensures.tables, c.of-memory.ensures.arena) at c.in_ok-end.ensures.judged)) in
    omega (arith, last, next-is a.tables.now a.arena.now (λ j. (c.slice_known-1.given j).fits) c.requires.0 h.result h.ensures)

pub returns : goal.returns
returns c =
    let a = c.args in
    let h = c.read_header-header in
    let o = c.open_upload in
    let n = next-is a.tables.now a.arena.now (λ j. (c.slice_known-1.given j).fits) c.requires.0 h.result h.ensures in
    let accepted = initiate-accepted (memory a.tables.now a.arena.now) a.stamp.0 a.path.now (pair_list a.pairs.now) (sym (rw (c.of-memory.ensures.tables, c.of-memory.ensures.arena) at c.in_ok-end.ensures.judged)) in
    done _ no_buffers _ accepted (ap (λ (i : ℕ). success (number i) no_buffers) n) o.ensures o.auto.tables o.auto.arena
