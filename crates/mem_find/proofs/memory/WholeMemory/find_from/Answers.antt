-- `mem_find::objects::WholeMemory::find_from` meets its contract. The invariant: the paths of the rows passed are below the path. Assumes nothing.
use mathlib.Core.Path.{ap, ◌≡◌, ◌∙◌}
use mathlib.Core.Bool.{not}
use Prim.Native.Nat.{◌+◌}
use native.Mathlib.Nat.{add-sub_cancel_left}
use native.Mathlib.Omega.{arith}
use lib.ListN.{take, drop}
use Rattle.base_order.specs.Order.{is_below}
use Rattle.machine.proofs.Tests.{said-no, said-yes}
use Rattle.machine.specs.State.{State}
use Rattle.mem_row.specs.Row.{head_length}
use Rattle.mem_layout.specs.Memory.{state_of}
use Rattle.mem_layout.proofs.WholeLaws.{whole-stands}
use Rattle.mem_find.proofs.ObjectSearch.{passed-row, passed-all, object-turn}
use Rattle.mem_find.proofs.memory.WholeMemory.find_from.Goals as goal

pub loop-i-init : goal.loop-i-init
loop-i-init c = c.requires

pub returns-then-not-is_below : goal.returns-then-not-is_below
returns-then-not-is_below c =
    let m = c.args.self in
    let h = c.row_head-h.result in
    let stands = whole-stands m.tables.now m.arena.now m.bytes m.is_whole in
    let turn = object-turn m.tables.now m.arena.now (state_of m.tables.now m.arena.now) stands c.args.path.now c.loop-i.i c.loop-i.at c.loop-i.base c.loop-i.invariant (omega (arith, c.counts-objects.ensures.objects)) h c.row_head-h.ensures.read in
    let told : c.is_below.result ≡ is_below (take h.pathlen (drop (c.loop-i.at + head_length) m.tables.now)) c.args.path.now = rw add-sub_cancel_left at c.is_below.ensures in
    c.lookup_at.ensures
    ∙ turn.here c.equal-found.result (said-no told (ap not c.if-not-is_below.true)) (rw add-sub_cancel_left at c.equal-found.ensures)

pub loop-i-preserved : goal.loop-i-preserved
loop-i-preserved c =
    let m = c.args.self in
    let h = c.row_head-h.result in
    let stands = whole-stands m.tables.now m.arena.now m.bytes m.is_whole in
    let turn = object-turn m.tables.now m.arena.now (state_of m.tables.now m.arena.now) stands c.args.path.now c.loop-i.i c.loop-i.at c.loop-i.base c.loop-i.invariant (omega (arith, c.counts-objects.ensures.objects)) h c.row_head-h.ensures.read in
    let told : c.is_below.result ≡ is_below (take h.pathlen (drop (c.loop-i.at + head_length) m.tables.now)) c.args.path.now = rw add-sub_cancel_left at c.is_below.ensures in
    rw c.span-at.ensures (turn.on (said-yes told (ap not c.if-not-is_below.false)))

pub row_head-h-requires : goal.row_head-h-requires
row_head-h-requires c = passed-row (state_of c.args.self.tables.now c.args.self.arena.now) c.args.path.now _ _ _ c.loop-i.invariant (omega (arith, c.counts-objects.ensures.objects))

pub returns : goal.returns
returns c =
    let s : State = state_of c.args.self.tables.now c.args.self.arena.now in
    let at-end : c.counts-objects.result.objects ≡ c.loop-i.i = omega (arith, c.counts-objects.ensures.objects, c.loop-i-test.false, c.loop-i.invariant.within) in
    rw at-end at c.lookup_at-2.ensures ∙ passed-all s c.args.path.now c.loop-i.i c.loop-i.at c.loop-i.base c.loop-i.invariant (omega (arith, c.counts-objects.ensures.objects, c.loop-i-test.false))
