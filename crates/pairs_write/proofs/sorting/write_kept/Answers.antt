-- `pairs_write::sorting::write_kept` meets its contract. The invariant: the first pairs of the map are written, and the next is picked.
-- Assumes nothing.
use native.Mathlib.Omega.{arith}
use borrow.Author.Rules.{rules}
use Rattle.pairs_write.proofs.Arranging.{arranged-none, arranged-here, arranged-next}
use Rattle.pairs_write.proofs.sorting.write_kept.Goals as goal

pub loop-pick-init : goal.loop-pick-init
loop-pick-init c =
    arranged-none c.requires.0 (omega (arith, c.requires.1)) (omega (arith, c.requires.2)) c.next_above-pick.ensures

pub write_lengths-requires : goal.write_lengths-requires
write_lengths-requires c =
    let w = c.loop-pick.invariant in
    let h = arranged-here w c.requires.0 c.in-Some.is c.key-key.ensures c.value-value.ensures in
    (h.key-small, h.value-small, omega (arith, h.lengths-room, c.requires.1, w.lengths.same))

pub write_bytes-requires : goal.write_bytes-requires
write_bytes-requires c =
    let w = c.loop-pick.invariant in
    let h = arranged-here w c.requires.0 c.in-Some.is c.key-key.ensures c.value-value.ensures in
    omega (arith, h.bytes-room, c.requires.2, w.bytes.same)

pub loop-pick-smaller : goal.loop-pick-smaller
loop-pick-smaller c =
    let h = arranged-here c.loop-pick.invariant c.requires.0 c.in-Some.is c.key-key.ensures c.value-value.ensures in
    omega (arith, h.lengths-room)

pub loop-pick-preserved : goal.loop-pick-preserved
loop-pick-preserved c =
    let w = c.loop-pick.invariant in
    let h = arranged-here w c.requires.0 c.in-Some.is c.key-key.ensures c.value-value.ensures in
    arranged-next w h c.write_lengths.ensures (search rules) c.write_bytes.ensures (search rules) c.next_above-pick-in-Some.ensures
