-- `mem_find::objects::WholeMemory::find_two` meets its contract: the rows before the lower path's place are passed in a search for the other. Assumes nothing.
use Prim.Native.Nat.{Ordering}
use mathlib.Core.Path.{◌≡◌, sym, ap, ◌∙◌}
use mathlib.Core.Logic.{inl}
use Rattle.base_order.specs.Order.{by_bytes}
use Rattle.base_order.proofs.Answers.{answer-less, answer-equal, answer-greater}
use Rattle.base_order.proofs.OrderLaws.{bytes}
use Rattle.mem_layout.specs.Memory.{state_of}
use Rattle.mem_find.specs.Places.{object_place}
use Rattle.mem_find.proofs.TwoPaths.{passed-lower}
use Rattle.mem_find.proofs.memory.WholeMemory.find_two.Goals as goal

pub find_from-requires : goal.find_from-requires
find_from-requires c =
    let a = c.args in
    let over = bytes.over a.first.now a.second.now (answer-greater _ (sym c.compare.ensures ∙ c.in-Greater.is)) in
    rw c.place_of.ensures (passed-lower _ a.second.now a.first.now c.find_object-low.result c.find_object-low.ensures (inl over))

pub find_from-requires-in-Less : goal.find_from-requires-in-Less
find_from-requires-in-Less c =
    let a = c.args in
    let under : by_bytes a.first.now a.second.now ≡ Ordering.lt = answer-less _ (sym c.compare.ensures ∙ c.in-Less.is) in
    rw c.place_of-in-Less.ensures (passed-lower _ a.first.now a.second.now c.find_object-low-in-Less.result c.find_object-low-in-Less.ensures (inl under))

pub returns-in-Equal-clause-second : goal.returns-in-Equal-clause-second
returns-in-Equal-clause-second c =
    let a = c.args in
    let alike : by_bytes a.first.now a.second.now ≡ Ordering.eq = answer-equal _ (sym c.compare.ensures ∙ c.in-Equal.is) in
    c.find_object-low-in-Equal.ensures ∙ ap (object_place (state_of a.self.tables.now a.self.arena.now)) (bytes.alike _ _ alike)
