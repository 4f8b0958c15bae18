-- `mem_scan_objects::objects::object_ok` meets its contract: the tests are the definition's, in another order. Assumes nothing.
use mathlib.Core.Path.{ap, ◌≡◌, sym, ◌∙◌}
use mathlib.Core.Bool.{not, ◌&&◌, and-false}
use Prim.Native.Nat.{◌-◌, ◌*◌}
use lib.ListN.{take, drop}
use Rattle.base_order.specs.Order.{is_below}
use Rattle.machine.specs.Names.{stored_path_ok}
use Rattle.machine.proofs.Tests.{said-no, said-yes}
use Rattle.mem_layout.specs.Rules.{pairs_rule, object_rule}
use borrow.Author.Tests.{not-true, not-false}
use Rattle.mem_scan_objects.proofs.objects.object_ok.Goals as goal

pub returns-then-not-numbers_ok : goal.returns-then-not-numbers_ok
returns-then-not-numbers_ok c =
    let by-numbers : let a = c.args in
    let path = take (a.end - a.path) (drop a.path a.t.now) in
    let lengths = take (2 * a.h.pairs) (drop a.end a.t.now) in
    let content = take a.h.size (drop a.base a.arena.now) in
    object_rule a.most a.last.now a.h path lengths content
    ≡ (c.numbers_ok.result && (stored_path_ok path && (is_below a.last.now path && pairs_rule a.most a.h lengths content))) = c.numbers_ok.ensures _ _ _ _ _ in
    sym (by-numbers ∙ rw (not-true c.numbers_ok.result (ap not c.if-not-numbers_ok.true)))

pub returns-then-not-is_below : goal.returns-then-not-is_below
returns-then-not-is_below c =
    let by-numbers : let a = c.args in
    let path = take (a.end - a.path) (drop a.path a.t.now) in
    let lengths = take (2 * a.h.pairs) (drop a.end a.t.now) in
    let content = take a.h.size (drop a.base a.arena.now) in
    object_rule a.most a.last.now a.h path lengths content
    ≡ (c.numbers_ok.result && (stored_path_ok path && (is_below a.last.now path && pairs_rule a.most a.h lengths content))) = c.numbers_ok.ensures _ _ _ _ _ in
    sym (by-numbers ∙ simp (said-no c.is_below.ensures (ap not c.if-not-is_below.true), and-false))

pub returns-then-not-stored_path_ok_at : goal.returns-then-not-stored_path_ok_at
returns-then-not-stored_path_ok_at c =
    let by-numbers : let a = c.args in
    let path = take (a.end - a.path) (drop a.path a.t.now) in
    let lengths = take (2 * a.h.pairs) (drop a.end a.t.now) in
    let content = take a.h.size (drop a.base a.arena.now) in
    object_rule a.most a.last.now a.h path lengths content
    ≡ (c.numbers_ok.result && (stored_path_ok path && (is_below a.last.now path && pairs_rule a.most a.h lengths content))) = c.numbers_ok.ensures _ _ _ _ _ in
    sym (by-numbers ∙ simp (said-no c.stored_path_ok_at.ensures (ap not c.if-not-stored_path_ok_at.true), and-false))

pub returns : goal.returns
returns c =
    let by-numbers : let a = c.args in
    let path = take (a.end - a.path) (drop a.path a.t.now) in
    let lengths = take (2 * a.h.pairs) (drop a.end a.t.now) in
    let content = take a.h.size (drop a.base a.arena.now) in
    object_rule a.most a.last.now a.h path lengths content
    ≡ (c.numbers_ok.result && (stored_path_ok path && (is_below a.last.now path && pairs_rule a.most a.h lengths content))) = c.numbers_ok.ensures _ _ _ _ _ in
    c.pairs_ok_at.ensures
    ∙ sym (by-numbers
    ∙ rw (
      not-false c.numbers_ok.result (ap not c.if-not-numbers_ok.false),
      said-yes c.stored_path_ok_at.ensures (ap not c.if-not-stored_path_ok_at.false),
      said-yes c.is_below.ensures (ap not c.if-not-is_below.false),
    ))
