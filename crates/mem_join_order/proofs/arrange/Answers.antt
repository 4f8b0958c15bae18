-- `mem_join_order::arrange` meets its contract: the parts are in listed order, once brought there or from the start. Assumes nothing.
use Prim.Native.Nat.{ℕ}
use mathlib.Core.Path.{◌≡◌, ap, ◌∙◌}
use mathlib.Core.List.{List}
use Rattle.base_md5.specs.Md5.{md5}
use Rattle.machine.specs.State.{Part}
use Rattle.machine.specs.Steps.{digests}
use Rattle.mem_join_order.specs.Region.{Arrangeable, ordered_tables, ordered_arena}
use Rattle.mem_join_order.proofs.Listed.{ordered_at, ordered-listed, in_order}
use native.Mathlib.Omega.{arith}
use Rattle.mem_join_order.proofs.arrange.Goals as goal
use Rattle.mem_join_order.proofs.arrange.Goals.{then-unordered, else-unordered}

pub joined_digest-requires : goal.joined_digest-requires
joined_digest-requires c =
    let t : List ℕ = c.args.tables.now in
    let a : List ℕ = c.args.arena.now in
    let list : List ℕ = c.args.list.now in
    let ordered : (k : Arrangeable t a c.args.at c.args.base list c.args.ascends)
    → (c.if-unordered.tables ≡ ordered_tables t a c.args.at c.args.base list k.listed_at) × (c.if-unordered.arena ≡ ordered_arena t a c.args.at c.args.base list k.listed_at) = λ k. elim c.if-unordered.branch [
      | then-unordered w ↦ (let e = w.order_parts.ensures k.listed_at in (w.tables-is ∙ e.0, w.arena-is ∙ e.1))
      | else-unordered w ↦ (let e = in_order t a _ _ list k.listed_at (k.in_order w.if-unordered.false) in (w.tables-is ∙ e.0, w.arena-is ∙ e.1))
    ] in
    let p = c.requires in
    (ordered_at _ _ _ _ _ p.listed_at _ (ordered p).0, let n = p.few in omega arith)

pub returns : goal.returns
returns c k =
    let t : List ℕ = c.args.tables.now in
    let a : List ℕ = c.args.arena.now in
    let list : List ℕ = c.args.list.now in
    let ordered : (k : Arrangeable t a c.args.at c.args.base list c.args.ascends)
    → (c.if-unordered.tables ≡ ordered_tables t a c.args.at c.args.base list k.listed_at) × (c.if-unordered.arena ≡ ordered_arena t a c.args.at c.args.base list k.listed_at) = λ k. elim c.if-unordered.branch [
      | then-unordered w ↦ (let e = w.order_parts.ensures k.listed_at in (w.tables-is ∙ e.0, w.arena-is ∙ e.1))
      | else-unordered w ↦ (let e = in_order t a _ _ list k.listed_at (k.in_order w.if-unordered.false) in (w.tables-is ∙ e.0, w.arena-is ∙ e.1))
    ] in
    let e = ordered k in
    record {
      tables = e.0;
      arena = e.1;
      digest-is = c.joined_digest.ensures (ordered_at _ _ _ _ _ k.listed_at _ e.0) ∙ ap (λ (ys : List Part). md5 (digests ys)) (ordered-listed _ _ _ _ _ k.listed_at _ e.0);
    }
