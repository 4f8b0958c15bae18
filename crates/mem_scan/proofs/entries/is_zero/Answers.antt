-- `mem_scan::entries::is_zero` meets its contract: sixteen bytes are two numbers. Assumes nothing.
use mathlib.Core.Path.{refl, sym, ◌∙◌}
use native.Mathlib.Omega.{arith}
use borrow.Author.Tests.{ne_eqb}
use Rattle.mem_scan.proofs.Readings.{not-zero, zero_rest}
use Rattle.mem_scan.proofs.entries.is_zero.Goals as goal

pub returns-then-get_u64-eq0 : goal.returns-then-get_u64-eq0
returns-then-get_u64-eq0 c = zero_rest c.args.d.now c.get_u64.result _ (λ i. (c.type_inv.d i).fits) c.requires c.get_u64.ensures c.get_u64-then-get_u64-eq0.ensures c.if-get_u64-eq0.true

pub returns-else-get_u64-eq0 : goal.returns-else-get_u64-eq0
returns-else-get_u64-eq0 c =
    ne_eqb c.get_u64.result 0 c.if-get_u64-eq0.false
    ∙ sym (not-zero c.args.d.now c.get_u64.result _ (λ i. (c.type_inv.d i).fits) c.requires c.get_u64.ensures refl (λ e. c.if-get_u64-eq0.false (omega arith)))
