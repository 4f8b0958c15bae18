-- `base_order::big_u64` meets its contract: the bytes read low byte first, and turned. Assumes nothing.
use mathlib.Core.Path.{◌∙◌}
use Rattle.base_order.proofs.BigLaws.{turned-word, turned_8}
use Rattle.base_order.proofs.big_u64.Goals as goal

pub returns : goal.returns
returns c =
    let n = c.get_u64.result in
    turned-word 8 c.args.b.now c.args.at n c.swap_bytes.result (λ i. (c.type_inv.b i).fits) c.requires c.get_u64.ensures (c.swap_bytes.ensures ∙ turned_8 n)
