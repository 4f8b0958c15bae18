-- `base_order::big_u32` meets its contract: the bytes read low byte first, and turned. Assumes nothing.
use mathlib.Core.Path.{◌∙◌}
use Rattle.base_order.proofs.BigLaws.{turned-word, turned_4}
use Rattle.base_order.proofs.big_u32.Goals as goal

pub returns : goal.returns
returns c =
    let n = c.get_u32.result in
    turned-word 4 c.args.b.now c.args.at n c.swap_bytes.result (λ i. (c.type_inv.b i).fits) c.requires c.get_u32.ensures (c.swap_bytes.ensures ∙ turned_4 n)
