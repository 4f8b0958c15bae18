-- `mem_join_order::digests::joined_digest` meets its contract. Assumes nothing.
use Prim.Native.Nat.{◌*◌}
use mathlib.Core.Path.{ap, ◌∙◌}
use lib.ListN.{length-take}
use Rattle.base_md5.specs.Md5.{md5}
use native.Mathlib.Omega.{arith}
use Rattle.mem_join_order.proofs.digests.joined_digest.Goals as goal

pub slice_bounds-digest-end : goal.slice_bounds-digest-end
slice_bounds-digest-end c =
    let g = c.gather in
    omega (arith, length-take (16 * c.args.count) g.new.all, g.auto.all, c.requires.1)

pub returns : goal.returns
returns c = λ k. c.digest.ensures ∙ ap md5 (c.gather.ensures k)
