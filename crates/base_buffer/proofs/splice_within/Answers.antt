-- `base_buffer::splice_within` meets its contract: a move, and a copy from where the source then stands. Assumes nothing.
use mathlib.Core.Logic.{⊎_elim}
use Prim.Native.Nat.{◌+◌, ◌≤◌}
use Rattle.base_buffer.proofs.Splicing.{copy-before, copy-after}
use native.Mathlib.Omega.{arith}
use Rattle.base_buffer.proofs.splice_within.Goals as goal

pub returns-then-from-m : goal.returns-then-from-m
returns-then-from-m c =
    let a = c.args in
    let one = c.copy_within in
    let two = c.copy_within-then-from-m in
    copy-before a.b.now one.new.b two.new.b a.at a.n a.used a.from a.m c.requires.0 c.requires.1 c.requires.2 c.requires.3 one.ensures
    c.if-from-m.true one.auto.b two.ensures

pub returns-else-from-m : goal.returns-else-from-m
returns-else-from-m c =
    let after : c.args.at + c.args.n ≤ c.args.from = ⊎_elim (λ w. omega arith) (λ w. w) c.requires.4 in
    let a = c.args in
    let one = c.copy_within in
    let two = c.copy_within-else-from-m in
    copy-after a.b.now one.new.b two.new.b a.at a.n a.used a.from a.m c.requires.0 c.requires.1 c.requires.2 c.requires.3 one.ensures
    (after) two.ensures
