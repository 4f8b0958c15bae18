-- `pairs_kept::kept_first` meets its contract. Assumes nothing.
use mathlib.Core.Path.{sym, ap}
use native.Mathlib.Omega.{arith}
use lib.ListN.{length}
use Rattle.machine.specs.Pairs.{pairs_held}
use Rattle.machine.proofs.PairBytes.{front-size}
use Rattle.pairs_kept.proofs.Keeping.{kept-none, kept-own}
use Rattle.pairs_kept.proofs.kept_first.Goals as goal

pub returns-then-system_key : goal.returns-then-system_key
returns-then-system_key c =
    let none = kept-none c.args.rest.now _ _ c.key.ensures c.system_key.ensures c.if-system_key.true in
    (sym (ap length none), sym (ap pairs_held none), omega arith, omega arith)

pub overflow_sub-bytes : goal.overflow_sub-bytes
overflow_sub-bytes c = omega (arith, front-size c.args.rest.now c.requires)

pub returns : goal.returns
returns c =
    let own = kept-own c.args.rest.now _ _ c.key.ensures c.system_key.ensures c.if-system_key.false in
    let size = front-size c.args.rest.now c.requires in
    (sym (ap length own), omega (arith, ap pairs_held own, size), omega arith, omega arith)
