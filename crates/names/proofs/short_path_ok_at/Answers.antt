-- `names::short_path_ok_at` meets its contract: bytes that are clean are a path of visible ASCII. Assumes nothing.
use Prim.Native.Nat.{◌-◌}
use mathlib.Core.Path.{◌≡◌, sym, ◌∙◌}
use native.Mathlib.Omega.{arith}
use lib.ListN.{length, take, drop}
use Rattle.machine.specs.Names.{stored_path_ok}
use Rattle.names.proofs.PathLaws.{plain_ok, length-between}
use Rattle.names.proofs.short_path_ok_at.Goals as goal

pub returns : goal.returns
unfolding stored_path_ok
returns c e =
    let a = c.args in
    let p = take (a.to - a.from) (drop a.from a.t.now) in
    let n : length p ≡ a.to - a.from = length-between a.t.now a.from a.to (omega arith) (omega arith) in
    plain_ok p (omega arith) (omega arith) (sym c.short_at.ensures ∙ e)
