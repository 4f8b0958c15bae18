-- `call_commit::is_listed_before` meets its contract. The invariant: whether the number is one of the first k. Assumes nothing.
use mathlib.Core.Path.{◌≡◌}
use Rattle.machine.specs.ListFits.{member}
use Rattle.call_commit.specs.Numbers.{first_numbers}
use Rattle.call_commit.proofs.is_listed_before.Given as goal

abbrev pub invariant-loop-k : goal.invariant-loop-k
invariant-loop-k l = l.listed ≡ member l.number (first_numbers l.list l.k)
