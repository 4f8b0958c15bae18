-- Demand 3's claims about the machine, for every list of calls.
-- Assumes nothing.
use Prim.Native.Nat.{ℕ}
use mathlib.Core.List.{List}
use Rattle.machine.specs.Calls.{Call}
use Rattle.machine.specs.Demand3.{ListClaims}
use Rattle.machine.proofs.Commits.{commits-join}
use Rattle.machine.proofs.Unseen.{parts-unseen, parts-unseen-unless-committed}

pub demand3 : (A : ℕ) (cs : List Call) → ListClaims A cs
demand3 A cs = record {
  commits-join = commits-join A cs;
  parts-unseen = parts-unseen A cs;
  parts-unseen-unless-committed = parts-unseen-unless-committed A cs;
}
