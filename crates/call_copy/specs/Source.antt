-- COPY once its arguments keep their rules: the source is looked for, and put at the destination. Assumes nothing.
use Rattle.std.specs.Prelude.{ℕ}
use Rattle.base_order.specs.Order.{by_bytes}
use Rattle.machine.specs.Map.{lookup}
use Rattle.machine.specs.Names.{Bytes}
use Rattle.machine.specs.State.{Object, State}
use Rattle.machine.specs.Calls.{notFound, Outcome, given}
use Rattle.machine.specs.Steps.{put_at}

unfoldable pub source_outcome : (A : ℕ) → State → (stamp : ℕ) (source destination : Bytes) → Outcome
source_outcome A s t p q = given (lookup by_bytes p s.O) notFound (λ (x : Object). put_at A s t q x.content x.pairs)
