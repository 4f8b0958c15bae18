-- The auditor's first question as a C program asks it. Assumes nothing.
use Rattle.std.specs.Prelude.{ℕ, ◌≡◌, true}
use Rattle.machine.specs.Names.{Bytes}
use Rattle.machine.specs.Calls.{Call, Buffers}
use Rattle.machine.specs.Demand3.{kind, is_look}
use Rattle.call_contract.specs.Made.{Memory}
use Rattle.rathnodi.specs.Exported.{Exported}

-- C reads the same by GET, HEAD or LIST, over the one memory and over the other: the number, the answer buffers and the reply slice
unfoldable pub CReadsSame : Memory → Memory → Type 0
CReadsSame m m' =
    (k : Call) (o : Bytes) (n n' : ℕ) (b b' : Buffers) (r r' : Bytes) (x x' : Memory) → is_look (kind k) ≡ true →
    Exported k m o n b r x → Exported k m' o n' b' r' x' → (n' ≡ n) × (b' ≡ b) × (r' ≡ r)
