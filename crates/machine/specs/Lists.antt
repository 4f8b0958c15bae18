-- A list of calls: what it answers and what it leaves. Assumes nothing.
use Rattle.std.specs.Prelude.{ℕ, List, [], ◌∷◌}
use Rattle.machine.specs.State.{State}
use Rattle.machine.specs.Calls.{Call, Reply}
use Rattle.machine.specs.Steps.{reply, next}

-- each call with its reply
abbrev pub Trace : Type 0
Trace = List (Call × Reply)

-- "Every call is lent the tables and the arena as the one before left them, a refused one too"
abbrev pub trace : (A : ℕ) → State → List Call → Trace
trace A s [] = []
trace A s (c ∷ cs) = (c, reply A s c) ∷ trace A (next A s c) cs

-- "at the end the O, U and N"
abbrev pub final : (A : ℕ) → State → List Call → State
final A s [] = s
final A s (c ∷ cs) = final A (next A s c) cs
