-- What an edit asks of memory, and what memory stands for after it. Assumes nothing.
use Rattle.std.specs.Prelude.{ℕ, ◌≡◌, true, List, length}
use Rattle.machine.specs.State.{State}
use Rattle.machine.specs.Valid.{Valid}
use Rattle.mem_layout.specs.Memory.{whole, state_of, Stands}

-- t and a are whole, and the state that they stand for, changed by f, keeps the rules and ceilings
abbrev pub MayBecome : (t a : List ℕ) → (State → State) → Type 0
MayBecome t a f = (whole t a ≡ true) × Valid (length a) (f (state_of t a))

-- t' and a' stand for the state that t and a stood for, changed by f
abbrev pub Becomes : (t a t' a' : List ℕ) → (State → State) → Type 0
Becomes t a t' a' f = Stands t' a' (f (state_of t a))
