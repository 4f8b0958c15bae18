-- The number of each refusal. Assumes nothing.
use Rattle.std.specs.Prelude.{ℕ, Result, Ok, Err}
use Rattle.call_types.specs.declared.Refusal.{Refusal}
use Rattle.call_types.specs.declared.Refusal.TheVariants.{NotAStore, BadRequest, NotFound, TableFull, ArenaFull, NumbersUsedUp, BufferShort, TooMany, NotALine}

-- document 01's 1 to 7, and document 02's 8 (E1) and 9 (E8)
abbrev pub number_of : Refusal → ℕ
number_of NotAStore = 1
number_of BadRequest = 2
number_of NotFound = 3
number_of TableFull = 4
number_of ArenaFull = 5
number_of NumbersUsedUp = 6
number_of BufferShort = 7
number_of TooMany = 8
number_of NotALine = 9

-- "Success is 0.", else the refusal's number
abbrev pub result_number : {A : Type 0} → Result A Refusal → ℕ
result_number (Ok x) = 0
result_number (Err r) = number_of r
