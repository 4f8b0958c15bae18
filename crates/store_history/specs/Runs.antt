-- Runs of the code: lists of calls that were made, one after the other. Assumes nothing.
use Rattle.std.specs.Prelude.{ℕ, ◌≡◌, [], ◌∷◌, length}
use Rattle.machine.specs.Calls.{Call, Reply}
use Rattle.machine.specs.Lists.{Trace}
use Rattle.call_contract.specs.Made.{Memory, Made, MadeFresh}

-- "Every call is lent the tables and the arena as the one before left them, a refused one too, and nobody else writes in them meanwhile."
-- The calls made, each with what it answered, from one memory to another.
pub data Run : Trace → Memory → Memory → Type 0 where
  stop : {m : Memory} → Run [] m m
  call : {c : Call} {r : Reply} {t : Trace} {m m₁ m₂ : Memory} → Made c m r m₁ → Run t m₁ m₂ → Run ((c, r) ∷ t) m m₂

-- "FRESH comes ahead of it, over any tables of the right length and any arena whose length A is 0 to 1,048,576, and answers 0."
-- A run from there with calls and answers t leaves memory m.
pub record FromFresh (A : ℕ) (t : Trace) (m : Memory) : Type 0 where
  pub lent : Memory
  pub start : Memory
  pub arena : length lent.arena ≡ A
  pub fresh : MadeFresh lent 0 start
  pub run : Run t start m
