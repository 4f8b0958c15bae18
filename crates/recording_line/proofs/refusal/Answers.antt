-- `recording_line::refusal` meets its contract. Assumes nothing.
use Rattle.call_types.specs.Numbers.{number_of}
use Rattle.call_contract.specs.Made.{memory}
use Rattle.recording_line.proofs.Lines.{no_store, a-store}
use Rattle.recording_line.proofs.refusal.Goals as goal

pub returns-in-Some : goal.returns-in-Some
returns-in-Some c = let a = c.args in a-store (number_of a.refusal) (memory a.tables.now a.arena.now) c.in-Some.ensures.whole.0

pub returns-in-None : goal.returns-in-None
returns-in-None c = let a = c.args in no_store (number_of a.refusal) (memory a.tables.now a.arena.now) c.in-None.ensures.not_whole
