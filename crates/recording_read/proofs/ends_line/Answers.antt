-- `recording_read::ends_line` meets its contract. Assumes nothing.
use mathlib.Core.Path.{sym}
use Rattle.recording_read.proofs.Places.{none_left, more_left, one_left}
use Rattle.recording_read.proofs.ends_line.Goals as goal

pub returns-then-s-at : goal.returns-then-s-at
returns-then-s-at c = let a = c.args in sym (none_left a.s.now a.at c.if-s-at.true)

pub returns-then-s-at-ne1 : goal.returns-then-s-at-ne1
returns-then-s-at-ne1 c = let a = c.args in sym (more_left a.s.now a.at c.if-s-at.false c.if-s-at-ne1.true)

pub returns : goal.returns
returns c = let a = c.args in sym (one_left a.s.now a.at c.if-s-at.false c.if-s-at-ne1.false)
