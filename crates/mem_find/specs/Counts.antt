-- How many objects, uploads, parts and rows a state has. Assumes nothing.
use Rattle.std.specs.Prelude.{◌≡◌, length}
use Rattle.machine.specs.Map.{total}
use Rattle.machine.specs.State.{State, parts_in}
use Rattle.mem_layout.specs.Memory.{rows_of}
use Rattle.mem_find.specs.declared.counts.RowCounts.{RowCounts}

-- c are the counts of the state s
pub record CountsOf (s : State) (c : RowCounts) : Type 0 where
  pub objects : c.objects ≡ length s.O
  pub uploads : c.uploads ≡ length s.U
  pub parts : c.parts ≡ total parts_in s.U
  pub rows : c.rows ≡ length (rows_of s)
