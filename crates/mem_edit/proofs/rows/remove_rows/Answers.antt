-- `mem_edit::rows::remove_rows` meets its contract: the bytes removed, then the header written. Assumes nothing.
use Prim.Native.Nat.{ℕ}
use mathlib.Core.Path.{ap, ◌∙◌}
use mathlib.Core.List.{List}
use Rattle.mem_layout.specs.Header.{headed}
use Rattle.mem_edit.proofs.rows.remove_rows.Goals as goal

pub returns : goal.returns
returns c = c.write_header.ensures ∙ ap (λ (t : List ℕ). headed t c.args.header) c.remove.ensures
