-- What a scan of objects answers. Assumes nothing.
use Rattle.std.specs.Prelude.{ℕ, cond, List, drop}
use Rattle.mem_row.specs.Row.{good}
use Rattle.mem_layout.specs.Rules.{object_ok, object_next}
use Rattle.mem_scan_rows.specs.declared.Offset.{Offset}
use Rattle.mem_scan_rows.specs.Scan.{past_all}
use Rattle.std.specs.Prelude.{Option, Some, None}

-- where n rows of objects from o on, after one whose path is `last`, end, if they stand there by the rule
unfoldable pub object_scan : (most n : ℕ) (last : List ℕ) → Offset → (t a : List ℕ) → Option Offset
object_scan most n last o t a = cond (good (List ℕ) (object_ok most) object_next n last (drop o.at t) (drop o.base a)) (Some (past_all n o t)) None
