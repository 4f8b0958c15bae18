-- What the scans answer: of uploads and parts, and of the header and the objects before them. Assumes nothing.
use Rattle.std.specs.Prelude.{ℕ, ◌+◌, Bool, ◌&&◌, cond, List, [], eqb, length, drop}
use Rattle.mem_row.specs.declared.Head.{Head}
use Rattle.mem_row.specs.Row.{rows_at, good}
use Rattle.mem_layout.specs.declared.Mark.{Mark}
use Rattle.mem_layout.specs.Header.{header_length, header_at}
use Rattle.mem_layout.specs.Rules.{upload_kind, object_ok, object_next, entry_ok, entry_next, start}
use Rattle.mem_layout.specs.Memory.{uploads_among, header_ok}
use Rattle.mem_scan_rows.specs.declared.Offset.{Offset}
use Rattle.mem_scan_rows.specs.Scan.{past_all}
use Rattle.std.specs.Prelude.{Option, Some, None}

-- 1 for the row of an upload
unfoldable pub opens_one : Head → ℕ
opens_one h = cond (eqb h.kind upload_kind) 1 0

-- n rows of uploads and parts from o on, after m, stand by the rule and make, with `opened`, `uploads` uploads
unfoldable pub entries_ok : (most N uploads opened n : ℕ) → Mark → Offset → (t a : List ℕ) → Bool
entries_ok most N uploads opened n m o t a =
    good Mark (entry_ok most N) entry_next n m (drop o.at t) (drop o.base a) && eqb (opened + uploads_among (rows_at n (drop o.at t) (drop o.base a))) uploads

-- where these rows end, if they do
unfoldable pub entry_scan : (most N uploads opened n : ℕ) → Mark → Offset → (t a : List ℕ) → Option Offset
entry_scan most N uploads opened n m o t a = cond (entries_ok most N uploads opened n m o t a) (Some (past_all n o t)) None

-- where the rows of uploads and parts from o on end, if they stand there as the header says
abbrev pub upload_scan : (most : ℕ) → Offset → (t a : List ℕ) → Option Offset
upload_scan most o t a = let h = header_at t in entry_scan most h.next h.uploads 0 (h.uploads + h.parts) start o t a

-- the header is one of tables of T bytes over this arena, and the rows of objects stand after it
unfoldable pub front_ok : (T most : ℕ) (t a : List ℕ) → Bool
front_ok T most t a =
    header_ok T (length t) (length a) (header_at t)
    && good (List ℕ) (object_ok most) object_next (header_at t).objects [] (drop header_length t) a
