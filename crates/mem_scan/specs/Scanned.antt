-- Where the rows of whole memory stand, which the test "whole" hands on. Assumes nothing.
use Rattle.std.specs.Prelude.{ℕ, ◌+◌, ◌≡◌, true, List}
use Rattle.mem_layout.specs.Header.{header_at}
use Rattle.mem_layout.specs.Memory.{whole}
use Rattle.mem_scan_rows.specs.declared.Offset.{Offset}
use Rattle.mem_scan_rows.specs.Scan.{past_all, first}
use Rattle.mem_scan.specs.declared.Offsets.{Offsets}

-- where the rows of uploads begin: after as many objects as the header says
unfoldable pub uploads_from : (t : List ℕ) → Offset
uploads_from t = past_all (header_at t).objects first t

-- where all rows end: after as many uploads and parts as the header says
unfoldable pub rows_end : (t : List ℕ) → Offset
rows_end t = past_all ((header_at t).uploads + (header_at t).parts) (uploads_from t) t

-- both
abbrev pub offsets_in : (t : List ℕ) → Offsets
offsets_in t = record { uploads = uploads_from t; end = rows_end t }

-- t and a are whole, and the test found the rows of uploads to begin, and all rows to end, at o
abbrev pub Scanned : (t a : List ℕ) → Offsets → Type 0
Scanned t a o = (whole t a ≡ true) × (o ≡ offsets_in t)
