-- The header of the tables: how it is written, and what stands at the front. Assumes nothing.
use Rattle.std.specs.Prelude.{ℕ, List, [], ◌∷◌, ◌++◌, length, get_or, drop}
use Rattle.machine.specs.Map.{total}
use Rattle.machine.specs.State.{State, parts_in}
use Rattle.mem_row.specs.Fields.{fields, numbers_at}
use Rattle.mem_layout.specs.declared.Header.{Header}

-- arena length 4, N 8, objects 2, uploads 2, parts 2
abbrev pub header_widths : List ℕ
header_widths = 4 ∷ 8 ∷ 2 ∷ 2 ∷ 2 ∷ []

-- how many bytes the header takes: the first row stands here
abbrev pub header_length : ℕ
header_length = 18

abbrev pub header_numbers : Header → List ℕ
header_numbers h = h.arena ∷ h.next ∷ h.objects ∷ h.uploads ∷ h.parts ∷ []

-- the bytes of a header
unfoldable pub header_bytes : Header → List ℕ
header_bytes h = fields header_widths (header_numbers h)

-- the header of a state over an arena of A bytes, and its bytes
abbrev pub header_of : (A : ℕ) → State → Header
header_of A s = record { arena = A; next = s.N; objects = length s.O; uploads = length s.U; parts = total parts_in s.U }

abbrev pub encode_header : (A : ℕ) → State → List ℕ
encode_header A s = header_bytes (header_of A s)

-- t with the header h
unfoldable pub headed : List ℕ → Header → List ℕ
headed t h = header_bytes h ++ drop header_length t

-- the header at the front of t, whatever its bytes are
abbrev pub header_from : List ℕ → Header
header_from v = record { arena = get_or v 0 0; next = get_or v 1 0; objects = get_or v 2 0; uploads = get_or v 3 0; parts = get_or v 4 0 }

unfoldable pub header_at : List ℕ → Header
header_at t = header_from (numbers_at header_widths t)
