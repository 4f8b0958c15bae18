-- Document 02, E8: the text of an entry, and the lines of an input. Assumes nothing.
use Prim.Native.Char.{code}
use Prim.Native.String.{String, [] as none, ◌∷◌ as ◌before◌}
use Rattle.std.specs.Prelude.{cond, List, [], ◌∷◌, ◌++◌, map, eqb}
use Rattle.base_text.specs.Text.{hex, decimal}
use Rattle.machine.specs.Names.{Bytes}
use Rattle.machine.specs.Pairs.{Pair}
use Rattle.recording.specs.Entry.{Entry, put, get, head, delete, copy, list, initiate, part, commit, abort, uploads}

-- the bytes of a text in ASCII
abbrev pub ascii : String → Bytes
ascii none = []
ascii (c before s) = code c ∷ ascii s

-- "Fields are parted by one space": what follows the first
abbrev pub spaced : List Bytes → Bytes
spaced [] = []
spaced (f ∷ fs) = ascii " " ++ (f ++ spaced fs)

-- a bracket form and its fields
abbrev pub bracket : List Bytes → Bytes
bracket [] = ascii "()"
bracket (f ∷ fs) = ascii "(" ++ (f ++ (spaced fs ++ ascii ")"))

-- "lower-case hexadecimal digit pairs in double quotes"
unfoldable pub quoted : Bytes → Bytes
quoted bs = ascii "\"" ++ (hex bs ++ ascii "\"")

-- "each as a bracket of two quoted forms"
abbrev pub pair : Pair → Bytes
pair e = bracket (quoted e.0 ∷ quoted e.1 ∷ [])

-- "one of the eleven verbs in lower case"
abbrev pub verb : Entry → Bytes
verb (put t p d ps) = ascii "put"
verb (get p) = ascii "get"
verb (head p) = ascii "head"
verb (delete p) = ascii "delete"
verb (copy t p q) = ascii "copy"
verb (list p q) = ascii "list"
verb (initiate t p ps) = ascii "initiate"
verb (part u n d) = ascii "part"
verb (commit u ns) = ascii "commit"
verb (abort u) = ascii "abort"
verb (uploads p) = ascii "uploads"

-- "01's arguments in 01's order, numbers in decimal .., a part list in its own brackets", "Pairs of E6 follow"
abbrev pub arguments : Entry → List Bytes
arguments (put t p d ps) = decimal t ∷ quoted p ∷ quoted d ∷ map pair ps
arguments (get p) = quoted p ∷ []
arguments (head p) = quoted p ∷ []
arguments (delete p) = quoted p ∷ []
arguments (copy t p q) = decimal t ∷ quoted p ∷ quoted q ∷ []
arguments (list p q) = quoted p ∷ quoted q ∷ []
arguments (initiate t p ps) = decimal t ∷ quoted p ∷ map pair ps
arguments (part u n d) = decimal u ∷ decimal n ∷ quoted d ∷ []
arguments (commit u ns) = decimal u ∷ bracket (map decimal ns) ∷ []
arguments (abort u) = decimal u ∷ []
arguments (uploads p) = quoted p ∷ []

-- "one bracket form a line"
unfoldable pub print : Entry → Bytes
print e = bracket (verb e ∷ arguments e)

-- "A line feed closes a line" (10), "and so does the input's end if bytes follow the last line feed"; `line` is what stands before
abbrev pub lines_from : (line : Bytes) → Bytes → List Bytes
lines_from [] [] = []
lines_from (x ∷ line) [] = (x ∷ line) ∷ []
lines_from line (b ∷ l) = cond (eqb b 10) (line ∷ lines_from [] l) (lines_from (line ++ b ∷ []) l)

unfoldable pub lines_of : Bytes → List Bytes
lines_of = lines_from []
