-- The entry of a line. Assumes nothing.
use Rattle.std.specs.Prelude.{ℕ, zero, suc, Bool, false, cond, List, [], ◌∷◌, leb, eqb, length, drop}
use Rattle.std.proofs.Math.Option.{Option, none, some}
use Rattle.base_order.specs.Order.{begins}
use Rattle.machine.specs.Names.{Bytes}
use Rattle.machine.specs.Pairs.{Pair}
use Rattle.recording.specs.Entry.{Entry, put, get, head, delete, copy, list, initiate, part, commit, abort, uploads}
use Rattle.recording.specs.Print.{ascii}
use Rattle.recording.specs.Read.{Read, got, no, Reader, both, map_read, past, closed, items, read_number, read_string, read_pair, read_numbers}

-- a field after one space
abbrev pub number : Reader ℕ
number = past 32 read_number

abbrev pub string : Reader Bytes
string = past 32 read_string

abbrev pub numbers : Reader (List ℕ)
numbers = past 32 read_numbers

abbrev pub pairs : Reader (List Pair)
pairs = items read_pair

-- the arguments of each verb, with the ")" that closes the line
unfoldable pub put_rest : Reader Entry
put_rest = map_read (λ a. put a.0 a.1.0 a.1.1.0 a.1.1.1) (closed (both number (both string (both string pairs))))

unfoldable pub path_rest : (Bytes → Entry) → Reader Entry
path_rest e = map_read e (closed string)

unfoldable pub copy_rest : Reader Entry
copy_rest = map_read (λ a. copy a.0 a.1.0 a.1.1) (closed (both number (both string string)))

unfoldable pub list_rest : Reader Entry
list_rest = map_read (λ a. list a.0 a.1) (closed (both string string))

unfoldable pub initiate_rest : Reader Entry
initiate_rest = map_read (λ a. initiate a.0 a.1.0 a.1.1) (closed (both number (both string pairs)))

unfoldable pub part_rest : Reader Entry
part_rest = map_read (λ a. part a.0 a.1.0 a.1.1) (closed (both number (both number string)))

unfoldable pub commit_rest : Reader Entry
commit_rest = map_read (λ a. commit a.0 a.1) (closed (both number numbers))

unfoldable pub abort_rest : Reader Entry
abort_rest = map_read abort (closed number)

-- the bracket and the word that a line begins with, and what is read after them
abbrev pub Verb : Type 0
Verb = Bytes × Reader Entry

abbrev pub verbs : List Verb
verbs =
    (ascii "(put", put_rest)
    ∷ (ascii "(get", path_rest get)
    ∷ (ascii "(head", path_rest head)
    ∷ (ascii "(delete", path_rest delete)
    ∷ (ascii "(copy", copy_rest)
    ∷ (ascii "(list", list_rest)
    ∷ (ascii "(initiate", initiate_rest)
    ∷ (ascii "(part", part_rest)
    ∷ (ascii "(commit", commit_rest)
    ∷ (ascii "(abort", abort_rest)
    ∷ (ascii "(uploads", path_rest uploads)
    ∷ []

-- by the first verb that the bytes begin with
abbrev pub by_verb : List Verb → Reader Entry
by_verb [] l = no
by_verb (v ∷ vs) l = cond (begins v.0 l) (v.1 (drop (length v.0) l)) (by_verb vs l)

-- which verb that is, from 0; as many as there are where it is none
abbrev pub verb_index : List Verb → Bytes → ℕ
verb_index [] l = 0
verb_index (v ∷ vs) l = cond (begins v.0 l) 0 (suc (verb_index vs l))

-- what is read by the verb of an index
abbrev pub by_index : List Verb → (index : ℕ) → Reader Entry
by_index [] i l = no
by_index (v ∷ vs) zero l = v.1 (drop (length v.0) l)
by_index (v ∷ vs) (suc i) l = by_index vs i l

-- all of the bytes
abbrev pub whole : Read Entry → Option Entry
whole (got e []) = some e
whole (got e (x ∷ l)) = none
whole no = none

-- just the ")" that closes a line
unfoldable pub ends_line : Bytes → Bool
ends_line [] = false
ends_line (b ∷ []) = eqb b 41
ends_line (b ∷ (c ∷ l)) = false

unfoldable pub parse : Bytes → Option Entry
parse l = whole (by_verb verbs l)

-- the entry of a line: "A line that isn't such a form, or is over 4,096 bytes before its line feed", has none
unfoldable pub entry_of : Bytes → Option Entry
entry_of l = cond (leb (length l) 4096) (parse l) none
