-- Worked lines: document 02's two examples, the calls of M1 to M12, and lines that are forms only by a byte, or are none by one. Assumes nothing.
use Prim.Native.String.{String}
use Rattle.std.specs.Prelude.{Bool, true, false, ◌≡◌, refl, List, [], ◌∷◌, map}
use Rattle.std.proofs.Math.Option.{Option, none, some}
use Rattle.base_text.specs.Text.{hex, hex_digit, digits, decimal}
use Rattle.base_order.specs.Order.{begins}
use Rattle.machine.specs.Marked.{a, b, r, xyz, A, B}
use Rattle.recording.specs.Entry.{Entry, put, get, head, delete, copy, list, initiate, part, commit, abort, uploads}
use Rattle.recording.specs.Print.{ascii, quoted, print, lines_of}
use Rattle.recording.specs.Read.{digit_value, digits_on, read_number, hex_value, hex_pair, hex_on, read_string, read_pair, read_numbers}
use Rattle.recording.specs.Parse.{put_rest, path_rest, copy_rest, list_rest, initiate_rest, part_rest, commit_rest, abort_rest, parse}

-- an entry and its text
pub record Worked : Type 0 where
  pub entry : Entry
  pub text : String

abbrev says : Entry → String → Worked
says e t = record { entry = e; text = t }

abbrev worked : List Worked
worked =
    -- document 02's examples
    says (put 5 a xyz []) "(put 5 \"61\" \"78797a\")" ∷
    says (commit 1 (2 ∷ 1 ∷ [])) "(commit 1 (2 1))" ∷
    -- M1 to M12, each call once
    says (get a) "(get \"61\")" ∷
    says (get []) "(get \"\")" ∷
    says (delete []) "(delete \"\")" ∷
    says (put 0 a xyz []) "(put 0 \"61\" \"78797a\")" ∷
    says (head a) "(head \"61\")" ∷
    says (copy 9 a a) "(copy 9 \"61\" \"61\")" ∷
    says (initiate 7 r []) "(initiate 7 \"72\")" ∷
    says (part 1 2 B) "(part 1 2 \"42\")" ∷
    says (part 1 1 A) "(part 1 1 \"41\")" ∷
    says (get r) "(get \"72\")" ∷
    says (commit 1 (1 ∷ [])) "(commit 1 (1))" ∷
    says (commit 1 (1 ∷ 1 ∷ 2 ∷ [])) "(commit 1 (1 1 2))" ∷
    says (abort 1) "(abort 1)" ∷
    says (commit 1 []) "(commit 1 ())" ∷
    says (head r) "(head \"72\")" ∷
    says (put 5 b (66 ∷ 65 ∷ []) []) "(put 5 \"62\" \"4241\")" ∷
    says (put 5 a (120 ∷ 121 ∷ 122 ∷ 65 ∷ []) []) "(put 5 \"61\" \"78797a41\")" ∷
    says (part 1 1 (65 ∷ 65 ∷ [])) "(part 1 1 \"4141\")" ∷
    says (part 1 2 (66 ∷ 66 ∷ [])) "(part 1 2 \"4242\")" ∷
    says (commit 1 (1 ∷ 2 ∷ [])) "(commit 1 (1 2))" ∷
    -- the verbs that M1 to M12 do not have; an empty prefix; pairs, with an empty value; bytes that ASCII does not show
    says (list a b) "(list \"61\" \"62\")" ∷
    says (list [] []) "(list \"\" \"\")" ∷
    says (uploads []) "(uploads \"\")" ∷
    says (put 5 a [] ((a, b) ∷ (r, []) ∷ [])) "(put 5 \"61\" \"\" (\"61\" \"62\") (\"72\" \"\"))" ∷
    says (initiate 7 r ((a, b) ∷ [])) "(initiate 7 \"72\" (\"61\" \"62\"))" ∷
    says (get (0 ∷ 10 ∷ 255 ∷ [])) "(get \"000aff\")" ∷
    -- the widest number, which only ABORT's rule refuses
    says (abort 18446744073709551615) "(abort 18446744073709551615)" ∷
    []

pub printed : map (λ (w : Worked). print w.entry) worked ≡ map (λ (w : Worked). ascii w.text) worked
unfolding print quoted decimal digits hex hex_digit
printed = refl

pub parsed : map (λ (w : Worked). parse (ascii w.text)) worked ≡ map (λ (w : Worked). some w.entry) worked
unfolding parse put_rest path_rest copy_rest list_rest initiate_rest part_rest commit_rest abort_rest begins digit_value digits_on read_number hex_value hex_pair hex_on read_string read_pair read_numbers
parsed = refl

-- lines that are no form
abbrev unread : List String
unread =
    -- capital digits, an odd digit, no digits
    "(get \"6A\")" ∷ "(get \"6\")" ∷ "(get \"616\")" ∷ "(get \"6g\")" ∷
    -- two spaces, a space before ")", after "(" or in a list, a tab, a carriage return, a NUL
    "(get  \"61\")" ∷ "(get \"61\" )" ∷ "( get \"61\")" ∷ "(commit 1 (1  2))" ∷ "(commit 1 (1 ))" ∷ "(commit 1 ( ))" ∷ "(get\t\"61\")" ∷ "(get \"61\")\r" ∷ "(get \"61\"\0)" ∷
    -- no ")", a byte after the last one, no space
    "(get \"61\"" ∷ "(get \"61\"))" ∷ "(get \"61\") " ∷ "(get\"61\")" ∷ "(list \"61\"\"62\")" ∷
    -- leading zeros, a number of 2^64, a sign, no number
    "(abort 00)" ∷ "(abort 007)" ∷ "(abort 18446744073709551616)" ∷ "(abort 99999999999999999999999)" ∷ "(abort -1)" ∷ "(abort +1)" ∷ "(abort )" ∷ "(abort)" ∷
    -- pairs after a verb that takes none, half a pair, a pair of three
    "(get \"61\" (\"61\" \"62\"))" ∷ "(put 5 \"61\" \"62\" (\"61\"))" ∷ "(put 5 \"61\" \"62\" (\"61\" \"62\" \"63\"))" ∷ "(put 5 \"61\" \"62\" ())" ∷
    -- a field too few, a field too many, fields in another order, another verb, a capital
    "(put 5 \"61\")" ∷ "(get \"61\" \"62\")" ∷ "(part 1 \"41\" 1)" ∷ "(sweep 5 1)" ∷ "(GET \"61\")" ∷ "(gets \"61\")" ∷
    -- nothing, and no brackets
    "" ∷ "()" ∷ "get \"61\"" ∷
    []

abbrev is_none : Option Entry → Bool
is_none none = true
is_none (some e) = false

pub none-parsed : map (λ (t : String). is_none (parse (ascii t))) unread ≡ map (λ (t : String). true) unread
unfolding parse put_rest path_rest copy_rest list_rest initiate_rest part_rest commit_rest abort_rest begins digit_value digits_on read_number hex_value hex_pair hex_on read_string read_pair read_numbers
none-parsed = refl

-- Lines of an input: one without a line feed at its end; an empty one, which counts; a line feed first; one at the end; none
abbrev cut : String → List String → Type 0
cut input ls = lines_of (ascii input) ≡ map ascii ls

pub lines_cut : cut "a\nb" ("a" ∷ "b" ∷ []) × cut "a\n\nb" ("a" ∷ "" ∷ "b" ∷ []) × cut "\na" ("" ∷ "a" ∷ []) × cut "a\n" ("a" ∷ []) × cut "\n" ("" ∷ []) × cut "" []
unfolding lines_of
lines_cut = (refl, refl, refl, refl, refl, refl)
