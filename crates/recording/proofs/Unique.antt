-- The text of an entry is unique, and so is the entry of a text. Assumes nothing.
use Prim.Native.Nat.{ℕ, ◌≤◌, ◌<◌}
use mathlib.Core.Path.{◌≡◌, refl, sym, ap, subst, ◌∙◌}
use mathlib.Core.List.{List, [], ◌∷◌, ◌++◌, append_assoc, append-nil}
use mathlib.Core.Option.{none, some}
use native.Mathlib.Omega.{arith}
use lib.Dec.{leb}
use lib.ListN.{length, drop}
use borrow.Author.Tests.{leb-true, le-leb, lt-leb}
use Rattle.base_order.specs.Order.{begins}
use Rattle.base_order.proofs.AffixLaws.{begins-true}
use Rattle.base_text.specs.Text.{decimal}
use Rattle.machine.specs.Names.{Bytes}
use Rattle.recording.specs.Entry.{Entry, put, get, head, delete, copy, list, initiate, part, commit, abort, uploads, Each, EntryOk}
use Rattle.recording.specs.Print.{ascii, bracket, quoted, print}
use Rattle.recording.specs.Read.{Read, got, no, Reader, both, map_read, closed}
use Rattle.recording.specs.Parse.{number, string, numbers, pairs, Verb, verbs, by_verb, whole, parse, put_rest, path_rest, copy_rest, list_rest, initiate_rest, part_rest, commit_rest, abort_rest, entry_of}
use Rattle.recording.proofs.Readers.{Exact, Any, by-test, no-got, got-value, got-rest, went, closed-exact}
use Rattle.recording.proofs.Verbs.{close-ends, number-field, string-field, numbers-field, pairs-exact, string-then, number-then}

-- what a verb's reader finds is an entry of that text
abbrev Sound : Verb → Type 0
Sound v = (l : Bytes) (e : Entry) (rest : Bytes) → v.1 l ≡ got e rest → (v.0 ++ l ≡ print e ++ rest) × EntryOk e

-- and each entry of that verb is found
record LineOk {X : Type 0} (f : X → Entry) (w : Bytes) (r : Reader X) : Type 0 where
  sound : Sound (40 ∷ w, map_read f r)
  complete : (x : X) → EntryOk (f x) → by_verb verbs (print (f x)) ≡ got (f x) []

-- so it is where the rest of a line is exact, and an entry's text is the verb's word and that rest
line_ok : {X : Type 0} (f : X → Entry) (w : Bytes) {r : Reader X} {show : X → Bytes} → Exact r show (λ x. EntryOk (f x)) Any
    → ((x : X) → print (f x) ≡ 40 ∷ w ++ show x) → ((l : Bytes) → by_verb verbs (40 ∷ w ++ l) ≡ map_read f r l) → LineOk f w r
line_ok {X} f w {r} {show} h printed picks = record {
  sound = λ l e rest t.
      let a = went (r l) (λ x m. got (f x) m) t in
      let x = a.value in
      let o = h.only l x a.after a.here in
      subst (λ (e : Entry). (40 ∷ w ++ l ≡ print e ++ rest) × EntryOk e) (got-value a.there) (
        ap (λ (m : Bytes). 40 ∷ w ++ m) (o.0 ∙ ap (λ (m : Bytes). show x ++ m) (got-rest a.there)) ∙ sym (append_assoc (40 ∷ w) (show x) rest)
            ∙ ap (λ (m : Bytes). m ++ rest) (sym (printed x)),
        o.1,
      );
  complete = λ x ok.
      ap (by_verb verbs) (printed x ∙ ap (λ (m : Bytes). 40 ∷ w ++ m) (sym (append-nil (show x))))
      ∙ picks (show x ++ [])
      ∙ rw (h.finds x ok [] tt);
}

one_field : (w f : Bytes) → bracket (w ∷ f ∷ []) ≡ 40 ∷ w ++ (32 ∷ f ++ 41 ∷ [])
one_field w f = ap (λ (m : Bytes). 40 ∷ w ++ (32 ∷ m ++ 41 ∷ [])) (append-nil f)

-- Verb by verb ---------------------------------------------------------------------------------------------------------

put-line : LineOk (λ a. put a.0 a.1.0 a.1.1.0 a.1.1.1) (ascii "put") (closed (both number (both string (both string pairs))))
unfolding print begins put_rest
put-line = line_ok (λ a. put a.0 a.1.0 a.1.1.0 a.1.1.1) (ascii "put") (closed-exact (number-then (string-then (string-then pairs-exact))) (λ l. (l, refl))) (λ x. refl) (λ l. refl)

get-line : LineOk get (ascii "get") (closed string)
unfolding print begins path_rest
get-line = line_ok get (ascii "get") (closed-exact string-field (λ l. tt)) (λ x. one_field (ascii "get") (quoted x)) (λ l. refl)

head-line : LineOk head (ascii "head") (closed string)
unfolding print begins path_rest
head-line = line_ok head (ascii "head") (closed-exact string-field (λ l. tt)) (λ x. one_field (ascii "head") (quoted x)) (λ l. refl)

delete-line : LineOk delete (ascii "delete") (closed string)
unfolding print begins path_rest
delete-line = line_ok delete (ascii "delete") (closed-exact string-field (λ l. tt)) (λ x. one_field (ascii "delete") (quoted x)) (λ l. refl)

copy_line : LineOk (λ a. copy a.0 a.1.0 a.1.1) (ascii "copy") (closed (both number (both string string)))
unfolding print begins copy_rest
copy_line = line_ok (λ a. copy a.0 a.1.0 a.1.1) (ascii "copy") (closed-exact (number-then (string-then string-field)) (λ l. tt)) (λ x. simp append-nil) (λ l. refl)

list-line : LineOk (λ a. list a.0 a.1) (ascii "list") (closed (both string string))
unfolding print begins list_rest
list-line = line_ok (λ a. list a.0 a.1) (ascii "list") (closed-exact (string-then string-field) (λ l. tt)) (λ x. simp append-nil) (λ l. refl)

initiate-line : LineOk (λ a. initiate a.0 a.1.0 a.1.1) (ascii "initiate") (closed (both number (both string pairs)))
unfolding print begins initiate_rest
initiate-line = line_ok (λ a. initiate a.0 a.1.0 a.1.1) (ascii "initiate") (closed-exact (number-then (string-then pairs-exact)) (λ l. (l, refl))) (λ x. refl) (λ l. refl)

part-line : LineOk (λ a. part a.0 a.1.0 a.1.1) (ascii "part") (closed (both number (both number string)))
unfolding print begins part_rest
part-line = line_ok (λ a. part a.0 a.1.0 a.1.1) (ascii "part") (closed-exact (number-then (number-then string-field)) (λ l. tt)) (λ x. simp append-nil) (λ l. refl)

commit-line : LineOk (λ a. commit a.0 a.1) (ascii "commit") (closed (both number numbers))
unfolding print begins commit_rest
commit-line = line_ok (λ a. commit a.0 a.1) (ascii "commit") (closed-exact (number-then numbers-field) (λ l. tt)) (λ x. simp append-nil) (λ l. refl)

abort-line : LineOk abort (ascii "abort") (closed number)
unfolding print begins abort_rest
abort-line = line_ok abort (ascii "abort") (closed-exact number-field close-ends) (λ x. one_field (ascii "abort") (decimal x)) (λ l. refl)

uploads-line : LineOk uploads (ascii "uploads") (closed string)
unfolding print begins path_rest
uploads-line = line_ok uploads (ascii "uploads") (closed-exact string-field (λ l. tt)) (λ x. one_field (ascii "uploads") (quoted x)) (λ l. refl)

-- All of them ----------------------------------------------------------------------------------------------------------

all_sound : Each Sound verbs
unfolding put_rest path_rest copy_rest list_rest initiate_rest part_rest commit_rest abort_rest
all_sound = (
  put-line.sound,
  (
    get-line.sound,
    (
      head-line.sound,
      (
        delete-line.sound,
        (
          copy_line.sound,
          (
            list-line.sound,
            (
              initiate-line.sound,
              (part-line.sound, (commit-line.sound, (abort-line.sound, (uploads-line.sound, tt)))),
            ),
          ),
        ),
      ),
    ),
  ),
)

by-verb-sound : (vs : List Verb) → Each Sound vs → (l : Bytes) (e : Entry) (rest : Bytes) → by_verb vs l ≡ got e rest → (l ≡ print e ++ rest) × EntryOk e
by-verb-sound [] s l e rest h = no-got h
by-verb-sound (v ∷ vs) s l e rest h =
    by-test (begins v.0 l)
    (λ t. let o = s.0 (drop (length v.0) l) e rest (rw t at h) in (begins-true v.0 l t ∙ o.0, o.1))
    (λ t. by-verb-sound vs s.1 l e rest (rw t at h))

by-verb-complete : (e : Entry) → EntryOk e → by_verb verbs (print e) ≡ got e []
by-verb-complete (put t p d ps) ok = put-line.complete (t, (p, (d, ps))) ok
by-verb-complete (get p) ok = get-line.complete p ok
by-verb-complete (head p) ok = head-line.complete p ok
by-verb-complete (delete p) ok = delete-line.complete p ok
by-verb-complete (copy t p q) ok = copy_line.complete (t, (p, q)) ok
by-verb-complete (list p q) ok = list-line.complete (p, q) ok
by-verb-complete (initiate t p ps) ok = initiate-line.complete (t, (p, ps)) ok
by-verb-complete (part u n d) ok = part-line.complete (u, (n, d)) ok
by-verb-complete (commit u ns) ok = commit-line.complete (u, ns) ok
by-verb-complete (abort u) ok = abort-line.complete u ok
by-verb-complete (uploads p) ok = uploads-line.complete p ok

-- The theorems ---------------------------------------------------------------------------------------------------------

-- what is printed is parsed
pub printed-parsed : (e : Entry) (l : Bytes) → EntryOk e → print e ≡ l → parse l ≡ some e
unfolding parse
printed-parsed e l ok h = ap parse (sym h) ∙ ap whole (by-verb-complete e ok)

whole-some : (r : Read Entry) (e : Entry) → whole r ≡ some e → r ≡ got e []
whole-some (got x []) e h = ap (λ (y : Entry). got y []) (cc)
whole-some (got x (b ∷ l)) e h = let z : ◌≡◌ {A = ℕ} 0 1 = cc in absurd (omega arith)
whole-some no e h = let z : ◌≡◌ {A = ℕ} 0 1 = cc in absurd (omega arith)

-- what is parsed is printed
pub parsed-printed : (l : Bytes) (e : Entry) → parse l ≡ some e → (print e ≡ l) × EntryOk e
unfolding parse
parsed-printed l e h =
    let o = by-verb-sound verbs all_sound l e [] (whole-some (by_verb verbs l) e h) in
    (sym (o.0 ∙ append-nil (print e)), o.1)

-- no text stands for two entries
pub one_entry : (e e' : Entry) → EntryOk e → EntryOk e' → print e ≡ print e' → e ≡ e'
one_entry e e' ok ok' h =
    let a = printed-parsed e (print e') ok h in
    let b = printed-parsed e' (print e') ok' refl in
    cc

-- A line is a form exactly where it is the text of an entry and has at most 4,096 bytes ----------------------------------

pub line-printed : (l : Bytes) (e : Entry) → entry_of l ≡ some e → (print e ≡ l) × EntryOk e × (length l ≤ 4096)
unfolding entry_of
line-printed l e h =
    by-test (leb (length l) 4096)
    (λ t. let w = parsed-printed l e (rw t at h) in (w.0, w.1, leb-true (length l) 4096 t))
    (λ t. let n : none ≡ some e = rw t at h in let z : ◌≡◌ {A = ℕ} 0 1 = cc in absurd (omega arith))

pub printed-line : (e : Entry) (l : Bytes) → EntryOk e → print e ≡ l → length l ≤ 4096 → entry_of l ≡ some e
unfolding entry_of
printed-line e l ok h s = rw (le-leb (length l) 4096 s) (printed-parsed e l ok h)

-- a longer text is none
pub line-over : (l : Bytes) → 4096 < length l → entry_of l ≡ none
unfolding entry_of
line-over l h = rw (lt-leb (length l) 4096 h)
