-- What a test that the code made says of the same test in a definition. Assumes nothing.
use mathlib.Core.Path.{◌≡◌, sym, ◌∙◌}
use mathlib.Core.Bool.{Bool, true, false, not, and-true}
use borrow.Author.Tests.{eq-eqb, ne_eqb, le-leb, lt-leb, lt-ltb, le-ltb, not-true, not-false}

pub ruleset tests = (eq-eqb, ne_eqb, le-leb, lt-leb, lt-ltb, le-ltb, and-true)

-- what a branch on a call's answer r says of the test x that the call's contract cites
pub said-no : {r x : Bool} → r ≡ x → not r ≡ true → x ≡ false
said-no e h = sym e ∙ not-true _ h

pub said-yes : {r x : Bool} → r ≡ x → not r ≡ false → x ≡ true
said-yes e h = sym e ∙ not-false _ h
