-- A step through its checks: its outcome where each is passed or not, and what a result of 0 shows. Assumes nothing.
use mathlib.Core.Path.{◌≡◌, refl, ap}
use mathlib.Core.Bool.{Bool, true, false, cond}
use mathlib.Core.Option.{Option, none, some}
use Rattle.machine.specs.State.{State}
use Rattle.machine.specs.Calls.{Answer, Buffers, Refusal, Outcome, refuse, accept, code, ◌else◌then◌, given}
use Rattle.machine.proofs.Outcome.{code-not-zero}
use Rattle.call_contract.specs.Made.{result_of}

-- A test ---------------------------------------------------------------------------------------------------------------

module _ (b : Bool) (n : Refusal) (o : Outcome) where
  pub pass : b ≡ true → (b else n then o) ≡ o
  unfolding ◌else◌then◌
  pass e = rw e

  pub stop : b ≡ false → (b else n then o) ≡ refuse n
  unfolding ◌else◌then◌
  stop e = rw e

  -- the result number
  pub result-pass : b ≡ true → result_of (b else n then o) ≡ result_of o
  result-pass e = ap result_of (pass e)

  pub result-stop : b ≡ false → result_of (b else n then o) ≡ code n
  result-stop e = ap result_of (stop e)

-- result 0: the test was passed
pub passed : (b : Bool) (n : Refusal) (o : Outcome) → result_of (b else n then o) ≡ 0 → (b ≡ true) × ((b else n then o) ≡ o)
unfolding ◌else◌then◌
passed true n o e = (refl, refl)
passed false n o e = absurd (code-not-zero n e)

-- the last test: the result number
pub result-last : (b : Bool) (n : Refusal) (a : Answer) (out : Buffers) (s : State) → result_of (b else n then accept a out s) ≡ cond b 0 (code n)
unfolding ◌else◌then◌
result-last true n a out s = refl
result-last false n a out s = refl

-- A search -------------------------------------------------------------------------------------------------------------

module _ {X : Type 0} (m : Option X) (n : Refusal) (k : X → Outcome) where
  pub found : (x : X) → m ≡ some x → given m n k ≡ k x
  unfolding given
  found x e = rw e

  pub missing : m ≡ none → given m n k ≡ refuse n
  unfolding given
  missing e = rw e

  pub result-found : (x : X) → m ≡ some x → result_of (given m n k) ≡ result_of (k x)
  result-found x e = ap result_of (found x e)

  pub result-missing : m ≡ none → result_of (given m n k) ≡ code n
  result-missing e = ap result_of (missing e)

-- result 0: there was one
pub was-found : {X : Type 0} (m : Option X) (n : Refusal) (k : X → Outcome) → result_of (given m n k) ≡ 0 → (x : X) × (m ≡ some x) × (given m n k ≡ k x)
unfolding given
was-found none n k e = absurd (code-not-zero n e)
was-found (some x) n k e = (x, refl, refl)
