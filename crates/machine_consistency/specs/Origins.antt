-- Where what is read at a path comes from: the calls and replies that its last write draws on. Assumes nothing.
use Rattle.std.specs.Prelude.{ℕ, ◌≡◌, Bool, true, false, ◌&&◌, cond, eqb}
use mathlib.Core.List.{[], ◌∷◌, reverse, Sublistᴰ}
use Rattle.std.proofs.Math.Option.{Option, none, some}
use Rattle.machine.specs.Map.{keep, Every}
use Rattle.machine.specs.Names.{Bytes}
use Rattle.machine.specs.Calls.{Answer}
use Rattle.machine.specs.Lists.{Trace}
use Rattle.machine.specs.Demand3.{Kind, looks, initiates, sends, commits, other, kind, accepted, answers, NoCommitAccepted}
use Rattle.machine_consistency.specs.LastWrites.{Change, sets, copies, joins, removes, change, written, is_to, last_of, last_write}

-- with this answer, the call opened the upload or sent it a part
abbrev pub builds : (upload : ℕ) → Answer → Kind → Bool
builds u a looks = false
builds u a (initiates t p m) = answers u a
builds u a (sends v n d) = eqb u v
builds u a (commits v) = false
builds u a other = false

-- the accepted INITIATE and PARTs of an upload
abbrev pub of_upload : (upload : ℕ) → Trace → Trace
of_upload u t = keep (λ c r. accepted r && builds u r.answer (kind c)) t

-- what a change draws on: a copy on where its source comes from, parts that are joined on the INITIATE and the PARTs, others on nothing
abbrev pub draws : (origins : Bytes → Trace) (before : Trace) → Option Change → Trace
draws origins before none = []
draws origins before (some (sets p x)) = []
draws origins before (some (copies t p q)) = origins p
draws origins before (some (joins u ns)) = of_upload u before
draws origins before (some (removes ps)) = []

-- of calls and replies newest first: the last write of a path, with what it draws on
abbrev pub origin_of : (newestFirst : Trace) (path : Bytes) → Trace
origin_of [] p = []
origin_of (e ∷ t) p = cond (is_to p (written (last_of t) (reverse t) e)) (e ∷ draws (origin_of t) t (change e.0)) (origin_of t p)

-- the calls and replies that what stands at a path comes from, oldest first
unfoldable pub origin : (path : Bytes) → Trace → Trace
origin p t = reverse (origin_of (reverse t) p)

-- Of the origin, over all calls and replies: nothing but the origin of a path shows at it.
pub record Origin : Type 0 where
  -- all else may be taken out
  pub enough : (p : Bytes) (t : Trace) → last_write p (origin p t) ≡ last_write p t
  -- it is made by taking out calls alone
  pub picked : (p : Bytes) (t : Trace) → Sublistᴰ (origin p t) t
  -- no refused call is in it
  pub accepts : (p : Bytes) (t : Trace) → Every (λ c r. accepted r ≡ true) (origin p t)
  -- of an upload that no accepted COMMIT names, open or aborted, neither the INITIATE nor a PART is in it
  pub uncommitted : (u : ℕ) (p : Bytes) (t : Trace) → NoCommitAccepted u t → Every (λ c r. builds u r.answer (kind c) ≡ false) (origin p t)
