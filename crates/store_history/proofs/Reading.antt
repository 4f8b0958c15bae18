-- The auditor's first question: only PUT, DELETE, COPY, COMMIT and DELETE_OBJECTS change what GET, HEAD and LIST answer. Assumes nothing.
use Prim.Native.Nat.{ℕ}
use native.Mathlib.Omega.{arith}
use mathlib.Core.Path.{◌≡◌, refl, sym, ap, ◌∙◌}
use mathlib.Core.Bool.{Bool, true, false, false≢true}
use mathlib.Core.Option.{Option, none, some}
use lib.ListN.{length}
use Rattle.base_order.specs.Order.{by_bytes}
use Rattle.machine.specs.Map.{is_some, Map, lookup}
use Rattle.machine.specs.Names.{Bytes}
use Rattle.machine.specs.State.{Object, State}
use Rattle.machine.specs.Calls.{Call, PUT, GET, HEAD, DELETE, COPY, LIST, INITIATE, PART, COMMIT, ABORT, UPLOADS, DELETE-OBJECTS, SWEEP, Reply, lent}
use Rattle.machine.specs.Steps.{act, reply, next}
use Rattle.machine.specs.Lists.{Trace}
use Rattle.machine.specs.Demand3.{kind, is_look}
use Rattle.machine.proofs.Outcome.{then-step}
use Rattle.machine_consistency.specs.LastWrites.{Change, change}
use Rattle.machine_consistency.specs.Shown.{list_shows}
use Rattle.machine_consistency.proofs.LastWrites.{Changed, act-changes}
use Rattle.machine_consistency.proofs.Shown.{get-shows, head-shows, list-shows}
use Rattle.call_contract.specs.Made.{Memory, whole_memory, state_in, meant_reply, meant_state, Made}
use Rattle.store_history.specs.Runs.{Run, stop, call}
use Rattle.store_history.specs.Questions.{changes_objects, ChangesNone, SameReads}

-- What a call that changes no object leaves --------------------------------------------------------------------------------

no_change : (s : State) (k : Option Change) (o : Map Bytes Object) → is_some k ≡ false → Changed s k o → o ≡ s.O
no_change s none o e h = h
no_change s (some x) o e h = absurd (false≢true (sym e))

objects-kept : (A : ℕ) (s : State) (c : Call) → changes_objects c ≡ false → (next A s c).O ≡ s.O
objects-kept A s c e =
    then-step _ (λ r s'. s'.O ≡ s.O) s (lent c) (act A s c) (act-changes A s c) (λ n. refl) (λ r out s' h. no_change s (change c) s'.O e h)

-- What GET, HEAD and LIST answer comes of the objects alone -------------------------------------------------------------------

looks-same : (A : ℕ) (s s' : State) (c : Call) → s'.O ≡ s.O → is_look (kind c) ≡ true → reply A s' c ≡ reply A s c
looks-same A s s' (PUT t p d ps) e l = absurd (false≢true l)
looks-same A s s' (GET p b k) e l = get-shows A s' p b k _ (ap (lookup by_bytes p) e) ∙ sym (get-shows A s p b k _ refl)
looks-same A s s' (HEAD p k) e l = head-shows A s' p k _ (ap (lookup by_bytes p) e) ∙ sym (head-shows A s p k _ refl)
looks-same A s s' (DELETE p) e l = absurd (false≢true l)
looks-same A s s' (COPY t p q) e l = absurd (false≢true l)
looks-same A s s' (LIST prefix suffix b) e l =
    list-shows A s' prefix suffix b ∙ ap (list_shows prefix suffix b) e ∙ sym (list-shows A s prefix suffix b)
looks-same A s s' (INITIATE t p ps) e l = absurd (false≢true l)
looks-same A s s' (PART u n d) e l = absurd (false≢true l)
looks-same A s s' (COMMIT u ns) e l = absurd (false≢true l)
looks-same A s s' (ABORT u) e l = absurd (false≢true l)
looks-same A s s' (UPLOADS prefix b) e l = absurd (false≢true l)
looks-same A s s' (DELETE-OBJECTS names ps left_over b) e l = absurd (false≢true l)
looks-same A s s' (SWEEP t n) e l = absurd (false≢true l)

-- Over memory -------------------------------------------------------------------------------------------------------------------

-- the calls GET, HEAD and LIST mean the same over both
Alike : Memory → Memory → Type 0
Alike m m' = (c : Call) → is_look (kind c) ≡ true → meant_reply c m' ≡ meant_reply c m

one_alike : (c : Call) (m : Memory) (r : Reply) (m' : Memory) → changes_objects c ≡ false → Made c m r m' → Alike m m'
unfolding Alike meant_reply meant_state
one_alike c m r m' e made k l = go (whole_memory m) refl
  where
    go : (b : Bool) → whole_memory m ≡ b → meant_reply k m' ≡ meant_reply k m
    go true w =
        let w' = made.keeps-whole w in
        let s : state_in m' ≡ next (length m.arena) (state_in m) c = made.state ∙ rw w in
        let o : (state_in m').O ≡ (state_in m).O = ap (λ (x : State). x.O) s ∙ objects-kept (length m.arena) (state_in m) c e in
        rw (w, w', made.arena-length) (looks-same (length m.arena) (state_in m) (state_in m') k o l)
    go false w =
        let one : r.result ≡ 1 = ap (λ (x : Reply). x.result) made.answers ∙ rw w in
        ap (meant_reply k) (made.refusal (λ z. let q = sym one ∙ z in omega (arith, q)))

run-alike : {t : Trace} {m m' : Memory} → Run t m m' → ChangesNone t → Alike m m'
unfolding Alike
run-alike stop h c l = refl
run-alike (call {c} {r} {t} {m} {m₁} {m₂} made rest) h k l = run-alike rest h.1 k l ∙ one_alike c m r m₁ h.0 made k l

-- Weighings that come as parts, uploads opened and aborted: none of these changes what is read. Only the COMMIT of a record shows it.
pub unread : {t : Trace} {m m' : Memory} → Run t m m' → ChangesNone t → SameReads m m'
unfolding SameReads Alike
unread run h c r r' n n' l made made' = made'.answers ∙ run-alike run h c l ∙ sym made.answers

-- E3: "a reader sees no object change"
pub sweep-unread : {stamp most : ℕ} {m m' : Memory} {r : Reply} → Made (SWEEP stamp most) m r m' → SameReads m m'
sweep-unread made = unread (call made stop) (refl, tt)
