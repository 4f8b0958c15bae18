-- Demand 3 of every run from FRESH. Assumes nothing.
use Prim.Native.Nat.{ℕ}
use mathlib.Core.Path.{◌≡◌, refl, sym, ap, ◌∙◌, subst}
use mathlib.Core.Bool.{true}
use mathlib.Core.List.{List, [], ◌∷◌, ◌++◌, append_assoc}
use Rattle.machine.specs.State.{fresh}
use Rattle.machine.specs.Calls.{Call, COMMIT, Reply}
use Rattle.machine.specs.Lists.{Trace, trace, final}
use Rattle.machine.specs.Demand3.{accepted, Leaves, calls, CommitsJoin, without, NeverCommitted, NoCommitAccepted, NeverFull, PartsUnseen, PartsUnseenUnlessCommitted, seen}
use Rattle.machine.proofs.Demand3.{demand3 as machine-demand3}
use Rattle.mem_layout.proofs.StandsLaws.{stands-state, stands-whole}
use Rattle.call_contract.specs.Made.{Memory, state_in}
use Rattle.store_history.specs.Runs.{Run, FromFresh}
use Rattle.store_history.specs.Demand3.{Committed, Demand3}
use Rattle.store_history.proofs.Running.{Halves, halves, from-fresh}

pub calls-append : (t₁ t₂ : Trace) → calls (t₁ ++ t₂) ≡ calls t₁ ++ calls t₂
calls-append [] t₂ = refl
calls-append (e ∷ t₁) t₂ = ap (λ (cs : List Call). e.0 ∷ cs) (calls-append t₁ t₂)

module _ (A : ℕ) (t : Trace) (m : Memory) (f : FromFresh A t m) where
  -- the run, cut after one of its calls
  cut-after : (before later : Trace) (c : Call) (r : Reply) → t ≡ before ++ (c, r) ∷ later → Halves (before ++ (c, r) ∷ []) later f.start m
  cut-after before later c r e =
      halves (before ++ (c, r) ∷ []) later f.start m
      (subst (λ (x : Trace). Run x f.start m) (e ∙ sym (append_assoc before ((c, r) ∷ []) later)) f.run)

  commits : (before later : Trace) (u : ℕ) (ns : List ℕ) (r : Reply) → t ≡ before ++ (COMMIT u ns, r) ∷ later → accepted r ≡ true → Committed A before u ns r later m
  unfolding CommitsJoin
  commits before later u ns r e ok =
      let h = cut-after before later (COMMIT u ns) r e in
      let g : FromFresh A (before ++ (COMMIT u ns, r) ∷ []) h.between = record { lent = f.lent; start = f.start; arena = f.arena; fresh = f.fresh; run = h.first } in
      let s = from-fresh A (before ++ (COMMIT u ns, r) ∷ []) h.between g in
      let q : state_in h.between ≡ final A fresh (calls before ++ COMMIT u ns ∷ []) =
      stands-state _ _ _ s.1 ∙ ap (final A fresh) (calls-append before ((COMMIT u ns, r) ∷ [])) in
      let l = (machine-demand3 A (calls t)).commits-join before later u ns r (sym (from-fresh A t m f).0 ∙ e) ok in
      record { left = h.between; reached = g; goes_on = h.second; leaves = subst (Leaves A before u ns) (sym q) l }

  module _ (u : ℕ) (t₂ : Trace) (m₂ : Memory) (f₂ : FromFresh A t₂ m₂) (e : calls t₂ ≡ without u (calls t)) where
    here : t ≡ trace A fresh (calls t)
    here = (from-fresh A t m f).0

    there : t₂ ≡ trace A fresh (without u (calls t))
    there = (from-fresh A t₂ m₂ f₂).0 ∙ ap (trace A fresh) e

    unseen : NeverCommitted u (calls t) → NeverFull t → NeverFull t₂ → seen t₂ ≡ seen t
    unfolding PartsUnseen
    unseen n r r₂ =
        ap seen there ∙ (machine-demand3 A (calls t)).parts-unseen u n (subst NeverFull here r) (subst NeverFull there r₂) ∙ sym (ap seen here)

    unseen-unless : NoCommitAccepted u t → NoCommitAccepted u t₂ → NeverFull t → NeverFull t₂ → seen t₂ ≡ seen t
    unfolding PartsUnseenUnlessCommitted
    unseen-unless n n₂ r r₂ =
        ap seen there
        ∙ (machine-demand3 A (calls t)).parts-unseen-unless-committed u (subst (NoCommitAccepted u) here n) (subst (NoCommitAccepted u) there n₂) (subst NeverFull here r) (subst NeverFull there r₂)
        ∙ sym (ap seen here)

pub demand3 : (A : ℕ) (t : Trace) (m : Memory) → FromFresh A t m → Demand3 A t m
demand3 A t m f =
    let s = from-fresh A t m f in
    record {
      answers = s.0;
      state = stands-state _ _ _ s.1;
      is_whole = stands-whole _ _ _ s.1;
      bytes = s.1;
      commits-join = commits A t m f;
      parts-unseen = unseen A t m f;
      parts-unseen-unless-committed = unseen-unless A t m f;
    }
