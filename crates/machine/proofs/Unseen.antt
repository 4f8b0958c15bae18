-- Demand 3's second claim: an upload's PART calls show in no GET, HEAD or LIST, where no accepted COMMIT names the upload.
-- With and without them the states are alike but for that upload's parts.
-- Assumes nothing.
use Prim.Native.Nat.{ℕ}
use mathlib.Core.Path.{◌≡◌, refl, sym, ap₂, ◌∙◌}
use mathlib.Core.Bool.{Bool, true, false, cond, false≢true}
use mathlib.Core.List.{List, [], ◌∷◌}
use Rattle.machine.specs.State.{State, fresh}
use Rattle.machine.specs.Calls.{Call, Buffers, Reply, Outcome, refuse, accept, lent}
use Rattle.machine.specs.Steps.{act, reply_of, after, reply, next}
use Rattle.machine.specs.Lists.{Trace, trace}
use Rattle.machine.specs.Demand3.{Kind, kind, looks, initiates, sends, commits, other, accepted, part_of, commit_of, is_look, without, NeverCommitted, NoCommitAccepted, NeverFull, seen, PartsUnseen, PartsUnseenUnlessCommitted}
use Rattle.machine.proofs.Alike.{Like, like-self, like-chain, Went, step_went, part-went}

-- A refused COMMIT of the upload changes neither state
refused-same : (s : State) (b : Buffers) (o : Outcome) → accepted (reply_of b o) ≡ false → after s o ≡ s
refused-same s b (refuse n) h = refl
refused-same s b (accept a out s') h = absurd (false≢true (sym h))

commit-no-look : (u : ℕ) (k : Kind) → commit_of u k ≡ true → is_look k ≡ true → ⊥
commit-no-look u looks h l = false≢true h
commit-no-look u (initiates t p m) h l = false≢true h
commit-no-look u (sends v n d) h l = false≢true h
commit-no-look u (commits v) h l = false≢true l
commit-no-look u other h l = false≢true h

refused-went : (A u : ℕ) (s s' : State) (c : Call) → Like u s s' → commit_of u (kind c) ≡ true → accepted (reply A s c) ≡ false → accepted (reply A s' c) ≡ false → Went A u s s' c
refused-went A u s s' c l h r r' = record {
  like = rw (refused-same s (lent c) (act A s c) r, refused-same s' (lent c) (act A s' c) r') l;
  shows = λ e. absurd (commit-no-look u (kind c) h e);
}

-- the rest of the list, from states that are alike
abbrev Rest : ℕ → ℕ → List Call → Type 0
Rest A u cs =
    (s s' : State) → Like u s s' → NoCommitAccepted u (trace A s cs) → NoCommitAccepted u (trace A s' (without u cs)) →
    NeverFull (trace A s cs) → NeverFull (trace A s' (without u cs)) → seen (trace A s' (without u cs)) ≡ seen (trace A s cs)

dropped : (A u : ℕ) (s s' : State) (c : Call) (cs : List Call) → Rest A u cs → Like u s s' →
    NoCommitAccepted u (trace A s (c ∷ cs)) → NoCommitAccepted u (trace A s' (without u cs)) →
    NeverFull (trace A s (c ∷ cs)) → NeverFull (trace A s' (without u cs)) →
    part_of u (kind c) ≡ true → seen (trace A s' (without u cs)) ≡ seen (trace A s (c ∷ cs))
dropped A u s s' c cs ih l n n' r r' e =
    let w = part-went A u s c e in
    rw w.1 (ih (next A s c) s' (like-chain u (next A s c) s s' w.0 l) n.1 n' r.2 r')

kept : (A u : ℕ) (s s' : State) (c : Call) (cs : List Call) → Rest A u cs → Like u s s' →
    NoCommitAccepted u (trace A s (c ∷ cs)) → NoCommitAccepted u (trace A s' (c ∷ without u cs)) →
    NeverFull (trace A s (c ∷ cs)) → NeverFull (trace A s' (c ∷ without u cs)) →
    part_of u (kind c) ≡ false → seen (trace A s' (c ∷ without u cs)) ≡ seen (trace A s (c ∷ cs))
kept A u s s' c cs ih l n n' r r' e = go (step (commit_of u (kind c)) refl) (is_look (kind c)) refl
  where
    step : (b : Bool) → commit_of u (kind c) ≡ b → Went A u s s' c
    step true q = refused-went A u s s' c l q (n.0 q) (n'.0 q)
    step false q = step_went A u s s' c l e q (r.0, r.1) (r'.0, r'.1)

    go : Went A u s s' c → (b : Bool) → is_look (kind c) ≡ b → seen (trace A s' (c ∷ without u cs)) ≡ seen (trace A s (c ∷ cs))
    go w true q =
        rw q (ap₂ (λ (x : Reply) (t : Trace). (c, x) ∷ t) (w.shows q) (ih (next A s c) (next A s' c) w.like n.1 n'.1 r.2 r'.2))
    go w false q = rw q (ih (next A s c) (next A s' c) w.like n.1 n'.1 r.2 r'.2)

unseen : (A u : ℕ) (cs : List Call) → Rest A u cs
unseen A u [] s s' l n n' r r' = refl
unseen A u (c ∷ cs) s s' l n n' r r' = go (unseen A u cs) (part_of u (kind c)) refl
  where
    go : Rest A u cs → (b : Bool) → part_of u (kind c) ≡ b → seen (trace A s' (without u (c ∷ cs))) ≡ seen (trace A s (c ∷ cs))
    go ih true e = rw e (dropped A u s s' c cs ih l n (rw e at n') r (rw e at r') e)
    go ih false e = rw e (kept A u s s' c cs ih l n (rw e at n') r (rw e at r') e)

pub parts-unseen-unless-committed : (A : ℕ) (cs : List Call) → PartsUnseenUnlessCommitted A cs
unfolding PartsUnseenUnlessCommitted
parts-unseen-unless-committed A cs u n n' r r' = unseen A u cs fresh fresh (like-self u fresh) n n' r r'

-- Where no COMMIT names the upload, no accepted one does, in either list
never-accepted : (A u : ℕ) (s : State) (cs : List Call) → NeverCommitted u cs → NoCommitAccepted u (trace A s cs)
never-accepted A u s [] n = tt
never-accepted A u s (c ∷ cs) n = (λ e. absurd (false≢true (sym n.0 ∙ e)), never-accepted A u (next A s c) cs n.1)

never-without : (u : ℕ) (cs : List Call) → NeverCommitted u cs → NeverCommitted u (without u cs)
never-without u [] n = tt
never-without u (c ∷ cs) n = go (never-without u cs n.1) (part_of u (kind c))
  where
    go : NeverCommitted u (without u cs) → (b : Bool) → NeverCommitted u (cond b (without u cs) (c ∷ without u cs))
    go i true = i
    go i false = (n.0, i)

pub parts-unseen : (A : ℕ) (cs : List Call) → PartsUnseen A cs
unfolding PartsUnseen
parts-unseen A cs u n r r' =
    unseen A u cs fresh fresh (like-self u fresh) (never-accepted A u fresh cs n) (never-accepted A u fresh (without u cs) (never-without u cs n)) r r'
