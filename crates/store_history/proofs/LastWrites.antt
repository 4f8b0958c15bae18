-- What every run from FRESH reads. Assumes nothing.
use Prim.Native.Nat.{ℕ}
use mathlib.Core.Path.{◌≡◌, sym, ap, ◌∙◌, subst}
use lib.ListN.{length}
use Rattle.machine.specs.Names.{Bytes}
use Rattle.machine.specs.State.{fresh}
use Rattle.machine.specs.Calls.{Call, GET, HEAD, LIST, Reply}
use Rattle.machine.specs.Steps.{reply}
use Rattle.machine.specs.Lists.{Trace, final}
use Rattle.machine.specs.Demand3.{calls}
use Rattle.machine_consistency.specs.LastWrites.{last_write}
use Rattle.machine_consistency.specs.Shown.{get_shows, head_shows, Objects, ReadsLastWrites}
use Rattle.machine_consistency.specs.Origins.{origin}
use Rattle.machine_consistency.proofs.Shown.{consistent as machine-consistent, get-shows, head-shows, list-shows}
use Rattle.machine_consistency.proofs.Origins.{origins}
use Rattle.mem_layout.proofs.StandsLaws.{stands-state, stands-whole}
use Rattle.call_contract.specs.Made.{Memory, state_in, meant_reply, Made}
use Rattle.store_history.specs.Runs.{FromFresh}
use Rattle.store_history.specs.LastWrites.{Consistent}
use Rattle.store_history.proofs.Running.{from-fresh}

module _ (A : ℕ) (t : Trace) (m : Memory) (f : FromFresh A t m) where
  -- a call made next answers as the machine does over the state that memory stands for
  answered : (c : Call) (r : Reply) (m' : Memory) → Made c m r m' → r ≡ reply (length m.arena) (state_in m) c
  unfolding meant_reply
  answered c r m' made = made.answers ∙ rw (stands-whole _ _ _ (from-fresh A t m f).1)

  held : Objects t (state_in m).O
  held =
      let s = from-fresh A t m f in
      rw (stands-state _ _ _ s.1) (subst (λ (x : Trace). Objects x (final A fresh (calls t)).O) (sym s.0) (machine-consistent A (calls t)).objects)

  got : (p b k : Bytes) (r : Reply) (m' : Memory) → Made (GET p b k) m r m' → r ≡ get_shows p b k (last_write p t)
  got p b k r m' made = answered (GET p b k) r m' made ∙ get-shows _ _ p b k _ (held.each p)

  headed : (p k : Bytes) (r : Reply) (m' : Memory) → Made (HEAD p k) m r m' → r ≡ head_shows p k (last_write p t)
  headed p k r m' made = answered (HEAD p k) r m' made ∙ head-shows _ _ p k _ (held.each p)

same_write : (p : Bytes) (t t₂ : Trace) → origin p t₂ ≡ origin p t → last_write p t₂ ≡ last_write p t
same_write p t t₂ e = sym (origins.enough p t₂) ∙ ap (last_write p) e ∙ origins.enough p t

pub consistent : (A : ℕ) (t : Trace) (m : Memory) → FromFresh A t m → Consistent A t m
consistent A t m f = record {
  objects = held A t m f;
  reads = subst ReadsLastWrites (sym (from-fresh A t m f).0) (machine-consistent A (calls t)).reads;
  get = got A t m f;
  head = headed A t m f;
  list = λ prefix suffix b r m' made. ((state_in m).O, held A t m f, answered A t m f (LIST prefix suffix b) r m' made ∙ list-shows _ _ prefix suffix b);
  same-origin = λ A₂ t₂ m₂ f₂ p e. let q = same_write p t t₂ e in record {
    get = λ b k r r₂ n n₂ made made₂. got A₂ t₂ m₂ f₂ p b k r₂ n₂ made₂ ∙ ap (get_shows p b k) q ∙ sym (got A t m f p b k r n made);
    head = λ k r r₂ n n₂ made made₂. headed A₂ t₂ m₂ f₂ p k r₂ n₂ made₂ ∙ ap (head_shows p k) q ∙ sym (headed A t m f p k r n made);
  };
}
