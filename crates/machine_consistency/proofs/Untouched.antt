-- What a call leaves, while no other writes the path.
-- Assumes nothing.
use mathlib.Core.Path.{◌≡◌, sym, ap, ◌∙◌}
use mathlib.Core.Bool.{true}
use mathlib.Core.List.{[], ◌∷◌, ◌++◌, append-nil, append_assoc}
use mathlib.Core.Option.{none}
use Rattle.base_order.proofs.OrderLaws.{same_self}
use Rattle.machine.specs.Names.{Bytes}
use Rattle.machine.specs.Calls.{Call, PUT, DELETE, COPY, COMMIT, DELETE-OBJECTS, Reply}
use Rattle.machine.specs.Lists.{Trace}
use Rattle.machine_consistency.specs.LastWrites.{written, left, last_write, writes_to, Untouched, LastWriteByCall}
use Rattle.machine_consistency.proofs.LastWrites.{last_snoc}

untouched : (p : Bytes) (before after : Trace) → Untouched p before after → last_write p (before ++ after) ≡ last_write p before
untouched p before [] h = ap (last_write p) (append-nil before)
untouched p before (e ∷ after) h =
    ap (last_write p) (sym (append_assoc before (e ∷ []) after))
    ∙ untouched p (before ++ e ∷ []) after h.1
    ∙ last_snoc p before e
    ∙ rw h.0

never : (p : Bytes) (t : Trace) → Untouched p [] t → last_write p t ≡ none
unfolding last_write
never p t h = untouched p [] t h

last : (p : Bytes) (before after : Trace) (e : Call × Reply) → writes_to p before e ≡ true → Untouched p (before ++ e ∷ []) after →
    last_write p (before ++ e ∷ after) ≡ left (written (λ q. last_write q before) before e)
last p before after e w h =
    ap (last_write p) (sym (append_assoc before (e ∷ []) after))
    ∙ untouched p (before ++ e ∷ []) after h
    ∙ last_snoc p before e
    ∙ rw w

pub last-write : LastWriteByCall
last-write = record {
  never = never;
  put = λ t p d ps r before after ok h. last p before after (PUT t p d ps, r) (rw (ok, same_self p)) h ∙ rw ok;
  delete = λ p r before after ok h. last p before after (DELETE p, r) (rw (ok, same_self p)) h ∙ rw ok;
  delete-objects = λ names ps left_over b p r before after ok in_List h. last p before after (DELETE-OBJECTS names ps left_over b, r) (rw (ok, in_List)) h ∙ rw ok;
  copy = λ t q p r before after ok h. last p before after (COPY t q p, r) (rw (ok, same_self p)) h ∙ rw ok;
  commit = λ u ns x r before after ok e h. last x.path before after (COMMIT u ns, r) (rw (ok, e, same_self x.path)) h ∙ rw (ok, e);
}
