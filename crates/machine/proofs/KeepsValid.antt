-- Every step keeps the rules and the ceilings, and FRESH starts with them. Counts and `held` are those that the step checked, or fall.
-- Assumes nothing.
use Prim.Native.Nat.{ℕ, ◌+◌, ◌≤◌}
use mathlib.Core.Path.{◌≡◌}
use mathlib.Core.Bool.{true, ◌&&◌}
use mathlib.Core.List.{List, [], ◌∷◌}
use mathlib.Core.Option.{some}
use native.Mathlib.Omega.{arith}
use borrow.Author.Tests.{leb-true}
use lib.Dec.{leb}
use lib.ListN.{length}
use Rattle.base_order.proofs.OrderLaws.{numbers, bytes}
use Rattle.machine.specs.Map.{Map, by_number, lookup, total, Every}
use Rattle.machine.specs.Names.{Bytes, new_path_ok, stamp_ok, stored_part_ok, last_upload_number}
use Rattle.machine.specs.Pairs.{kept_ok}
use Rattle.machine.specs.Digest.{length-md5}
use Rattle.machine.specs.State.{Object, Upload, State, fresh, with_object, without_object, without_upload, with_part, parts_in, held, counted}
use Rattle.machine.specs.Calls.{Call, Answer}
use Rattle.machine.specs.Steps.{new_part, next}
use Rattle.machine.specs.Lists.{final}
use Rattle.machine.specs.Valid.{ObjectOk, PartOk, UploadOk, Valid}
use Rattle.machine.specs.Demand3.{Kind}
use Rattle.machine.proofs.Options.{both}
use Rattle.machine.proofs.MapLaws.{ascending-insert, ascending-remove, every-insert, every-remove, every-lookup}
use Rattle.machine.proofs.MapSums.{total-remove, length-remove}
use Rattle.machine.proofs.Counts.{held-delete, held-abort}
use Rattle.machine.proofs.Rules.{new-stored, part-stored}
use Rattle.machine.proofs.Effects.{Sound, Effects, stop, sets, removes, closes, with_opened, with_sent, Does, opens-upload, sets-part, has-effects, step-does}

-- the ceilings, each by itself
pub record Counted (s : State) : Type 0 where
  pub paths : length s.O ≤ 256
  pub opens : length s.U ≤ 16
  pub parts : total parts_in s.U ≤ 256

pub counts : (s : State) → counted s ≡ true → Counted s
unfolding counted
counts s h =
    let a = both _ _ h in
    let b = both _ _ a.0 in
    record { paths = leb-true _ _ b.0; opens = leb-true _ _ b.1; parts = leb-true _ _ a.1 }

with-object-valid : (A : ℕ) (s : State) (p : Bytes) (x : Object) → Sound A p x (with_object s p x) → Valid A s → Valid A (with_object s p x)
with-object-valid A s p x h v = let q = counts _ h.counts in record {
  objects = ascending-insert bytes p x s.O v.objects;
  object = every-insert bytes ObjectOk p x s.O h.object v.object;
  uploads = v.uploads;
  upload = v.upload;
  first = v.first;
  last = v.last;
  paths = q.paths;
  opens = q.opens;
  parts = q.parts;
  room = h.room;
}

pub without-object-valid : (A : ℕ) (s : State) (p : Bytes) → Valid A s → Valid A (without_object s p)
without-object-valid A s p v = record {
  objects = ascending-remove bytes p s.O v.objects;
  object = every-remove bytes ObjectOk p s.O v.object;
  uploads = v.uploads;
  upload = v.upload;
  first = v.first;
  last = v.last;
  paths = omega (arith, v.paths, length-remove bytes p s.O);
  opens = v.opens;
  parts = v.parts;
  room = omega (arith, v.room, held-delete s p);
}

pub without-upload-valid : (A : ℕ) (s : State) (u : ℕ) → Valid A s → Valid A (without_upload s u)
without-upload-valid A s u v = record {
  objects = v.objects;
  object = v.object;
  uploads = ascending-remove numbers u s.U v.uploads;
  upload = every-remove numbers (UploadOk s.N) u s.U v.upload;
  first = v.first;
  last = v.last;
  paths = v.paths;
  opens = omega (arith, v.opens, length-remove numbers u s.U);
  parts = omega (arith, v.parts, total-remove numbers parts_in u s.U);
  room = omega (arith, v.room, held-abort s u);
}

every-change : {K X : Type 0} (P Q : K → X → Type 0) (m : Map K X) → ((k : K) (x : X) → P k x → Q k x) → Every P m → Every Q m
every-change P Q [] f a = tt
every-change P Q (e ∷ m) f a = (f e.0 e.1 a.0, every-change P Q m f a.1)

upload-later : (N : ℕ) (m : Map ℕ Upload) → Every (UploadOk N) m → Every (UploadOk (N + 1)) m
upload-later N m a =
    every-change (UploadOk N) (UploadOk (N + 1)) m
    (λ k x o. record { low = o.low; high = let l = o.high in omega arith; path = o.path; stamp = o.stamp; pairs = o.pairs; sorted = o.sorted; each = o.each }) a

pub part-ok : (N u n : ℕ) (x : Upload) (d : Bytes) → stored_part_ok n ≡ true → UploadOk N u x → UploadOk N u (with_part x n (new_part d))
part-ok N u n x d h o = record {
  low = o.low;
  high = o.high;
  path = o.path;
  stamp = o.stamp;
  pairs = o.pairs;
  sorted = ascending-insert numbers n _ x.parts o.sorted;
  each = every-insert numbers PartOk n _ x.parts (record { number = h; digest = length-md5 d }) o.each;
}

opened-valid : (A : ℕ) (s : State) (t : ℕ) (p : Bytes) (m : Map Bytes Bytes) → stamp_ok t && new_path_ok p ≡ true → kept_ok m ≡ true →
    counted (with_opened s t p m) ≡ true → leb (held (with_opened s t p m)) A ≡ true → leb s.N last_upload_number ≡ true → Valid A s → Valid A (with_opened s t p m)
opened-valid A s t p m h k c r l v = let b = both _ _ h in let q = counts _ c in record {
  objects = v.objects;
  object = v.object;
  uploads = ascending-insert numbers s.N _ s.U v.uploads;
  upload = every-insert numbers (UploadOk (s.N + 1)) s.N _ s.U
      (record { low = v.first; high = omega arith; path = new-stored p b.1; stamp = b.0; pairs = k; sorted = tt; each = tt })
      (upload-later s.N s.U v.upload);
  first = let f = v.first in omega arith;
  last = let m = leb-true s.N last_upload_number l in omega arith;
  paths = q.paths;
  opens = q.opens;
  parts = q.parts;
  room = leb-true _ _ r;
}

pub sent-valid : (A : ℕ) (s : State) (u : ℕ) (x : Upload) (n : ℕ) (d : Bytes) → stored_part_ok n ≡ true → lookup by_number u s.U ≡ some x →
    counted (with_sent s u x n d) ≡ true → leb (held (with_sent s u x n d)) A ≡ true → Valid A s → Valid A (with_sent s u x n d)
sent-valid A s u x n d h e c r v = let q = counts _ c in record {
  objects = v.objects;
  object = v.object;
  uploads = ascending-insert numbers u _ s.U v.uploads;
  upload = every-insert numbers (UploadOk s.N) u _ s.U
      (part-ok s.N u n x d h (every-lookup numbers (UploadOk s.N) u x s.U v.upload e)) v.upload;
  first = v.first;
  last = v.last;
  paths = q.paths;
  opens = q.opens;
  parts = q.parts;
  room = leb-true _ _ r;
}

effects-valid : {A : ℕ} {s a b : State} → Valid A s → Effects A s a b → Valid A a → Valid A b
effects-valid v stop w = w
effects-valid v (sets p x h more) w = effects-valid v more (with-object-valid _ _ p x (h v) w)
effects-valid v (removes p more) w = effects-valid v more (without-object-valid _ _ p w)
effects-valid v (closes u x e more) w = effects-valid v more (without-upload-valid _ _ u w)

does-valid : {A : ℕ} {s s' : State} {k : Kind} {r : Answer} → Valid A s → Does A s k r s' → Valid A s'
does-valid v (opens-upload t p m h k c r l) = opened-valid _ _ t p m h k c r l v
does-valid v (sets-part u x n d h e c r) = sent-valid _ _ u x n d (part-stored n h) e c r v
does-valid v (has-effects q w more) = effects-valid v more v

pub next-valid : (A : ℕ) (s : State) (c : Call) → Valid A s → Valid A (next A s c)
next-valid A s c v = step-does A s (λ r s'. Valid A s') c (λ n. v) (λ r out s' d. does-valid v d)

pub fresh-valid : (A : ℕ) → Valid A fresh
unfolding held
fresh-valid A = record {
  objects = tt;
  object = tt;
  uploads = tt;
  upload = tt;
  first = omega arith;
  last = omega arith;
  paths = omega arith;
  opens = omega arith;
  parts = omega arith;
  room = omega arith;
}

pub final-valid : (A : ℕ) (s : State) (cs : List Call) → Valid A s → Valid A (final A s cs)
final-valid A s [] v = v
final-valid A s (c ∷ cs) v = final-valid A (next A s c) cs (next-valid A s c v)
