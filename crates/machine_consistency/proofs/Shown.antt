-- Every GET, HEAD and LIST of a list of calls shows the last writes before it. Assumes nothing.
use Prim.Native.Nat.{ℕ}
use mathlib.Core.Path.{◌≡◌, refl, sym, ap, ◌∙◌, subst}
use mathlib.Core.Bool.{Bool, true, false, ◌&&◌, cond}
use mathlib.Core.List.{List, [], ◌∷◌, ◌++◌}
use mathlib.Core.Option.{Option, none, some}
use lib.Dec.{leb}
use lib.ListN.{length}
use Rattle.base_order.specs.Order.{by_bytes}
use Rattle.base_order.proofs.OrderLaws.{bytes}
use Rattle.machine.specs.Map.{lookup, records}
use Rattle.machine.specs.Names.{Bytes, request_path_ok}
use Rattle.machine.specs.Pairs.{encode_pairs}
use Rattle.machine.specs.Etags.{absent}
use Rattle.machine.specs.State.{Object, State, fresh}
use Rattle.machine.specs.Calls.{Call, GET, HEAD, LIST, Answer, metadata, counts, Buffers, buffers, no_buffers, Reply, badRequest, notFound, bufferShort, Outcome, accept, ◌else◌then◌, given}
use Rattle.machine.specs.Steps.{written, about, with_pairs, listed, list_record, object_at, act, reply_of, reply}
use Rattle.machine.specs.Lists.{Trace, trace, final}
use Rattle.machine.specs.Demand3.{calls}
use Rattle.machine.proofs.MapLaws.{same_map}
use Rattle.machine.proofs.KeepsValid.{fresh-valid, final-valid}
use Rattle.machine.proofs.Traces.{cut}
use Rattle.machine_consistency.specs.Shown.{refused_by, shown, data_shown, metadata_shown, get_shows, head_shows, list_shows, Objects, OneMap, Consistent}
use Rattle.machine_consistency.proofs.LastWrites.{reads-last-write}

-- What GET, HEAD and LIST answer over a state ----------------------------------------------------------------------------

-- the tests of both buffers, one after the other
write-shows : (a : Answer) (out b : Buffers) (s : State) →
    reply_of b (leb (length out.answer) (length b.answer) else bufferShort then leb (length out.pairs) (length b.pairs) else bufferShort then accept a out s)
    ≡ shown a out b
unfolding ◌else◌then◌
write-shows a out b s = go (leb (length out.answer) (length b.answer)) (leb (length out.pairs) (length b.pairs))
  where
    go : (x y : Bool) → reply_of b (x else bufferShort then y else bufferShort then accept a out s)
        ≡ cond (x && y) (record { result = 0; answer = a; buffers = written out b }) (refused_by 7 b)
    go true true = refl
    go true false = refl
    go false y = refl

-- a test of the path, then what is found there
path-shows : (b : Buffers) (ok : Bool) (x y : Option Object) (k : Object → Outcome) (z : Reply) → x ≡ y → reply_of b (given y notFound k) ≡ z →
    reply_of b (ok else badRequest then given x notFound k) ≡ cond ok z (refused_by 2 b)
unfolding ◌else◌then◌
path-shows b true x y k z e h = ap (λ (w : Option Object). reply_of b (given w notFound k)) e ∙ h
path-shows b false x y k z e h = refl

get-found : (b m : Bytes) (s : State) (x : Option Object) →
    reply_of (buffers b m) (given x notFound λ y. leb (length y.content) (length b) else bufferShort then with_pairs y y.content m s) ≡ data_shown (buffers b m) x
unfolding given
get-found b m s none = refl
get-found b m s (some x) = write-shows (about x) (buffers x.content (encode_pairs x.pairs)) (buffers b m) s

head-found : (m : Bytes) (s : State) (x : Option Object) → reply_of (buffers [] m) (given x notFound λ y. with_pairs y [] m s) ≡ metadata_shown (buffers [] m) x
unfolding given ◌else◌then◌
head-found m s none = refl
head-found m s (some x) = write-shows (about x) (buffers [] (encode_pairs x.pairs)) (buffers [] m) s

pub get-shows : (A : ℕ) (s : State) (p b m : Bytes) (y : Option Object) → lookup by_bytes p s.O ≡ y → reply A s (GET p b m) ≡ get_shows p b m y
unfolding act object_at encode_pairs
get-shows A s [] b m y e = write-shows (metadata 0 0 absent 0 0) no_buffers (buffers b m) s
get-shows A s (c ∷ p) b m y e = path-shows (buffers b m) (request_path_ok (c ∷ p)) _ y _ _ e (get-found b m s y)

pub head-shows : (A : ℕ) (s : State) (p m : Bytes) (y : Option Object) → lookup by_bytes p s.O ≡ y → reply A s (HEAD p m) ≡ head_shows p m y
unfolding act object_at encode_pairs ◌else◌then◌
head-shows A s [] m y e = write-shows (metadata 0 0 absent 0 0) no_buffers (buffers [] m) s
head-shows A s (c ∷ p) m y e = path-shows (buffers [] m) (request_path_ok (c ∷ p)) _ y _ _ e (head-found m s y)

pub list-shows : (A : ℕ) (s : State) (prefix suffix b : Bytes) → reply A s (LIST prefix suffix b) ≡ list_shows prefix suffix b s.O
unfolding act ◌else◌then◌
list-shows A s prefix suffix b =
    let l = listed prefix suffix s.O in
    let out = records list_record l in
    write-shows (counts (length l) (length out)) (buffers out []) (buffers b []) s

-- The claims of a list of calls ------------------------------------------------------------------------------------------

objects : (A : ℕ) (cs : List Call) → Objects (trace A fresh cs) (final A fresh cs).O
objects A cs = record { sorted = (final-valid A fresh cs (fresh-valid A)).objects; each = reads-last-write A cs }

pub one_map : OneMap
one_map t o o' h h' = same_map bytes o o' h.sorted h'.sorted λ p. h.each p ∙ sym (h'.each p)

-- what a call of the list answers, and what its state there holds
module _ (A : ℕ) (cs : List Call) (before after : Trace) (c : Call) (r : Reply) (e : trace A fresh cs ≡ before ++ (c, r) ∷ after) where
  abbrev there : State
  there = final A fresh (calls before)

  replied : reply A there c ≡ r
  replied = (cut A fresh cs before after c r e).replied

  objects-there : Objects before there.O
  objects-there = subst (λ (t : Trace). Objects t there.O) (cut A fresh cs before after c r e).first (objects A (calls before))

pub consistent : (A : ℕ) (cs : List Call) → Consistent A cs
consistent A cs = record {
  objects = objects A cs;
  reads = record {
    get = λ before after p b m r e. sym (replied A cs before after (GET p b m) r e)
        ∙ get-shows A _ p b m _ ((objects-there A cs before after (GET p b m) r e).each p);
    head = λ before after p m r e. sym (replied A cs before after (HEAD p m) r e)
        ∙ head-shows A _ p m _ ((objects-there A cs before after (HEAD p m) r e).each p);
    list = λ before after prefix suffix b r e. (
      (final A fresh (calls before)).O,
      objects-there A cs before after (LIST prefix suffix b) r e,
      sym (replied A cs before after (LIST prefix suffix b) r e) ∙ list-shows A _ prefix suffix b,
    );
  };
}
