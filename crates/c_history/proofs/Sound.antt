-- What each call promised, and the memory that calls keep sound. Assumes nothing.
use Prim.Native.Nat.{ℕ}
use native.Mathlib.Decide.{ℕ_discrete}
use mathlib.Core.Path.{◌≡◌, refl, sym, subst}
use mathlib.Core.Bool.{true}
use mathlib.Core.Option.{Option, none, some}
use lib.ListN.{length}
use Rattle.base_number.specs.Number.{AreBytes}
use Rattle.machine.specs.Names.{Bytes}
use Rattle.machine.specs.Calls.{Call, Buffers, Reply}
use Rattle.mem_layout.specs.Memory.{Stands}
use Rattle.mem_layout.proofs.WholeLaws.{whole-stands}
use Rattle.call_contract.specs.Made.{Memory, whole_memory, state_in, meant_reply, Made, MadeFresh}
use Rattle.c_reply.specs.Reply.{reply_length}
use Rattle.recording.specs.Entry.{Entry, call_of}
use Rattle.recording.specs.Parse.{entry_of}
use Rattle.rathnodi.specs.Exported.{numbered_with, Exported}
use Rattle.rathnodi.specs.Line.{buffers_of, ExportedLine}
use Rattle.c_history.specs.Events.{Event, alone, replied, line}
use Rattle.c_history.specs.Lists.{Step, put, get, head, delete, copy, list, initiate, part, commit, abort, uploads, delete-objects, sweep, replay}

-- what the function that was called promised
unfoldable pub Promised : Event → Memory → Memory → Type 0
Promised (alone k n b) m m' = Made k m (numbered_with n b) m'
Promised (replied k o n b o') m m' = Exported k m o n b o' m'
Promised (line l b o n b' o') m m' = ExportedLine l b m o n b' o' m'

pub promised : {e : Event} {m m' : Memory} → Step e m m' → Promised e m m'
unfolding Promised
promised (put l h) = h
promised (get h) = h
promised (head h) = h
promised (delete h) = h
promised (copy h) = h
promised (list h) = h
promised (initiate l h) = h
promised (part h) = h
promised (commit l h) = h
promised (abort h) = h
promised (uploads h) = h
promised (delete-objects l h) = h
promised (sweep h) = h
promised (replay h) = h

-- memory that stands for a valid state where it is whole
unfoldable pub Sound : Memory → Type 0
Sound m = whole_memory m ≡ true → Stands m.tables m.arena (state_in m)

-- memory of bytes is so
pub bytes-sound : (m : Memory) → AreBytes m.tables → Sound m
unfolding Sound
bytes-sound m b w = whole-stands m.tables m.arena b w

pub fresh-sound : (m m' : Memory) → MadeFresh m 0 m' → Sound m'
unfolding Sound
fresh-sound m m' made w = subst (Stands m'.tables m'.arena) (sym (made.state refl)) (made.bytes refl)

-- a call keeps it
made-sound : (k : Call) (m : Memory) (r : Reply) (m' : Memory) → Sound m → Made k m r m' → Sound m'
unfolding Sound
made-sound k m r m' h made = go (ℕ_discrete r.result 0)
  where
    go : Dec (r.result ≡ 0) → whole_memory m' ≡ true → Stands m'.tables m'.arena (state_in m')
    go (yes z) w = subst (Stands m'.tables m'.arena) (sym made.state) (made.bytes z)
    go (no z) w = subst Sound (sym (made.refusal z)) h w

exported-sound : (k : Call) (o : Bytes) (n : ℕ) (b : Buffers) (o' : Bytes) (m m' : Memory) → Sound m → Exported k m o n b o' m' → Sound m'
exported-sound k o n b o' m m' h x = go (ℕ_discrete (length o) reply_length)
  where
    go : Dec (length o ≡ reply_length) → Sound m'
    go (yes l) = made-sound k m (meant_reply k m) m' h (x.made l)
    go (no l) = subst Sound (sym (x.kept l)) h

pub promised-sound : (e : Event) (m m' : Memory) → Sound m → Promised e m m' → Sound m'
unfolding Promised
promised-sound (alone k n b) m m' h made = made-sound k m (numbered_with n b) m' h made
promised-sound (replied k o n b o') m m' h x = exported-sound k o n b o' m m' h x
promised-sound (line l b o n b' o') m m' h x = go (entry_of l) refl
  where
    go : (e : Option Entry) → entry_of l ≡ e → Sound m'
    go none q = subst Sound (sym (x.other q).3) h
    go (some e) q = exported-sound (call_of b.answer b.pairs e) o n (buffers_of e b') o' m m' h (x.form e q)
