-- Demand 3 of every list of exported calls from FRESH, by what C hears. Assumes nothing.
use Prim.Native.Nat.{ℕ}
use mathlib.Core.List.{List}
use Rattle.base_number.specs.Number.{AreBytes}
use Rattle.call_contract.specs.Made.{Memory}
use Rattle.store_history.specs.Runs.{Run, FromFresh}
use Rattle.store_history.specs.Demand3.{Demand3}
use Rattle.store_history.proofs.Demand3 as history
use Rattle.c_history.specs.Events.{Event, heard}
use Rattle.c_history.specs.Lists.{CRun, CFromFresh}
use Rattle.c_history.proofs.Sound.{bytes-sound, fresh-sound}
use Rattle.c_history.proofs.Hearing.{sound-run}

-- over any memory of bytes, damaged or not
pub is-run : {es : List Event} {m m' : Memory} → AreBytes m.tables → CRun es m m' → Run (heard es) m m'
is-run {m} b run = sound-run (bytes-sound m b) run

pub from-fresh : (A : ℕ) (es : List Event) (m : Memory) → CFromFresh A es m → FromFresh A (heard es) m
from-fresh A es m f =
    record {
      lent = f.lent;
      start = f.start;
      arena = f.arena;
      fresh = f.fresh;
      run = sound-run (fresh-sound f.lent f.start f.fresh) f.run;
    }

pub demand3 : (A : ℕ) (es : List Event) (m : Memory) → CFromFresh A es m → Demand3 A (heard es) m
demand3 A es m f = history.demand3 A (heard es) m (from-fresh A es m f)
