-- Lists of exported calls, one after the other, as C makes them. Assumes nothing.
use Rattle.std.specs.Prelude.{ℕ, ◌≡◌, List, [], ◌∷◌, length}
use Rattle.machine.specs.Names.{Bytes}
use Rattle.machine.specs.Pairs.{pair_list}
use Rattle.machine.specs.Calls.{PUT, GET, HEAD, DELETE, COPY, LIST, INITIATE, PART, COMMIT, ABORT, UPLOADS, DELETE-OBJECTS, SWEEP, buffers, no_buffers}
use Rattle.machine.specs.PartLists.{part_list}
use Rattle.call_contract.specs.Answers.{places_in, left_over}
use Rattle.call_contract.specs.Made.{Memory, Made, MadeFresh}
use Rattle.rathnodi.specs.Exported.{numbered, numbered_with, Exported}
use Rattle.rathnodi.specs.Line.{ExportedLine}
use Rattle.c_history.specs.Events.{Event, alone, replied, line}

-- One exported function called, from one memory to another. Each line is what the function of that name ensures (crates/rathnodi/src).
pub data Step : Event → Memory → Memory → Type 0 where
  put : {t n : ℕ} {p d : Bytes} {m m' : Memory} (l : Bytes) → Made (PUT t p d (pair_list l)) m (numbered n) m' → Step (alone (PUT t p d (pair_list l)) n no_buffers) m m'
  get : {n : ℕ} {p b k o b' k' o' : Bytes} {m : Memory} → Exported (GET p b k) m o n (buffers b' k') o' m → Step (replied (GET p b k) o n (buffers b' k') o') m m
  head : {n : ℕ} {p k o k' o' : Bytes} {m : Memory} → Exported (HEAD p k) m o n (buffers [] k') o' m → Step (replied (HEAD p k) o n (buffers [] k') o') m m
  delete : {n : ℕ} {p : Bytes} {m m' : Memory} → Made (DELETE p) m (numbered n) m' → Step (alone (DELETE p) n no_buffers) m m'
  copy : {t n : ℕ} {p q : Bytes} {m m' : Memory} → Made (COPY t p q) m (numbered n) m' → Step (alone (COPY t p q) n no_buffers) m m'
  list : {n : ℕ} {p q b o b' o' : Bytes} {m : Memory} → Exported (LIST p q b) m o n (buffers b' []) o' m → Step (replied (LIST p q b) o n (buffers b' []) o') m m
  initiate : {t n : ℕ} {p o o' : Bytes} {m m' : Memory} (l : Bytes) → Exported (INITIATE t p (pair_list l)) m o n no_buffers o' m'
      → Step (replied (INITIATE t p (pair_list l)) o n no_buffers o') m m'
  part : {u i n : ℕ} {d o o' : Bytes} {m m' : Memory} → Exported (PART u i d) m o n no_buffers o' m' → Step (replied (PART u i d) o n no_buffers o') m m'
  commit : {u n : ℕ} {m m' : Memory} (l : Bytes) → Made (COMMIT u (part_list l)) m (numbered n) m' → Step (alone (COMMIT u (part_list l)) n no_buffers) m m'
  abort : {u n : ℕ} {m m' : Memory} → Made (ABORT u) m (numbered n) m' → Step (alone (ABORT u) n no_buffers) m m'
  uploads : {n : ℕ} {p b o b' o' : Bytes} {m : Memory} → Exported (UPLOADS p b) m o n (buffers b' []) o' m → Step (replied (UPLOADS p b) o n (buffers b' []) o') m m
  delete-objects : {n : ℕ} {names b b' : Bytes} {m m' : Memory} (l : Bytes) → Made (DELETE-OBJECTS names (places_in l) (left_over l) b) m (numbered_with n (buffers b' [])) m'
      → Step (alone (DELETE-OBJECTS names (places_in l) (left_over l) b) n (buffers b' [])) m m'
  sweep : {t most n : ℕ} {o o' : Bytes} {m m' : Memory} → Exported (SWEEP t most) m o n no_buffers o' m' → Step (replied (SWEEP t most) o n no_buffers o') m m'
  replay : {n : ℕ} {l b k o b' k' o' : Bytes} {m m' : Memory} → ExportedLine l (buffers b k) m o n (buffers b' k') o' m'
      → Step (line l (buffers b k) o n (buffers b' k') o') m m'

-- calls made one after the other, each lent the memory that the one before left
pub data CRun : List Event → Memory → Memory → Type 0 where
  stop : {m : Memory} → CRun [] m m
  call : {e : Event} {es : List Event} {m m₁ m₂ : Memory} → Step e m m₁ → CRun es m₁ m₂ → CRun (e ∷ es) m m₂

-- the same after rathnodi_fresh answered 0 over an arena of length A
pub record CFromFresh (A : ℕ) (es : List Event) (m : Memory) : Type 0 where
  pub lent : Memory
  pub start : Memory
  pub arena : length lent.arena ≡ A
  pub fresh : MadeFresh lent 0 start
  pub run : CRun es start m
