-- `put_at`, the step of PUT and COPY: its result by what code has at hand, and what result 0 shows. Assumes nothing.
use Prim.Native.Nat.{ℕ, ◌+◌, ◌-◌, ◌≤◌, ◌<◌}
use mathlib.Core.Path.{◌≡◌, sym, ap, ◌∙◌}
use mathlib.Core.Bool.{cond}
use mathlib.Core.Option.{none, some}
use native.Mathlib.Omega.{arith}
use borrow.Author.Tests.{le-leb, lt-leb}
use lib.Dec.{leb}
use lib.ListN.{length}
use Rattle.base_order.specs.Order.{by_bytes}
use Rattle.base_order.proofs.OrderLaws.{bytes as by_bytes_lem}
use Rattle.machine.specs.Map.{Map, lookup}
use Rattle.machine.specs.Names.{Bytes}
use Rattle.machine.specs.Pairs.{pairs_held}
use Rattle.machine.specs.State.{Object, State, object_length, held, counted, with_object}
use Rattle.machine.specs.Calls.{nothing, no_buffers, accept, tableFull, arenaFull}
use Rattle.machine.specs.Steps.{plain_object, put_at}
use Rattle.machine.specs.Valid.{Valid}
use Rattle.machine.proofs.MapSums.{length-insert, total-share}
use Rattle.machine.proofs.Counts.{put-counted, held-put}
use Rattle.call_contract.specs.Made.{result_of}
use Rattle.call_contract.proofs.Judging.{result-pass, result-stop, result-last, passed}

-- an object is a share of what is held
pub object-share : (s : State) (p : Bytes) (x : Object) → lookup by_bytes p s.O ≡ some x → object_length x ≤ held s
unfolding held
object-share s p x f = omega (arith, total-share by_bytes_lem object_length p x s.O f)

module _ (A : ℕ) (s : State) (t : ℕ) (p d : Bytes) (m : Map Bytes Bytes) where
  abbrev s' : State
  s' = with_object s p (plain_object t d m)

  -- how many bytes the object takes
  abbrev n : ℕ
  n = pairs_held m + length d

  -- result 0
  pub put-at-accepted : result_of (put_at A s t p d m) ≡ 0 → put_at A s t p d m ≡ accept nothing no_buffers s'
  unfolding put_at
  put-at-accepted e =
      let one = passed (counted s') tableFull _ e in
      one.1 ∙ (passed (leb (held s') A) arenaFull (accept nothing no_buffers s') (sym (ap result_of one.1) ∙ e)).1

  module _ (v : Valid A s) where
    room : length s'.O ≤ 256 → (kept : ℕ) → kept + n ≡ held s' → result_of (put_at A s t p d m) ≡ cond (leb (kept + n) A) 0 5
    unfolding put_at
    room l kept e =
        result-pass (counted s') tableFull _ (put-counted A s v p _ ∙ le-leb _ _ l)
        ∙ result-last (leb (held s') A) arenaFull nothing no_buffers s' ∙ ap (λ (k : ℕ). cond (leb k A) 0 5) (sym e)

    -- in place of another object
    pub room-old : (x : Object) → lookup by_bytes p s.O ≡ some x → result_of (put_at A s t p d m) ≡ cond (leb (held s - object_length x + n) A) 0 5
    room-old x f =
        let w = v.paths in
        let l : length s'.O ≤ 256 = omega (arith, rw f at (length-insert by_bytes_lem p (plain_object t d m) s.O)) in
        room l (held s - object_length x) (omega (arith, rw f at (held-put s p (plain_object t d m)), object-share s p x f))

    -- at a path that has none
    pub room-new : lookup by_bytes p s.O ≡ none → length s.O < 256 → result_of (put_at A s t p d m) ≡ cond (leb (held s + n) A) 0 5
    room-new f few =
        let l : length s'.O ≤ 256 = omega (arith, rw f at (length-insert by_bytes_lem p (plain_object t d m) s.O)) in
        room l (held s) (omega (arith, rw f at (held-put s p (plain_object t d m))))

    pub room-none : lookup by_bytes p s.O ≡ none → 256 ≤ length s.O → result_of (put_at A s t p d m) ≡ 4
    unfolding put_at
    room-none f full =
        let l : 256 < length s'.O = omega (arith, rw f at (length-insert by_bytes_lem p (plain_object t d m) s.O)) in
        result-stop (counted s') tableFull _ (put-counted A s v p _ ∙ lt-leb _ _ l)
