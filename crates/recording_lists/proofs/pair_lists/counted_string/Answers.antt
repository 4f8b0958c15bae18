-- `recording_lists::pair_lists::counted_string` meets its contract. Assumes nothing.
use Prim.Native.Nat.{◌-◌}
use native.Mathlib.Omega.{arith}
use lib.ListN.{length}
use Rattle.recording_lists.proofs.PairSteps.{no-quote, no-string, read_length, a-string, no_longer, room-left}
use Rattle.recording_lists.proofs.pair_lists.counted_string.Goals as goal

pub returns-in_err-digits : goal.returns-in_err-digits
returns-in_err-digits c =
    let a = c.args in
    rw c.from_residual.ensures (no-quote a.s.now a.out.now a.at a.n c.in_err-digits.ensures, omega arith, omega arith)

pub returns-in_err-text : goal.returns-in_err-text
returns-in_err-text c =
    let a = c.args in
    let q = c.in_ok-digits.ensures in
    rw c.from_residual-in_err-text.ensures (no-string a.s.now a.out.now a.at a.n q.0 q.1 (rw q.2 at c.in_err-text.ensures.0), omega arith, omega arith)

pub overflow_sub-text : goal.overflow_sub-text
overflow_sub-text c =
    let a = c.args in
    let q = c.in_ok-digits.ensures in
    let t = c.in_ok-text in
    omega (arith, read_length a.s.now a.out.now a.at a.n q.0 q.1 c.decode.new.out t.text.value t.text.next (omega arith) (omega (arith, t.ensures.2, c.decode.auto.out)) (rw q.2 at t.ensures.0))

pub overflow_sub-text-2 : goal.overflow_sub-text-2
overflow_sub-text-2 c =
    let a = c.args in
    let q = c.in_ok-digits.ensures in
    let t = c.in_ok-text in
    omega (arith, read_length a.s.now a.out.now a.at a.n q.0 q.1 c.decode.new.out t.text.value t.text.next (omega arith) (omega (arith, t.ensures.2, c.decode.auto.out)) (rw q.2 at t.ensures.0))

pub returns : goal.returns
returns c =
    let a = c.args in
    let q = c.in_ok-digits.ensures in
    let t = c.in_ok-text in
    let e = rw q.2 at t.ensures.0 in
    let k = c.short-k in
    let n = read_length a.s.now a.out.now a.at a.n q.0 q.1 c.decode.new.out t.text.value t.text.next (omega arith) (omega (arith, t.ensures.2, c.decode.auto.out)) e in
    let j = no_longer a.n t.text.value _ k.result n k.ensures in
    rw c.from.ensures (
      a-string a.s.now a.out.now a.at a.n q.0 q.1 c.decode.new.out t.text.value t.text.next (omega arith) (omega (arith, t.ensures.2, c.decode.auto.out)) e k.result k.ensures,
      room-left a.n t.text.value k.result (length a.s.now - t.text.next) a.at (length a.s.now) q.0 j (rw q.2 at t.ensures.1),
      omega (arith, j, t.ensures.2),
    )
