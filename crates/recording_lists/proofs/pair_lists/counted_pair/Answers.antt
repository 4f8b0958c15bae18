-- `recording_lists::pair_lists::counted_pair` meets its contract. Assumes nothing.
use native.Mathlib.Omega.{arith}
use Rattle.recording_lists.proofs.OnePair.{no-bracket, no_key, no-space, no_value, no_end, a_pair}
use Rattle.recording_lists.proofs.pair_lists.counted_pair.Goals as goal

pub returns-in_err-inside : goal.returns-in_err-inside
returns-in_err-inside c =
    let a = c.args in
    rw c.from_residual.ensures (no-bracket a.s.now a.out.now a.n a.at c.in_err-inside.ensures, omega arith, omega arith)

pub returns-in_err-key : goal.returns-in_err-key
returns-in_err-key c =
    let a = c.args in
    let p = c.in_ok-inside.ensures in
    rw c.from_residual-in_err-key.ensures (no_key a.s.now a.out.now a.n a.at p.0 p.1 (rw p.2 at c.in_err-key.ensures.0), omega arith, omega arith)

pub returns-in_err-second : goal.returns-in_err-second
returns-in_err-second c =
    let a = c.args in
    let p = c.in_ok-inside.ensures in
    let k = c.in_ok-key in
    rw c.from_residual-in_err-second.ensures (
      no-space a.s.now a.out.now a.n a.at p.0 p.1 c.counted_string.new.out k.key.value k.key.next (rw p.2 at k.ensures.0) c.in_err-second.ensures,
      omega arith,
      omega arith,
    )

pub returns-in_err-both : goal.returns-in_err-both
returns-in_err-both c =
    let a = c.args in
    let p = c.in_ok-inside.ensures in
    let k = c.in_ok-key in
    let q = c.in_ok-second.ensures in
    rw c.from_residual-in_err-both.ensures (
      no_value a.s.now a.out.now a.n a.at p.0 p.1 c.counted_string.new.out k.key.value k.key.next (rw p.2 at k.ensures.0) q.0 q.1
          (rw q.2 at c.in_err-both.ensures.0),
      omega arith,
      omega arith,
    )

pub returns-in_err-next : goal.returns-in_err-next
returns-in_err-next c =
    let a = c.args in
    let p = c.in_ok-inside.ensures in
    let k = c.in_ok-key in
    let q = c.in_ok-second.ensures in
    let v = c.in_ok-both in
    rw c.from_residual-in_err-next.ensures (
      no_end a.s.now a.out.now a.n a.at p.0 p.1 c.counted_string.new.out k.key.value k.key.next (rw p.2 at k.ensures.0) q.0 q.1
          c.counted_string-2.new.out v.both.value v.both.next (rw q.2 at v.ensures.0) c.in_err-next.ensures,
      omega arith,
      omega arith,
    )

pub returns : goal.returns
returns c =
    let a = c.args in
    let p = c.in_ok-inside.ensures in
    let k = c.in_ok-key in
    let q = c.in_ok-second.ensures in
    let v = c.in_ok-both in
    let r = c.in_ok-next.ensures in
    rw r.2 (
      a_pair a.s.now a.out.now a.n a.at p.0 p.1 c.counted_string.new.out k.key.value k.key.next (rw p.2 at k.ensures.0) q.0 q.1
          c.counted_string-2.new.out v.both.value v.both.next (rw q.2 at v.ensures.0) r.0 r.1,
      omega (arith, k.ensures.1, v.ensures.1),
      omega (arith, v.ensures.2),
    )
