-- `names_utf8::letter` meets its contract. Assumes nothing.
use mathlib.Core.Path.{sym, ap, ◌≡◌}
use mathlib.Core.Bool.{not}
use Prim.Native.Nat.{◌+◌, ◌<◌}
use native.Mathlib.Omega.{arith}
use lib.ListN.{get_or}
use Rattle.names_utf8.specs.Letters.{width_of}
use Rattle.machine.proofs.Tests.{said-no, said-yes}
use Rattle.names_utf8.proofs.LetterLaws.{second-no, second-yes, is-cut-off, is-short, is-run, is-no-second, is-two, is-no-third, is-three, is-no-fourth, is-four}
use Rattle.names_utf8.proofs.letter.Goals as goal

pub returns-then-run-gt0 : goal.returns-then-run-gt0
returns-then-run-gt0 c =
    let p = c.args.p.now in
    let i = c.args.i in
    let known : get_or p i 0 < 256 = omega (arith, c.type_inv.p i) in
    (omega arith, is-run p i known c.pairs-run.result c.pairs-run.ensures c.if-run-gt0.true)

pub returns-then-p-i : goal.returns-then-p-i
returns-then-p-i c =
    let p = c.args.p.now in
    let i = c.args.i in
    let w = c.in_ok-w.w in
    let e : w ≡ width_of (get_or p i 0) = c.in_ok-w.ensures.1 in
    let known : get_or p i 0 < 256 = omega (arith, c.type_inv.p i) in
    is-cut-off p i known (omega arith) (omega arith)

pub returns-then-w-lt2 : goal.returns-then-w-lt2
returns-then-w-lt2 c =
    let p = c.args.p.now in
    let i = c.args.i in
    let w = c.in_ok-w.w in
    let e : w ≡ width_of (get_or p i 0) = c.in_ok-w.ensures.1 in
    let known : get_or p i 0 < 256 = omega (arith, c.type_inv.p i) in
    (omega arith, is-short p i known w e (omega arith) (omega arith))

pub returns-then-not-between : goal.returns-then-not-between
returns-then-not-between c =
    let p = c.args.p.now in
    let i = c.args.i in
    let w = c.in_ok-w.w in
    let e : w ≡ width_of (get_or p i 0) = c.in_ok-w.ensures.1 in
    let known : get_or p i 0 < 256 = omega (arith, c.type_inv.p i) in
    is-no-second p i known (omega arith) (omega arith) (second-no (get_or p i 0) c.least.result c.most.result (get_or p (i + 1) 0) c.between.result c.between.ensures c.least.ensures c.most.ensures (ap not c.if-not-between.true))

pub returns-then-w-lt3 : goal.returns-then-w-lt3
returns-then-w-lt3 c =
    let p = c.args.p.now in
    let i = c.args.i in
    let w = c.in_ok-w.w in
    let e : w ≡ width_of (get_or p i 0) = c.in_ok-w.ensures.1 in
    let known : get_or p i 0 < 256 = omega (arith, c.type_inv.p i) in
    (omega arith, is-two p i known w e (omega arith) (omega arith) (second-yes (get_or p i 0) c.least.result c.most.result (get_or p (i + 1) 0) c.between.result c.between.ensures c.least.ensures c.most.ensures (ap not c.if-not-between.false)))

pub returns-then-not-between-2 : goal.returns-then-not-between-2
returns-then-not-between-2 c =
    let p = c.args.p.now in
    let i = c.args.i in
    let w = c.in_ok-w.w in
    let e : w ≡ width_of (get_or p i 0) = c.in_ok-w.ensures.1 in
    let known : get_or p i 0 < 256 = omega (arith, c.type_inv.p i) in
    is-no-third p i known (omega arith) (omega arith) (said-no c.between-2.ensures (ap not c.if-not-between-2.true))

pub returns-then-w-lt4 : goal.returns-then-w-lt4
returns-then-w-lt4 c =
    let p = c.args.p.now in
    let i = c.args.i in
    let w = c.in_ok-w.w in
    let e : w ≡ width_of (get_or p i 0) = c.in_ok-w.ensures.1 in
    let known : get_or p i 0 < 256 = omega (arith, c.type_inv.p i) in
    (omega arith, is-three p i known w e (omega arith) (omega arith) (second-yes (get_or p i 0) c.least.result c.most.result (get_or p (i + 1) 0) c.between.result c.between.ensures c.least.ensures c.most.ensures (ap not c.if-not-between.false)) (said-yes c.between-2.ensures (ap not c.if-not-between-2.false)))

pub returns-then-not-between-3 : goal.returns-then-not-between-3
returns-then-not-between-3 c =
    let p = c.args.p.now in
    let i = c.args.i in
    let w = c.in_ok-w.w in
    let e : w ≡ width_of (get_or p i 0) = c.in_ok-w.ensures.1 in
    let known : get_or p i 0 < 256 = omega (arith, c.type_inv.p i) in
    is-no-fourth p i known (omega arith) (omega arith) (said-no c.between-3.ensures (ap not c.if-not-between-3.true))

pub returns : goal.returns
returns c =
    let p = c.args.p.now in
    let i = c.args.i in
    let w = c.in_ok-w.w in
    let e : w ≡ width_of (get_or p i 0) = c.in_ok-w.ensures.1 in
    let known : get_or p i 0 < 256 = omega (arith, c.type_inv.p i) in
    (omega arith, is-four p i known w e (omega arith) (omega arith) (second-yes (get_or p i 0) c.least.result c.most.result (get_or p (i + 1) 0) c.between.result c.between.ensures c.least.ensures c.most.ensures (ap not c.if-not-between.false)) (said-yes c.between-2.ensures (ap not c.if-not-between-2.false)) (said-yes c.between-3.ensures (ap not c.if-not-between-3.false)))

pub returns-in_err-w : goal.returns-in_err-w
returns-in_err-w c =
    let p = c.args.p.now in
    let i = c.args.i in
    let known : get_or p i 0 < 256 = omega (arith, c.type_inv.p i) in
    let none : width_of (get_or p i 0) ≡ 0 = c.in_err-w.ensures in
    rw c.from_residual.ensures (is-short p i known 0 (sym none) (omega arith) (omega arith))
