-- `call_initiate::initiate_room` meets its contract: the readers say what the checks ask. Assumes nothing.
use mathlib.Core.Path.{◌≡◌, refl}
use native.Mathlib.Omega.{arith}
use Rattle.std.proofs.Common.{rules, Err}
use Rattle.machine.specs.Pairs.{pair_list}
use Rattle.machine.proofs.PairLaws.{formed-is}
use Rattle.call_types.specs.Numbers.{number_of}
use Rattle.call_contract.proofs.MadeLaws.{refusal-not-zero}
use Rattle.call_initiate.proofs.Initiating.{header-inside, held-inside, full, no_room, used-up, opened}
use Rattle.call_initiate.proofs.initiate_room.Goals as goal

pub returns-then-open-ge-UPLOADS_MOST-clause-judged : goal.returns-then-open-ge-UPLOADS_MOST-clause-judged
returns-then-open-ge-UPLOADS_MOST-clause-judged c =
    let a = c.args in
    let m = a.memory.whole in
    let n = c.counts-open.result in
    full m.tables.now m.arena.now m.bytes m.is_whole (pair_list a.pairs.now) c.requires n.uploads c.counts-open.ensures.uploads c.if-open-ge-UPLOADS_MOST.true

pub held-n-requires : goal.held-n-requires
held-n-requires c = formed-is (pair_list c.args.pairs.now) c.requires

pub arena_judge-requires : goal.arena_judge-requires
arena_judge-requires c = let a = c.args in
    let m = a.memory.whole in held-inside m.tables.now m.arena.now m.bytes m.is_whole c.rows_end-end.result c.rows_end-end.ensures

pub returns-in_err-arena_judge-clause-judged : goal.returns-in_err-arena_judge-clause-judged
returns-in_err-arena_judge-clause-judged c =
    let a = c.args in
    let m = a.memory.whole in
    let n = c.counts-open.result in
    let x = c.in_err-arena_judge.field-0.0 in
    let told : c.from_residual.result ≡ Err x = search rules in
    rw told (no_room m.tables.now m.arena.now m.bytes m.is_whole (pair_list a.pairs.now) c.requires n.uploads c.counts-open.ensures.uploads (omega arith) c.rows_end-end.result c.rows_end-end.ensures c.held-n.result (number_of x) c.held-n.ensures c.in_err-arena_judge.ensures (refusal-not-zero x))

pub read_header-header-requires : goal.read_header-header-requires
read_header-header-requires c = let a = c.args in
    let m = a.memory.whole in header-inside m.tables.now m.arena.now m.bytes m.is_whole

pub returns-then-header-gt4294967295-clause-judged : goal.returns-then-header-gt4294967295-clause-judged
returns-then-header-gt4294967295-clause-judged c =
    let a = c.args in
    let m = a.memory.whole in
    let n = c.counts-open.result in
    used-up m.tables.now m.arena.now m.bytes m.is_whole (pair_list a.pairs.now) c.requires n.uploads c.counts-open.ensures.uploads (omega arith) c.rows_end-end.result c.rows_end-end.ensures c.held-n.result 0 c.held-n.ensures c.in_ok-arena_judge.ensures refl
    c.read_header-header.result c.read_header-header.ensures c.if-header-gt4294967295.true

pub returns-clause-judged : goal.returns-clause-judged
returns-clause-judged c =
    let a = c.args in
    let m = a.memory.whole in
    let n = c.counts-open.result in
    opened m.tables.now m.arena.now m.bytes m.is_whole (pair_list a.pairs.now) c.requires n.uploads c.counts-open.ensures.uploads (omega arith) c.rows_end-end.result c.rows_end-end.ensures c.held-n.result 0 c.held-n.ensures c.in_ok-arena_judge.ensures refl
    c.read_header-header.result c.read_header-header.ensures (omega arith)
