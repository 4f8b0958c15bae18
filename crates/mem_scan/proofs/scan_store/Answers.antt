-- `mem_scan::scan_store` meets its contract: memory is whole where both scans are good, and its rows stand where they say. Assumes nothing.
use mathlib.Core.Path.{◌≡◌, ◌∙◌}
use mathlib.Core.Bool.{false}
use native.Mathlib.Omega.{arith}
use Rattle.mem_layout.specs.Memory.{tables_length, whole}
use Rattle.machine.specs.Pairs.{pairs_most}
use Rattle.mem_scan.proofs.Ends.{front-bad, front-inside, uploads-bad, uploads-good}
use Rattle.mem_scan.proofs.scan_store.Goals as goal

pub returns-in_err-uploads : goal.returns-in_err-uploads
returns-in_err-uploads c =
    let a = c.args in
    let no : whole a.tables.now a.arena.now ≡ false = front-bad tables_length pairs_most a.tables.now a.arena.now _ c.scan_front.ensures c.in_err-uploads.was in
    record { found = rw no c.from_residual.ensures; whole = rw c.from_residual.ensures tt; not_whole = rw c.from_residual.ensures no }

pub scan_uploads-requires : goal.scan_uploads-requires
scan_uploads-requires c =
    let a = c.args in
    front-inside tables_length pairs_most a.tables.now a.arena.now _ c.scan_front.ensures _ c.in_ok-uploads.was (omega arith)

pub returns-in_err-end : goal.returns-in_err-end
returns-in_err-end c =
    let a = c.args in
    let no : whole a.tables.now a.arena.now ≡ false = uploads-bad tables_length pairs_most a.tables.now a.arena.now _ c.scan_front.ensures _ c.in_ok-uploads.was _ c.scan_uploads.ensures c.in_err-end.was in
    record { found = rw no c.from_residual-in_err-end.ensures; whole = rw c.from_residual-in_err-end.ensures tt; not_whole = rw c.from_residual-in_err-end.ensures no }

pub returns : goal.returns
returns c =
    let a = c.args in
    let w = uploads-good tables_length pairs_most a.tables.now a.arena.now _ c.scan_front.ensures _ c.in_ok-uploads.was _ c.scan_uploads.ensures _ c.in_ok-end.was in
    record { found = rw (w.0, w.1); whole = w; not_whole = tt }
