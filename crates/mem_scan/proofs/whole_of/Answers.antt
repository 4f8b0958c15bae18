-- `mem_scan::whole_of` meets its contract: memory is whole where both scans are good. Assumes nothing.
use mathlib.Core.Path.{sym, ◌∙◌}
use Rattle.mem_scan.proofs.Ends.{front-bad, front-inside, uploads-said}
use Rattle.mem_scan.proofs.whole_of.Goals as goal

pub returns-in_default : goal.returns-in_default
returns-in_default c =
    let a = c.args in
    sym (front-bad a.length a.most a.tables.now a.arena.now _ c.scan_front.ensures c.in_default.is)

pub scan_uploads-requires : goal.scan_uploads-requires
scan_uploads-requires c = front-inside c.args.length c.args.most c.args.tables.now c.args.arena.now _ c.scan_front.ensures _ c.in-Some.is c.requires

pub returns : goal.returns
returns c =
    let a = c.args in
    c.is_some.ensures ∙ uploads-said a.length a.most a.tables.now a.arena.now _ c.scan_front.ensures _ c.in-Some.is _ c.scan_uploads.ensures
