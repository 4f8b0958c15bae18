-- `call_get::head_whole` meets its contract: the reply by what the path names. Assumes nothing.
use mathlib.Core.Path.{◌≡◌, ap, ◌∙◌}
use Rattle.std.proofs.Common.{rules, Ok, Err}
use Rattle.call_get.proofs.Replies.{head-refused, head-root, holds, head-found}
use Rattle.call_get.proofs.head_whole.Goals as goal

pub returns-in_err-look_up : goal.returns-in_err-look_up
returns-in_err-look_up c =
    let told : c.from_residual.result ≡ Err c.in_err-look_up.field-0.0 = search rules in
    rw told (head-refused c.args.memory.tables.now c.args.memory.arena.now c.args.path.now c.look_up.result c.look_up.ensures c.args.pairs.now _ c.in_err-look_up.was)

pub head_object-requires : goal.head_object-requires
head_object-requires c =
    holds c.args.memory.tables.now c.args.memory.arena.now c.args.path.now c.look_up.result c.look_up.ensures c.args.memory.bytes c.args.memory.is_whole _ _ (c.in_ok-look_up.was ∙ ap Ok c.in-Object.is)

pub returns-in-Root : goal.returns-in-Root
returns-in-Root c =
    head-root c.args.memory.tables.now c.args.memory.arena.now c.args.path.now c.look_up.result c.look_up.ensures c.root.result c.root.ensures (c.in_ok-look_up.was ∙ ap Ok c.in-Root.is) c.args.pairs.now

pub returns-in-Object : goal.returns-in-Object
returns-in-Object c =
    head-found c.args.memory.tables.now c.args.memory.arena.now c.args.path.now c.look_up.result c.look_up.ensures c.args.memory.bytes c.args.memory.is_whole _ _ (c.in_ok-look_up.was ∙ ap Ok c.in-Object.is) c.args.pairs.now _ c.head_object.ensures
