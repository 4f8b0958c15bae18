-- `call_copy::source_digest` meets its contract: the digest of the part of the arena that holds the data. Assumes nothing.
use mathlib.Core.Path.{ap, ◌∙◌}
use native.Mathlib.Omega.{arith}
use Rattle.base_md5.specs.Md5.{md5}
use Rattle.mem_edit_copy.proofs.Source.{front-inside, row_inside, block_inside}
use Rattle.call_copy.proofs.Sources.{source-there, block-small, pairs-within, data-read}
use Rattle.call_copy.proofs.source_digest.Goals as goal

pub read_head-h-requires : goal.read_head-h-requires
read_head-h-requires c =
    let o = source-there _ _ _ _ c.args.memory.bytes c.args.memory.is_whole c.requires.place.1 c.requires.found in
    omega (arith, front-inside _ _ _ _ o)

pub pairs_size-requires : goal.pairs_size-requires
pairs_size-requires c = row_inside _ _ _ _ (source-there _ _ _ _ c.args.memory.bytes c.args.memory.is_whole c.requires.place.1 c.requires.found)

pub overflow_add-from : goal.overflow_add-from
overflow_add-from c =
    let o = source-there _ _ _ _ c.args.memory.bytes c.args.memory.is_whole c.requires.place.1 c.requires.found in
    let h = c.read_head-h in
    omega (arith, block-small _ _ _ _ o _ h.ensures, pairs-within _ _ _ _ o _ h.ensures _ c.pairs_size.ensures)

pub overflow_add-to : goal.overflow_add-to
overflow_add-to c =
    let o = source-there _ _ _ _ c.args.memory.bytes c.args.memory.is_whole c.requires.place.1 c.requires.found in
    omega (arith, block-small _ _ _ _ o _ c.read_head-h.ensures)

pub slice_bounds-digest-count : goal.slice_bounds-digest-count
slice_bounds-digest-count c =
    let o = source-there _ _ _ _ c.args.memory.bytes c.args.memory.is_whole c.requires.place.1 c.requires.found in
    omega (arith, pairs-within _ _ _ _ o _ c.read_head-h.ensures _ c.pairs_size.ensures)

pub slice_bounds-digest-start : goal.slice_bounds-digest-start
slice_bounds-digest-start c =
    let o = source-there _ _ _ _ c.args.memory.bytes c.args.memory.is_whole c.requires.place.1 c.requires.found in
    omega (arith, pairs-within _ _ _ _ o _ c.read_head-h.ensures _ c.pairs_size.ensures)

pub slice_bounds-digest-end : goal.slice_bounds-digest-end
slice_bounds-digest-end c =
    block_inside _ _ _ _ (source-there _ _ _ _ c.args.memory.bytes c.args.memory.is_whole c.requires.place.1 c.requires.found) _ c.read_head-h.ensures

pub returns : goal.returns
returns c q is =
    let o = source-there _ _ q _ c.args.memory.bytes c.args.memory.is_whole is c.requires.found in
    c.digest.ensures ∙ ap md5 (data-read _ _ _ _ o _ c.read_head-h.ensures _ c.pairs_size.ensures)
