-- `mem_scan_rows::pairs_ok` meets its contract: a block that begins with pairs has few lengths. Assumes nothing.
use mathlib.Core.Path.{sym, ◌∙◌}
use Rattle.pairs_stored.proofs.Blocks.{block}
use Rattle.mem_scan_rows.proofs.pairs_ok.Goals as goal

pub returns-then-h-most-clause-few : goal.returns-then-h-most-clause-few
returns-then-h-most-clause-few c e = (block c.args.lengths.now c.args.content.now (sym c.block_ok.ensures ∙ e)).few
