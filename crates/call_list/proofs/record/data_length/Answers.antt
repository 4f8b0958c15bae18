-- `call_list::record::data_length` meets its contract. Assumes nothing.
use borrow.Author.Rules.{rules}
use Rattle.mem_row.specs.Row.{span_at}
use Rattle.call_list.proofs.record.data_length.Goals as goal

pub pairs_size-requires : goal.pairs_size-requires
unfolding span_at
pairs_size-requires c = search rules
