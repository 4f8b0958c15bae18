-- `base_md5::block::rounds` meets its contract: its rows are those of the tables (`Rows`). Assumes nothing.
use Rattle.std.proofs.Common.{ap, ◌∙◌}
use Rattle.base_md5.specs.Md5.{table, round}
use Rattle.base_md5.specs.declared.block.Round.TheVariants.{First, Second, Third, Fourth}
use Rattle.base_md5.proofs.Rows.{sixteen}
use Rattle.base_md5.proofs.block.rounds.Goals as goal

pub returns : goal.returns
unfolding table
returns c m e =
    let args = c.args in
    sixteen Fourth m args.x args.t _ e c.requires c.row-v-13.ensures c.row-v-14.ensures c.row-v-15.ensures c.row-v-16.ensures
    ∙ ap (round Fourth m) (sixteen Third m args.x args.t _ e c.requires c.row-v-9.ensures c.row-v-10.ensures c.row-v-11.ensures c.row-v-12.ensures
    ∙ ap (round Third m) (sixteen Second m args.x args.t _ e c.requires c.row-v-5.ensures c.row-v-6.ensures c.row-v-7.ensures c.row-v-8.ensures
    ∙ ap (round Second m) (sixteen First m args.x args.t _ e c.requires c.row-v.ensures c.row-v-2.ensures c.row-v-3.ensures c.row-v-4.ensures)))
