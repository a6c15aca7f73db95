use Rattle.std.proofs.Common.{map}
use Rattle.rob_branch.proofs.WalkLemmas.{whole_told}
use Rattle.rob_branch.proofs.leaf.is_whole_on.Goals as goal

pub returns : goal.returns
returns g c = record {
  test = whole_told c.args.names.now (map g.N.Exact.value c.args.plan.now) c.first_broken.result c.is_none.result
      c.is_none.ensures c.first_broken.ensures.first;
}
