use Rattle.rob_gen.proofs.MadeLemmas.{need_is}
use Rattle.rob_gen.proofs.needs.need.Goals as goal

pub returns : goal.returns
returns g c = record {
  made =
      need_is g.N.Exact.value c.args.place c.in_ok-name.name c.in_ok-left.left c.in_ok-right.right
      c.in_ok-name.ensures.name c.in_ok-left.ensures.made c.in_ok-right.ensures.made;
}
