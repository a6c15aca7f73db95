use Rattle.rob_expand.proofs.Values.ScopeLemmas.{nothing_is}
use Rattle.rob_expand.proofs.scope.is_nothing.Goals as goal

pub returns : goal.returns
returns c = record {
  nothing =
      λ is. nothing_is c.args.form.now c.constant.result.now c.factors.result.now c.constant.ensures.constant
      c.factors.ensures.factors (c.is_seen.ensures.seen c.if-not-is_seen.false) (c.add_nothing.ensures.nothing is);
}
