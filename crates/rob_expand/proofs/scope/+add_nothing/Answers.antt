use Rattle.std.proofs.Common.{◌<◌, length, arith}
use Rattle.rob_expand.proofs.Values.ScopeLemmas.{nothing_none, nothing_more}
use Rattle.rob_expand.proofs.scope.+add_nothing.Goals as goal

pub returns-in-empty : goal.returns-in-empty
returns-in-empty t c = record { nothing = λ is. nothing_none c.args.factors.now c.in-empty.len_below }

pub returns-else-not-is_seen : goal.returns-else-not-is_seen
returns-else-not-is_seen t c = record {
  nothing =
      let some : 0 < length c.args.factors.now = omega (arith, c.in-len1-up.len_at_least) in
      λ is. nothing_more c.args.factors.now c.factor-item.result some c.factor-item.is
      (c.is_seen.ensures.seen c.if-not-is_seen.false) (c.add_nothing.ensures.nothing is);
}
