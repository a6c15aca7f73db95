use Rattle.rob_expand.proofs.Values.ScopeLemmas.{nothing_added, once_each}
use Rattle.rob_expand.proofs.scope.add_times.Goals as goal

pub returns-then-is_seen : goal.returns-then-is_seen
returns-then-is_seen c = record {
  sum = nothing_added c.args.form.now c.args.factor.now c.args.other.now (c.is_seen.ensures.seen c.if-is_seen.true);
}

pub returns-then-is_empty : goal.returns-then-is_empty
returns-then-is_empty c = record {
  sum =
      once_each c.in_ok-form.field-0 c.args.form.now c.args.factor.now c.args.other.now
      (c.is_seen-2.ensures.seen c.if-is_seen-2.true) c.in_ok-form.ensures.sum;
}
