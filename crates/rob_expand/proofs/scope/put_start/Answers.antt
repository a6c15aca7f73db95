use Rattle.rob_expand.proofs.Values.ScopeLemmas.{moving_put}
use Rattle.rob_expand.proofs.scope.put_start.Goals as goal

pub returns-in_ok-put_first : goal.returns-in_ok-put_first
returns-in_ok-put_first c = record {
  put =
      moving_put c.args.binding.now c.args.factor c.args.form.now c.add_times.new.form c.put_first.new.self
      c.if-binding.true c.in_ok-add_times.ensures.sum c.in_ok-put_first.ensures.put;
}
