use Rattle.std.proofs.Common.{sym, ◌∙◌, ◌<◌, length, arith}
use Rattle.std.proofs.lemmas.Result.{on_ok_weaker}
use Rattle.rob_expand.proofs.Values.ScopeLemmas.{none_put, constant_put, starts_put}
use Rattle.rob_expand.proofs.scope.+put_starts.Goals as goal

pub returns-in-empty : goal.returns-in-empty
returns-in-empty t c = record { put = none_put c.args.bound.now c.args.form.now c.in-empty.len_below }

pub returns-then-is_empty : goal.returns-then-is_empty
returns-then-is_empty t c = record {
  put =
      constant_put c.args.bound.now c.args.form.now c.factors.result.now c.factors.ensures.factors
      (sym c.if-is_empty.true ∙ c.is_empty.ensures);
}

pub returns-in_ok-put_starts-in-len1-up : goal.returns-in_ok-put_starts-in-len1-up
returns-in_ok-put_starts-in-len1-up t c = record {
  put =
      let some : 0 < length c.args.bound.now = omega (arith, c.in-len1-up.len_at_least) in
      let taken = c.in_ok-factor-in-len1-up in
      on_ok_weaker c.put_start.result
      (λ is. starts_put c.args.bound.now c.first-item.result some c.first-item.is c.args.form.now c.take_first.new.self
      c.put_starts.new.form c.put_start.new.form taken.factor taken.ensures.factor taken.ensures.outer
      c.in_ok-put_starts-in-len1-up.ensures.put is) c.put_start.ensures.put;
}
