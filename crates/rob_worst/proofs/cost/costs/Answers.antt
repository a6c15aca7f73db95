use Rattle.std.proofs.Common.{◌≤◌, ◌-◌, ◌^◌, ◌∙◌, sym, subst, arith, to_z, of_z, w64, nat_abs}
use Rattle.rob_worst.proofs.CostLemmas.{held, costs_next, pair_within}
use Rattle.rob_worst.proofs.cost.costs.Goals as goal

pub loop-c-preserved : goal.loop-c-preserved
loop-c-preserved g c =
    let n : nat_abs c.in-Some.number ≤ 2 ^ 62 - 1 =
    omega (arith, c.in-Some.ensures.number.1, g.met.N.Exact.limit_high) in
    let e = held c.in-Some.number n in
    record {
      costs = costs_next c.args.forms.now c.args.form c.args.whole.now c.loop-c.c c.loop-c.list c.push_pair.new.list
          (to_z w64 (of_z w64 c.in-Some.number)) c.loop-c.invariant.costs (e ∙ c.in-Some.ensures.number.0)
          c.in_ok-push_pair.ensures.pair;
      within = pair_within g.N.Exact.limit c.loop-c.list c.push_pair.new.list (to_z w64 (of_z w64 c.in-Some.number))
          c.loop-c.invariant.within (subst (λ v. nat_abs v ≤ g.N.Exact.limit) (sym e) c.in-Some.ensures.number.1)
          c.in_ok-push_pair.ensures.pair;
    }
