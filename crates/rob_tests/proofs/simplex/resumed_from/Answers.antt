use Rattle.std.proofs.Common.{◌≡◌, ◌∙◌, ◌≤◌, rules, arith, nat_abs, slice_index_or, to_z, of_z, w64}
use Rattle.rob_number.proofs.CastLemmas.{limit_seen}
use Rattle.rob_tests.proofs.simplex.resumed_from.Goals as goal

pub gone_on-requires-clause-cost : goal.gone_on-requires-clause-cost
gone_on-requires-clause-cost g c = record {
  size = search rules;
  within = λ k d l.
      let b : nat_abs (slice_index_or c.args.cost.now k d) ≤ c.largest.result = c.largest.ensures.bound k d l in
      let e : nat_abs (to_z w64 (of_z w64 c.LIMIT.result)) ≡ g.N.Exact.limit =
      limit_seen c.LIMIT.result g.N.Exact.limit (c.LIMIT.ensures ∙ g.met.N.Exact.limit_told) g.met.N.Exact.limit_high in
      omega (arith, c.if-largest-LIMIT.false);
}
