use Rattle.rob_number.specs.Counts.{NeverFell}
use Rattle.rob_model.specs.View.{robust}
use Rattle.rob_sets.proofs.Expressions.ProductSteps.{ProductSoFar}
use Rattle.rob_sets.proofs.Expressions.SumSteps.{SumSoFar}
use Rattle.rob_sets.proofs.expression.+coefficients.Given as goal

-- the table so far is that of the first terms; what is left of the subexpressions is judged next
abbrev pub invariant-sum-loop-term : goal.invariant-sum-loop-term
invariant-sum-loop-term g l = record {
  so_far : SumSoFar g.N.Exact.value g.N.Exact.limit (robust g.N.Exact.value l.model) l.terms l.term-index l.so_far;
  counted : NeverFell g.L.Ledger.ops g.L.Ledger.wides l.fn.ledger l.ledger;
}

-- the table so far is that of the first factors
abbrev pub invariant-product-loop-factor : goal.invariant-product-loop-factor
invariant-product-loop-factor g l = record {
  so_far : ProductSoFar g.N.Exact.value g.N.Exact.limit (robust g.N.Exact.value l.model) l.factors l.factor-index
      l.so_far;
  counted : NeverFell g.L.Ledger.ops g.L.Ledger.wides l.fn.ledger l.ledger;
}
