use Rattle.std.proofs.Common.{◌≡◌, map, drop}
use Rattle.rob_number.specs.Counts.{NeverFell}
use Rattle.rob_meaning.specs.Places.{0ℚ, 1ℚ}
use Rattle.rob_meaning.specs.WellFormed.{TermsInside, FactorsInside}
use Rattle.rob_model.specs.View.{robust, expression_of, signed_of, terms_of, factors_of}
use Rattle.rob_model.specs.Within.{sum_within, product_within}
use Rattle.rob_model.proofs.value.+evaluate.Given as goal

-- the product so far, with the factors that are left, gives what all factors give
abbrev pub invariant-product-loop-factor : goal.invariant-product-loop-factor
invariant-product-loop-factor g l =
    let value = g.N.Exact.value in
    let m = robust value l.model in
    let go = product_within g.N.Exact.limit m (map value l.columns) (map value l.values) in
    let left = factors_of (map (expression_of value) (drop l.factor-index l.factors)) in
    record {
      rest : go left (value l.so_far) ≡ go (factors_of (map (expression_of value) l.factors)) 1ℚ;
      inside : FactorsInside m left;
      counted : NeverFell g.L.Ledger.ops g.L.Ledger.wides l.fn.ledger l.ledger;
    }

-- the sum so far, with the terms that are left, gives what all terms give
abbrev pub invariant-sum-loop-term : goal.invariant-sum-loop-term
invariant-sum-loop-term g l =
    let value = g.N.Exact.value in
    let m = robust value l.model in
    let go = sum_within g.N.Exact.limit m (map value l.columns) (map value l.values) in
    let left = terms_of (map (signed_of value) (drop l.term-index l.terms)) in
    record {
      rest : go left (value l.so_far) ≡ go (terms_of (map (signed_of value) l.terms)) 0ℚ;
      inside : TermsInside m left;
      counted : NeverFell g.L.Ledger.ops g.L.Ledger.wides l.fn.ledger l.ledger;
    }
