use Rattle.std.proofs.Common.{◌≡◌, ◌++◌, map, drop}
use Rattle.rob_cells.specs.Building.{signed_over}
use Rattle.rob_meaning.specs.WellFormed.{FactorsInside, TermsInside}
use Rattle.rob_model.specs.View.{expression_of, factors_of, robust, signed_of, terms_of}
use Rattle.rob_pieces.specs.SplitModel.{over_cell}
use Rattle.rob_cells.proofs.expression.+over.Given as goal

-- the parts so far, and those that are left
abbrev pub invariant-terms_over-loop-term : goal.invariant-terms_over-loop-term
invariant-terms_over-loop-term g l =
    let value = g.N.Exact.value in
    let f = signed_over (robust value l.model) l.c in
    record {
      made : map (signed_of value) l.over ++ map f (map (signed_of value) (drop l.term-index l.terms))
          ≡ map f (map (signed_of value) l.terms);
      inside : TermsInside (robust value l.model) (terms_of (map (signed_of value) (drop l.term-index l.terms)));
    }

-- the factors so far, and those that are left
abbrev pub invariant-factors_over-loop-factor : goal.invariant-factors_over-loop-factor
invariant-factors_over-loop-factor g l =
    let value = g.N.Exact.value in
    let f = over_cell (robust value l.model) l.c in
    record {
      made : map (expression_of value) l.over ++ map f (map (expression_of value) (drop l.factor-index l.factors))
          ≡ map f (map (expression_of value) l.factors);
      inside : FactorsInside (robust value l.model)
          (factors_of (map (expression_of value) (drop l.factor-index l.factors)));
    }
