use Rattle.std.proofs.Common.{◌≡◌, ◌++◌, drop}
use Rattle.rob_model.proofs.copy.+copy.Given as goal

abbrev pub invariant-copy_terms-loop-term : goal.invariant-copy_terms-loop-term
invariant-copy_terms-loop-term g l = l.copy ++ drop l.term-index l.terms ≡ l.terms

abbrev pub invariant-copy_factors-loop-factor : goal.invariant-copy_factors-loop-factor
invariant-copy_factors-loop-factor g l = l.copy ++ drop l.factor-index l.factors ≡ l.factors
