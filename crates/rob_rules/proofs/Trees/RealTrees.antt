-- The trees of the grammar are as a reader makes them.
use Rattle.std.proofs.Common.{Bool, true, false, List, ◌∷◌, map, sym, subst}
use Rattle.rob_syntax.specs.declared.syntax.Syntax.{Syntax}
use Rattle.rob_syntax.specs.declared.syntax.Summand.{Summand}
use Rattle.rob_syntax.specs.declared.syntax.Syntax.TheVariants as syntax
use Rattle.rob_syntax.specs.Grammar.{Factor, Factors, Term, Terms, Expr, number, name, parens, no_factors, times, term, no_terms, signed, expr, tree_factor, tree_factors, tree_term, tree_terms, tree_expr}
use Rattle.rob_syntax.specs.Trees.{Part, summand, tree_of, part_of, summands_of, operands_of}
use Rattle.rob_syntax.proofs.TreeLemmas.{number_is, name_is, sum_is, product_is}
use Rattle.rob_rules.specs.RealTrees.{IsLongSum, IsLongProduct, IsReal, AreReal, OperandsReal}
use Rattle.rob_rules.proofs.Trees.WalkLemmas.{part_is}

sum_real : (ps : List Summand) → IsLongSum (summands_of (map part_of ps)) × AreReal (summands_of (map part_of ps))
    → IsReal (tree_of (syntax.Sum ps))
sum_real ps real = subst IsReal (sym (sum_is ps)) real

product_real : (fs : List Syntax) → IsLongProduct (operands_of (map tree_of fs))
    × OperandsReal (operands_of (map tree_of fs)) → IsReal (tree_of (syntax.Product fs))
product_real fs real = subst IsReal (sym (product_is fs)) real

part_real : (minus : Bool) (t : Syntax) → IsReal (tree_of t)
    → IsReal (part_of (record { minus = minus; inner = t })).inner
part_real minus t real = subst (λ (p : Part). IsReal p.inner) (sym (part_is (record { minus = minus; inner = t }))) real

-- a sum that begins with a subtracted part is long enough
long_minus : (t : Syntax) (ps : List Summand)
    → IsLongSum (summands_of (map part_of (record { minus = true; inner = t } ∷ ps)))
long_minus t ps =
    subst (λ (p : Part). IsLongSum (summand p.minus p.inner (summands_of (map part_of ps))))
    (sym (part_is (record { minus = true; inner = t }))) tt

-- and so is one of two parts
long_two : (t : Syntax) (p : Summand) (ps : List Summand)
    → IsLongSum (summands_of (map part_of (record { minus = false; inner = t } ∷ p ∷ ps)))
long_two t p ps =
    subst (λ (q : Part). IsLongSum (summand q.minus q.inner (summands_of (map part_of (p ∷ ps)))))
    (sym (part_is (record { minus = false; inner = t }))) tt

mutual
  real_factor : (f : Factor) → IsReal (tree_of (tree_factor f))
  real_factor (number n) = subst IsReal (sym (number_is n)) tt
  real_factor (name k) = subst IsReal (sym (name_is k)) tt
  real_factor (parens e) = real_expr e

  real_factors : (fs : Factors) → OperandsReal (operands_of (map tree_of (tree_factors fs)))
  real_factors no_factors = tt
  real_factors (times f fs) = (real_factor f, real_factors fs)

  real_term : (t : Term) → IsReal (tree_of (tree_term t))
  real_term (term f no_factors) = real_factor f
  real_term (term f (times g fs)) =
      product_real (tree_factors (times f (times g fs))) (tt, (real_factor f, (real_factor g, real_factors fs)))

  real_terms : (ts : Terms) → AreReal (summands_of (map part_of (tree_terms ts)))
  real_terms no_terms = tt
  real_terms (signed minus t ts) = (part_real minus (tree_term t) (real_term t), real_terms ts)

  pub real_expr : (e : Expr) → IsReal (tree_of (tree_expr e))
  real_expr (expr false t no_terms) = real_term t
  real_expr (expr true t ts) =
      sum_real (tree_terms (signed true t ts))
      (long_minus (tree_term t) (tree_terms ts), (part_real true (tree_term t) (real_term t), real_terms ts))
  real_expr (expr false t (signed m u us)) =
      sum_real (tree_terms (signed false t (signed m u us))) (
        long_two (tree_term t) (record { minus = m; inner = tree_term u }) (tree_terms us),
        (part_real false (tree_term t) (real_term t), real_terms (signed m u us)),
      )
