-- Expressions with parameters alone: their words, and what is read of them.
use Rattle.std.proofs.Common.{◌≡◌, ℕ, Bool, true, false, List, ◌++◌, refl, ap, arith}
use Rattle.std.specs.Prelude.{◌||◌, Option, Some, None}
use Rattle.std.specs.List.{list_any}
use Rattle.rob_meaning.specs.Degrees.{decision_degree, product_degree, sum_degree}
use Rattle.rob_meaning.specs.Expressions as meaning
use Rattle.rob_meaning.specs.RobustModel.{RobustModel}
use Rattle.rob_parse.specs.Written.{expression, factors, named, terms}
use Rattle.rob_rules.specs.Degrees.{sort_at}
use Rattle.rob_rules.specs.Faults.{is_decision, names_decision}
use Rattle.rob_rules.specs.Leaves.{factor_leaves, leaves, part_leaves}
use Rattle.rob_rules.specs.declared.sort.Sort.{Sort}
use Rattle.rob_rules.specs.declared.sort.Sort.TheVariants as sort
use Rattle.rob_rules.specs.declared.sort.Sort.TheVariants.{Decision, Parameter, Policy, RowName}
use Rattle.rob_syntax.specs.Trees.{Operands, Summands, Tree, name, no_operands, no_summands, number, operand, product, sum, summand}
use Rattle.rob_write.specs.ExpressionWords.{Naming, enclosed, expression_words, factor_words, is_compound, is_sum, lead, term_words, times}
use Rattle.rob_round_trip.proofs.Faultless.FaultlessParts.{parameters_only}
use Rattle.rob_round_trip.proofs.Faultless.FaultlessProducts.{none_of_both}
use Rattle.rob_round_trip.specs.Readable.{FactorsReadable, IsReadable, TermsReadable}

-- one whose degree in the decisions is 0
module _ (limit : ℕ) (names : Naming) (m : RobustModel) where
  mutual
    pub no_decision : (e : meaning.Expression) → IsReadable limit names e → decision_degree m e ≡ 0
        → IsReadable limit (parameters_only names) e
    no_decision (meaning.number q) h none = h
    no_decision (meaning.parameter k) h none = h
    no_decision (meaning.variable k) h none = absurd (omega (arith, none))
    no_decision (meaning.adaptive y) h none = absurd (omega (arith, none))
    no_decision (meaning.adaptive_in y S) h none = absurd h
    no_decision (meaning.sum ts) h none = (h.0, no_decisions ts h.1 none)
    no_decision (meaning.product fs) h none = (h.0, no_factor fs h.1 none)

    no_decisions : (ts : meaning.Terms) → TermsReadable limit names ts → sum_degree 0 1 (λ y. 1) ts ≡ 0
        → TermsReadable limit (parameters_only names) ts
    no_decisions meaning.no_terms h none = tt
    no_decisions (meaning.term minus e ts) h none =
        (no_decision e h.0 (omega (arith, none)), no_decisions ts h.1 (omega (arith, none)))

    no_factor : (fs : meaning.Factors) → FactorsReadable limit names fs → product_degree 0 1 (λ y. 1) fs ≡ 0
        → FactorsReadable limit (parameters_only names) fs
    no_factor meaning.no_factors h none = tt
    no_factor (meaning.factor e fs) h none =
        (no_decision e h.0 (omega (arith, none)), no_factor fs h.1 (omega (arith, none)))

-- it has the same words, whatever names the rest has
module _ (limit : ℕ) (names : Naming) where
  mutual
    pub same_words : (e : meaning.Expression) → IsReadable limit (parameters_only names) e
        → expression_words names e ≡ expression_words (parameters_only names) e
    same_words (meaning.number q) h = refl
    same_words (meaning.parameter k) h = refl
    same_words (meaning.variable k) h = absurd (omega (arith, h))
    same_words (meaning.adaptive y) h = absurd (omega (arith, h))
    same_words (meaning.adaptive_in y S) h = absurd h
    same_words (meaning.sum ts) h = same_terms true ts h.1
    same_words (meaning.product fs) h = same_factors true fs h.1

    same_terms : (first : Bool) (ts : meaning.Terms) → TermsReadable limit (parameters_only names) ts
        → term_words names first ts ≡ term_words (parameters_only names) first ts
    same_terms first meaning.no_terms h = refl
    same_terms first (meaning.term minus e ts) h =
        λ i. lead first minus ++ (enclosed (is_sum e) (same_words e h.0 i) ++ same_terms false ts h.1 i)

    same_factors : (first : Bool) (fs : meaning.Factors) → FactorsReadable limit (parameters_only names) fs
        → factor_words names first fs ≡ factor_words (parameters_only names) first fs
    same_factors first meaning.no_factors h = refl
    same_factors first (meaning.factor e fs) h =
        λ i. times first ++ (enclosed (is_compound e) (same_words e h.0 i) ++ same_factors false fs h.1 i)

-- what is read of it names no decision
module _ (limit : ℕ) (sorts : List (Option Sort)) (names : Naming) where
  undecided_name : (o : Option Sort) → IsReadable limit (parameters_only names) (named o) → is_decision o ≡ false
  undecided_name (Some (Parameter j)) h = refl
  undecided_name (Some (Decision j)) h = absurd (omega (arith, h))
  undecided_name (Some (Policy j depends)) h = absurd (omega (arith, h))
  undecided_name (Some RowName) h = refl
  undecided_name (Some (sort.Set S)) h = refl
  undecided_name None h = refl

  mutual
    pub undecided : (t : Tree) → IsReadable limit (parameters_only names) (expression sorts t)
        → list_any (names_decision sorts) (leaves t) ≡ false
    undecided (number n) h = refl
    undecided (name k) h = ap (λ (b : Bool). b || false) (undecided_name (sort_at sorts k) h)
    undecided (sum ts) h = undecided_parts ts h.1
    undecided (product fs) h = undecided_factors fs h.1

    undecided_parts : (ts : Summands) → TermsReadable limit (parameters_only names) (terms sorts ts)
        → list_any (names_decision sorts) (part_leaves ts) ≡ false
    undecided_parts no_summands h = refl
    undecided_parts (summand minus t ts) h =
        none_of_both (names_decision sorts) (leaves t) (part_leaves ts) (undecided t h.0) (undecided_parts ts h.1)

    undecided_factors : (fs : Operands) → FactorsReadable limit (parameters_only names) (factors sorts fs)
        → list_any (names_decision sorts) (factor_leaves fs) ≡ false
    undecided_factors no_operands h = refl
    undecided_factors (operand f fs) h =
        none_of_both (names_decision sorts) (leaves f) (factor_leaves fs) (undecided f h.0) (undecided_factors fs h.1)
