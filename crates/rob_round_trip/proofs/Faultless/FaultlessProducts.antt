-- No product of an expression that is linear in the model is refused.
use Rattle.std.proofs.Common.{◌≡◌, ℕ, ◌+◌, ◌≤◌, Bool, true, false, List, [], ◌∷◌, ◌++◌, length, refl, sym, ap, ◌∙◌, subst, arith, max}
use Rattle.std.specs.Prelude.{◌||◌, ◌&&◌, not, nat_lt, Option, Some, None}
use Rattle.std.specs.List.{list_any, flat_map}
use Rattle.std.proofs.lemmas.Bool.Decides.{nat_tests}
use Rattle.std.proofs.lemmas.List.Folds.{list_any-append}
use Rattle.rob_meaning.specs.Degrees as meaning
use Rattle.rob_meaning.specs.Expressions.{Expression, Terms, Factors}
use Rattle.rob_meaning.specs.Places.{Each}
use Rattle.rob_meaning.specs.RobustModel.{RobustModel, list_of}
use Rattle.rob_rules.specs.declared.sort.Sort.{Sort}
use Rattle.rob_rules.specs.declared.sort.Sort.TheVariants as sort
use Rattle.rob_rules.specs.declared.sort.Sort.TheVariants.{Parameter, Decision, Policy, RowName}
use Rattle.rob_syntax.specs.declared.syntax.Statement.{Statement}
use Rattle.rob_rules.specs.Degrees.{Degree, sort_at, degree_of_sort, times, degree, sum_degree, product_degree, products, sum_products, more_products}
use Rattle.rob_rules.specs.Faults.{is_usable, expressions}
use Rattle.rob_parse.specs.Written.{named, expression, terms, factors}
use Rattle.rob_syntax.specs.Trees.{Tree, number, name, sum, product, Summands, no_summands, summand, Operands, no_operands, operand}
use Rattle.rob_parse.proofs.Degrees.DegreeLemmas.{EachName, EachSummand, EachOperand, Clean, Stands}
use Rattle.rob_parse.proofs.Names.SortLemmas.{Names}

not_over : (n : ℕ) → n ≤ 1 → nat_lt 1 n ≡ false
not_over n h = grind (arith, nat_tests)

pub clean_none : Clean []
clean_none = record { decisions = refl; uncertain = refl; recourse = refl }

pub none_of_both : {X : Type 0} (test : X → Bool) (xs ys : List X) → list_any test xs ≡ false → list_any test ys ≡ false
    → list_any test (xs ++ ys) ≡ false
none_of_both test xs ys a b = list_any-append test xs ys ∙ (λ i. a i || b i)

pub clean_together : (xs ys : List Degree) → Clean xs → Clean ys → Clean (xs ++ ys)
clean_together xs ys a b = record {
  decisions = none_of_both _ xs ys a.decisions b.decisions;
  uncertain = none_of_both _ xs ys a.uncertain b.uncertain;
  recourse = none_of_both _ xs ys a.recourse b.recourse;
}

and_none : (b : Bool) → (b && false) || false ≡ false
and_none true = refl
and_none false = refl

-- a product of degrees at most 1 is not refused
clean_low : (d : Degree) → d.decision ≤ 1 → d.uncertain ≤ 1 → Clean (d ∷ [])
clean_low d decision uncertain = record {
  decisions = ap (λ (b : Bool). b || false) (not_over d.decision decision);
  uncertain = ap (λ (b : Bool). (not d.recourse && b) || false) (not_over d.uncertain uncertain)
      ∙ and_none (not d.recourse);
  recourse = ap (λ (b : Bool). (d.recourse && b) || false) (not_over d.uncertain uncertain) ∙ and_none d.recourse;
}

module _ (m : RobustModel) (sorts before : List (Option Sort)) where
  -- the degrees of an expression in the model are those of its tree
  record HasDegree (x : Expression) (d : Degree) : Type 0 where
    uncertain : meaning.uncertain_degree m x ≡ d.uncertain
    decision : meaning.decision_degree m x ≡ d.decision

  record TermsHaveDegree (x : Terms) (d : Degree) : Type 0 where
    uncertain : meaning.sum_degree 1 0 (λ y. meaning.one_if_some (list_of m y)) x ≡ d.uncertain
    decision : meaning.sum_degree 0 1 (λ y. 1) x ≡ d.decision

  record FactorsHaveDegree (x : Factors) (d : Degree) : Type 0 where
    uncertain : meaning.product_degree 1 0 (λ y. meaning.one_if_some (list_of m y)) x ≡ d.uncertain
    decision : meaning.product_degree 0 1 (λ y. 1) x ≡ d.decision

  named_degree : (o : Option Sort) → is_usable o ≡ true → Names (length m.parameters) (length m.variables) m.adaptives o
      → HasDegree (named o) (degree_of_sort o)
  named_degree (Some (Parameter j)) usable names = record { uncertain = refl; decision = refl }
  named_degree (Some (Decision j)) usable names = record { uncertain = refl; decision = refl }
  named_degree (Some (Policy j true)) usable names = record { uncertain = names.1; decision = refl }
  named_degree (Some (Policy j false)) usable names = record { uncertain = names.1; decision = refl }
  named_degree (Some RowName) usable names = cc
  named_degree (Some (sort.Set S)) usable names = cc
  named_degree None usable names = cc

  mutual
    tree_degree : (t : Tree) → EachName (Stands m sorts before) t → HasDegree (expression sorts t) (degree before t)
    tree_degree (number n) stands = record { uncertain = refl; decision = refl }
    tree_degree (name k) stands =
        subst (λ (o : Option Sort). HasDegree (named o) (degree before (name k))) (sym stands.0)
        (named_degree (sort_at before k) stands.1 stands.2)
    tree_degree (sum ts) stands =
        let d = summands_degree ts stands in record { uncertain = d.uncertain; decision = d.decision }
    tree_degree (product fs) stands =
        let d = operands_degree fs stands in record { uncertain = d.uncertain; decision = d.decision }

    summands_degree : (ts : Summands) → EachSummand (Stands m sorts before) ts
        → TermsHaveDegree (terms sorts ts) (sum_degree before ts)
    summands_degree no_summands stands = record { uncertain = refl; decision = refl }
    summands_degree (summand minus t ts) stands =
        let a = tree_degree t stands.0 in
        let b = summands_degree ts stands.1 in
        record {
          uncertain = λ i. max (a.uncertain i) (b.uncertain i);
          decision = λ i. max (a.decision i) (b.decision i);
        }

    operands_degree : (fs : Operands) → EachOperand (Stands m sorts before) fs
        → FactorsHaveDegree (factors sorts fs) (product_degree before fs)
    operands_degree no_operands stands = record { uncertain = refl; decision = refl }
    operands_degree (operand f fs) stands =
        let a = tree_degree f stands.0 in
        let b = operands_degree fs stands.1 in
        record { uncertain = λ i. a.uncertain i + b.uncertain i; decision = λ i. a.decision i + b.decision i }

  mutual
    -- no product of an expression that is linear in the model is refused
    pub products_faultless : (t : Tree) → EachName (Stands m sorts before) t → meaning.IsLinear m (expression sorts t)
        → Clean (products before t)
    products_faultless (number n) stands linear = clean_none
    products_faultless (name k) stands linear = clean_none
    products_faultless (sum ts) stands linear = summands_faultless ts stands linear
    products_faultless (product no_operands) stands linear = clean_none
    products_faultless (product (operand f fs)) stands linear =
        let d = operands_degree (operand f fs) stands in
        clean_together (products before f) (more_products before (degree before f) fs)
        (products_faultless f stands.0 linear.2.0)
        (operands_faultless fs (degree before f) (omega (arith, d.uncertain, linear.0))
        (omega (arith, d.decision, linear.1)) stands.1 linear.2.1)

    summands_faultless : (ts : Summands) → EachSummand (Stands m sorts before) ts → meaning.AreLinear m (terms sorts ts)
        → Clean (sum_products before ts)
    summands_faultless no_summands stands linear = clean_none
    summands_faultless (summand minus t ts) stands linear =
        clean_together (products before t) (sum_products before ts) (products_faultless t stands.0 linear.0)
        (summands_faultless ts stands.1 linear.1)

    operands_faultless : (fs : Operands) (p : Degree) → p.uncertain + (product_degree before fs).uncertain ≤ 1
        → p.decision + (product_degree before fs).decision ≤ 1
        → EachOperand (Stands m sorts before) fs → meaning.FactorsLinear m (factors sorts fs)
        → Clean (more_products before p fs)
    operands_faultless no_operands p u d stands linear = clean_none
    operands_faultless (operand f fs) p u d stands linear =
        let q = times p (degree before f) in
        clean_together (q ∷ []) (products before f ++ more_products before q fs)
        (clean_low q (omega (arith, d)) (omega (arith, u)))
        (clean_together (products before f) (more_products before q fs) (products_faultless f stands.0 linear.0)
        (operands_faultless fs q (omega (arith, u)) (omega (arith, d)) stands.1 linear.1))

  -- the same of several expressions
  pub all_faultless : (ts : List Tree)
      → Each (λ (t : Tree). EachName (Stands m sorts before) t × meaning.IsLinear m (expression sorts t)) ts
      → Clean (flat_map (products before) ts)
  all_faultless [] each = clean_none
  all_faultless (t ∷ ts) each =
      clean_together (products before t) (flat_map (products before) ts)
      (products_faultless t each.0.0 each.0.1) (all_faultless ts each.1)

  -- no product of a statement is refused
  pub statement_products : (s : Statement)
      → Each (λ (t : Tree). EachName (Stands m sorts before) t
      × meaning.IsLinear m (expression sorts t)) (expressions s)
      → Clean (flat_map (products before) (expressions s))
  statement_products s each = all_faultless (expressions s) each
