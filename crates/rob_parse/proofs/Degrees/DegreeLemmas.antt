-- An expression whose products are of degree at most one is linear in the model.
use Rattle.std.proofs.Common.{◌≡◌, ℕ, ◌+◌, ◌≤◌, Bool, true, false, List, [], ◌∷◌, ◌++◌, length, refl, sym, ap, ◌∙◌, subst, arith, max}
use Rattle.std.specs.Prelude.{◌&&◌, not, nat_lt, Option, Some, None}
use Rattle.std.specs.List.{list_any}
use Rattle.std.proofs.lemmas.Bool.Decides.{nat_tests}
use Rattle.rob_meaning.specs.Degrees as meaning
use Rattle.rob_meaning.specs.Expressions.{Expression, Terms, Factors}
use Rattle.rob_meaning.specs.RobustModel.{RobustModel, list_of}
use Rattle.rob_meaning.specs.WellFormed.{IsInside, TermsInside, FactorsInside}
use Rattle.rob_rules.specs.declared.sort.Sort.{Sort}
use Rattle.rob_rules.specs.declared.sort.Sort.TheVariants as sort
use Rattle.rob_rules.specs.declared.sort.Sort.TheVariants.{Parameter, Decision, Policy, RowName}
use Rattle.rob_rules.specs.Degrees.{Degree, sort_at, degree_of_sort, times, degree, sum_degree, product_degree, products, sum_products, more_products}
use Rattle.rob_rules.specs.Faults.{has_two_decisions, has_two_uncertain, has_random_recourse, is_usable, is_decision}
use Rattle.rob_parse.specs.Written.{named, expression, terms, factors}
use Rattle.rob_syntax.specs.Trees.{Tree, number, name, sum, product, Summands, no_summands, summand, Operands, no_operands, operand}
use Rattle.rob_parse.proofs.Names.SortLemmas.{Names}
use Rattle.std.proofs.lemmas.Bool.{or_parts}
use Rattle.rob_index.proofs.Names.NamingLemmas.{none_both}

-- each name of a tree has the property
module _ (P : ℕ → Type 0) where
  abbrev mutual
    pub EachName : Tree → Type 0
    EachName (number n) = Unit {0}
    EachName (name k) = P k
    EachName (sum ts) = EachSummand ts
    EachName (product fs) = EachOperand fs

    pub EachSummand : Summands → Type 0
    EachSummand no_summands = Unit {0}
    EachSummand (summand minus t ts) = EachName t × EachSummand ts

    pub EachOperand : Operands → Type 0
    EachOperand no_operands = Unit {0}
    EachOperand (operand f fs) = EachName f × EachOperand fs

-- none of the products is refused
pub record Clean (ds : List Degree) : Type 0 where
  pub decisions : list_any has_two_decisions ds ≡ false
  pub uncertain : list_any has_two_uncertain ds ≡ false
  pub recourse : list_any has_random_recourse ds ≡ false

pub clean_apart : (xs ys : List Degree) → Clean (xs ++ ys) → Clean xs × Clean ys
clean_apart xs ys c =
    let a = none_both has_two_decisions xs ys c.decisions in
    let b = none_both has_two_uncertain xs ys c.uncertain in
    let d = none_both has_random_recourse xs ys c.recourse in (
      record { decisions = a.0; uncertain = b.0; recourse = d.0 },
      record { decisions = a.1; uncertain = b.1; recourse = d.1 },
    )

at_most_one : (n : ℕ) → nat_lt 1 n ≡ false → n ≤ 1
at_most_one n h = grind (arith, nat_tests)

clean_one : (d : Degree) → Clean (d ∷ []) → (d.decision ≤ 1) × (d.uncertain ≤ 1)
clean_one d c = (at_most_one d.decision (or_parts _ _ c.decisions).0, go d.recourse refl)
  where
    go : (b : Bool) → d.recourse ≡ b → d.uncertain ≤ 1
    go true is =
        at_most_one d.uncertain (ap (λ (r : Bool). r && nat_lt 1 d.uncertain) (sym is) ∙ (or_parts _ _ c.recourse).0)
    go false is =
        at_most_one d.uncertain (ap (λ (r : Bool). not r && nat_lt 1 d.uncertain) (sym is)
        ∙ (or_parts _ _ c.uncertain).0)

module _ (m : RobustModel) (sorts before : List (Option Sort)) where
  -- a name that may be used stands for the same behind the last line, and names what exists
  abbrev pub Stands : ℕ → Type 0
  Stands k =
      (sort_at sorts k ≡ sort_at before k) × (is_usable (sort_at before k) ≡ true)
      × Names (length m.parameters) (length m.variables) m.adaptives (sort_at before k)

  record Linear (x : Expression) (d : Degree) : Type 0 where
    inside : IsInside m x
    linear : meaning.IsLinear m x
    uncertain_is : meaning.uncertain_degree m x ≡ d.uncertain
    decision_is : meaning.decision_degree m x ≡ d.decision
    uncertain : d.uncertain ≤ 1
    decision : d.decision ≤ 1

  record LinearTerms (x : Terms) (d : Degree) : Type 0 where
    inside : TermsInside m x
    linear : meaning.AreLinear m x
    uncertain_is : meaning.sum_degree 1 0 (λ y. meaning.one_if_some (list_of m y)) x ≡ d.uncertain
    decision_is : meaning.sum_degree 0 1 (λ y. 1) x ≡ d.decision
    uncertain : d.uncertain ≤ 1
    decision : d.decision ≤ 1

  record LinearFactors (x : Factors) (d p : Degree) : Type 0 where
    inside : FactorsInside m x
    linear : meaning.FactorsLinear m x
    uncertain_is : meaning.product_degree 1 0 (λ y. meaning.one_if_some (list_of m y)) x ≡ d.uncertain
    decision_is : meaning.product_degree 0 1 (λ y. 1) x ≡ d.decision
    uncertain : p.uncertain + d.uncertain ≤ 1
    decision : p.decision + d.decision ≤ 1

  named_linear : (o : Option Sort) → is_usable o ≡ true → Names (length m.parameters) (length m.variables) m.adaptives o
      → Linear (named o) (degree_of_sort o)
  named_linear (Some (Parameter j)) usable names =
      record {
        inside = names;
        linear = tt;
        uncertain_is = refl;
        decision_is = refl;
        uncertain = omega arith;
        decision =
            omega arith;
      }
  named_linear (Some (Decision j)) usable names =
      record {
        inside = names;
        linear = tt;
        uncertain_is = refl;
        decision_is = refl;
        uncertain = omega arith;
        decision =
            omega arith;
      }
  named_linear (Some (Policy j true)) usable names =
      record {
        inside = names.0;
        linear = tt;
        uncertain_is = names.1;
        decision_is = refl;
        uncertain =
            omega arith;
        decision = omega arith;
      }
  named_linear (Some (Policy j false)) usable names =
      record {
        inside = names.0;
        linear = tt;
        uncertain_is = names.1;
        decision_is = refl;
        uncertain =
            omega arith;
        decision = omega arith;
      }
  named_linear (Some RowName) usable names = cc
  named_linear (Some (sort.Set S)) usable names = cc
  named_linear None usable names = cc

  mutual
    linear_tree : (t : Tree) → EachName Stands t → Clean (products before t)
        → Linear (expression sorts t) (degree before t)
    linear_tree (number n) stands clean =
        record {
          inside = tt;
          linear = tt;
          uncertain_is = refl;
          decision_is = refl;
          uncertain = omega arith;
          decision =
              omega arith;
        }
    linear_tree (name k) stands clean =
        subst (λ (o : Option Sort). Linear (named o) (degree before (name k))) (sym stands.0)
        (named_linear (sort_at before k) stands.1 stands.2)
    linear_tree (sum ts) stands clean =
        let l = linear_summands ts stands clean in
        record {
          inside = l.inside;
          linear = l.linear;
          uncertain_is = l.uncertain_is;
          decision_is =
              l.decision_is;
          uncertain = l.uncertain;
          decision = l.decision;
        }
    linear_tree (product no_operands) stands clean =
        record {
          inside = tt;
          linear = (omega arith, omega arith, tt);
          uncertain_is = refl;
          decision_is =
              refl;
          uncertain = omega arith;
          decision = omega arith;
        }
    linear_tree (product (operand f fs)) stands clean =
        let both = clean_apart (products before f) (more_products before (degree before f) fs) clean in
        let a = linear_tree f stands.0 both.0 in
        let b = linear_operands fs (degree before f) a.uncertain a.decision stands.1 both.1 in
        record {
          inside = (a.inside, b.inside);
          linear = (
            omega (arith, a.uncertain_is, b.uncertain_is, b.uncertain),
            omega
                (arith, a.decision_is, b.decision_is, b.decision),
            (a.linear, b.linear),
          );
          uncertain_is = omega (arith, a.uncertain_is, b.uncertain_is);
          decision_is = omega (arith, a.decision_is, b.decision_is);
          uncertain = b.uncertain;
          decision = b.decision;
        }

    linear_summands : (ts : Summands) → EachSummand Stands ts → Clean (sum_products before ts)
        → LinearTerms (terms sorts ts) (sum_degree before ts)
    linear_summands no_summands stands clean =
        record {
          inside = tt;
          linear = tt;
          uncertain_is = refl;
          decision_is = refl;
          uncertain = omega arith;
          decision =
              omega arith;
        }
    linear_summands (summand minus t ts) stands clean =
        let both = clean_apart (products before t) (sum_products before ts) clean in
        let a = linear_tree t stands.0 both.0 in
        let b = linear_summands ts stands.1 both.1 in
        record {
          inside = (a.inside, b.inside);
          linear = (a.linear, b.linear);
          uncertain_is = λ i. max (a.uncertain_is i) (b.uncertain_is i);
          decision_is = λ i. max (a.decision_is i) (b.decision_is i);
          uncertain = omega (arith, a.uncertain, b.uncertain);
          decision = omega (arith, a.decision, b.decision);
        }

    linear_operands : (fs : Operands) (p : Degree) → p.uncertain ≤ 1 → p.decision ≤ 1 → EachOperand Stands fs
        → Clean (more_products before p fs) → LinearFactors (factors sorts fs) (product_degree before fs) p
    linear_operands no_operands p u d stands clean =
        record {
          inside = tt;
          linear = tt;
          uncertain_is = refl;
          decision_is = refl;
          uncertain =
              omega (arith, u);
          decision = omega (arith, d);
        }
    linear_operands (operand f fs) p u d stands clean =
        let one =
        clean_apart (times p (degree before f) ∷ [])
        (products before f ++ more_products before (times p (degree before f)) fs) clean in
        let both = clean_apart (products before f) (more_products before (times p (degree before f)) fs) one.1 in
        let q = clean_one (times p (degree before f)) one.0 in
        let a = linear_tree f stands.0 both.0 in
        let b = linear_operands fs (times p (degree before f)) q.1 q.0 stands.1 both.1 in
        record {
          inside = (a.inside, b.inside);
          linear = (a.linear, b.linear);
          uncertain_is = omega (arith, a.uncertain_is, b.uncertain_is);
          decision_is = omega (arith, a.decision_is, b.decision_is);
          uncertain = omega (arith, b.uncertain);
          decision = omega (arith, b.decision);
        }

  pub inside_and_linear : (t : Tree) → EachName Stands t → Clean (products before t) → IsInside m (expression sorts t)
      × meaning.IsLinear m (expression sorts t)
  inside_and_linear t stands clean = let l = linear_tree t stands clean in (l.inside, l.linear)

  -- where no name is a decision's, the degree in the decisions is 0
  mutual
    without_decision : (t : Tree) → EachName (λ k. is_decision (sort_at before k) ≡ false) t
        → (degree before t).decision ≡ 0
    without_decision (number n) none = refl
    without_decision (name k) none = no_degree (sort_at before k) none
      where
        no_degree : (o : Option Sort) → is_decision o ≡ false → (degree_of_sort o).decision ≡ 0
        no_degree (Some (Parameter j)) h = refl
        no_degree (Some (Decision j)) h = cc
        no_degree (Some (Policy j d)) h = cc
        no_degree (Some RowName) h = refl
        no_degree (Some (sort.Set S)) h = refl
        no_degree None h = refl
    without_decision (sum ts) none = without_summands ts none
    without_decision (product fs) none = without_operands fs none

    without_summands : (ts : Summands) → EachSummand (λ k. is_decision (sort_at before k) ≡ false) ts
        → (sum_degree before ts).decision ≡ 0
    without_summands no_summands none = refl
    without_summands (summand minus t ts) none = omega (arith, without_decision t none.0, without_summands ts none.1)

    without_operands : (fs : Operands) → EachOperand (λ k. is_decision (sort_at before k) ≡ false) fs
        → (product_degree before fs).decision ≡ 0
    without_operands no_operands none = refl
    without_operands (operand f fs) none = omega (arith, without_decision f none.0, without_operands fs none.1)

  pub no_decision : (t : Tree) → EachName Stands t → Clean (products before t)
      → EachName (λ k. is_decision (sort_at before k) ≡ false) t → meaning.decision_degree m (expression sorts t) ≡ 0
  no_decision t stands clean none = (linear_tree t stands clean).decision_is ∙ without_decision t none
