-- A model with other set lines and other bounds of variables: as many
-- variables, so the same columns, and expressions have the same values.
use Rattle.std.specs.Prelude.{◌≡◌, ◌<◌, ℕ, zero, suc, List, [], ◌∷◌, length, refl}
use Rattle.std.proofs.Common.{ap, ap₂, sym, subst}
use Rattle.rob_algebra.specs.Fraction.{Fraction, ◌+ℚ◌, ◌*ℚ◌, ◌≤ℚ◌}
use Rattle.rob_meaning.specs.Degrees.{IsLinear, AreLinear, FactorsLinear}
use Rattle.rob_meaning.specs.Expressions.{Expression, number, parameter, variable, adaptive, adaptive_in, sum, product, Terms, no_terms, term, Factors, no_factors, factor}
use Rattle.rob_meaning.specs.Guarantee.{KeepsIn, IsNoWorse}
use Rattle.rob_meaning.specs.Places.{at, Each, EachFrom}
use Rattle.rob_meaning.specs.RobustModel.{Variable, AdaptiveVariable, SetLine, line, budget, Member, Row, RobustModel, column_from, column_of, column_count, list_of, list_in_set, set_count, line_set, row_set}
use Rattle.rob_meaning.specs.UncertaintySet.{Relates, KeepsBounds, KeepsLine, total_deviation, in_each_set}
use Rattle.rob_meaning.specs.Values.{value, sum_value, product_value, signed, rule_part, rule_value, rule_value_in}
use Rattle.rob_meaning.specs.WellFormed.{IsInside, TermsInside, FactorsInside, IsExpression, IsSetLine, IsOf, TermsOf, FactorsOf, IsLineOf, IsModel}
use Rattle.rob_meaning.proofs.Lists.EachLemmas.{each_map}
use Rattle.rob_meaning.proofs.Scenarios.JointBoundLemmas.{each_from_same}

module _ (m : RobustModel) (lines : List SetLine) (variables : List Variable)
    (fits : length variables ≡ length m.variables) where
  -- the model with those
  abbrev pub other : RobustModel
  other = record m { set_lines = lines; variables = variables }

  column_of-other : (y : ℕ) → column_of other y ≡ column_of m y
  column_of-other y = ap (λ n. column_from n m.adaptives y) fits

  pub column_count-other : column_count other ≡ column_count m
  column_count-other = ap (λ n. column_from n m.adaptives (length m.adaptives)) fits

  -- ---- values
  module _ (plan u : List Fraction) where
    rule_part-other : (ks : List ℕ) (column : ℕ) → rule_part other plan u ks column ≡ rule_part m plan u ks column
    rule_part-other [] column = refl
    rule_part-other (k ∷ ks) column =
        ap (λ y. at plan column *ℚ at u k +ℚ y) (rule_part-other ks (suc column))

    pub rule_value-other : (y : ℕ) → rule_value other plan u y ≡ rule_value m plan u y
    rule_value-other y = by (column_of other y) (column_of m y) (column_of-other y)
      where
        by : (c d : ℕ) → c ≡ d → at plan c +ℚ rule_part other plan u (list_of m y) (suc c)
            ≡ at plan d +ℚ rule_part m plan u (list_of m y) (suc d)
        by c d e =
            ap₂ ◌+ℚ◌ (ap (λ n. at plan n) e)
            (subst (λ n. rule_part other plan u (list_of m y) (suc c) ≡ rule_part m plan u (list_of m y) (suc n)) e
            (rule_part-other (list_of m y) (suc c)))

    rule_value_in-other : (S y : ℕ) → rule_value_in other plan u S y ≡ rule_value_in m plan u S y
    rule_value_in-other S y = by (column_of other y) (column_of m y) (column_of-other y)
      where
        by : (c d : ℕ) → c ≡ d → at plan c +ℚ rule_part other plan u (list_in_set m S y) (suc c)
            ≡ at plan d +ℚ rule_part m plan u (list_in_set m S y) (suc d)
        by c d e =
            ap₂ ◌+ℚ◌ (ap (λ n. at plan n) e)
            (subst (λ n. rule_part other plan u (list_in_set m S y) (suc c)
            ≡ rule_part m plan u (list_in_set m S y) (suc n)) e
            (rule_part-other (list_in_set m S y) (suc c)))

    mutual
      pub value-other : (e : Expression) → value other plan u e ≡ value m plan u e
      value-other (number q) = refl
      value-other (parameter k) = refl
      value-other (variable k) = refl
      value-other (adaptive y) = rule_value-other y
      value-other (adaptive_in y S) = rule_value_in-other S y
      value-other (sum ts) = sum_value-other ts
      value-other (product fs) = product_value-other fs

      sum_value-other : (ts : Terms) → sum_value other plan u ts ≡ sum_value m plan u ts
      sum_value-other no_terms = refl
      sum_value-other (term minus e ts) = ap₂ (λ x y. signed minus x +ℚ y) (value-other e) (sum_value-other ts)

      product_value-other : (fs : Factors) → product_value other plan u fs ≡ product_value m plan u fs
      product_value-other no_factors = refl
      product_value-other (factor e fs) = ap₂ ◌*ℚ◌ (value-other e) (product_value-other fs)

    -- ---- rows
    row_in : (r : Row) → Relates r.relation (value m plan u r.left) (value m plan u r.right) →
        Relates r.relation (value other plan u r.left) (value other plan u r.right)
    row_in r h =
        subst (λ x. Relates r.relation x (value other plan u r.right)) (sym (value-other r.left))
        (subst (λ y. Relates r.relation (value m plan u r.left) y) (sym (value-other r.right)) h)

    row_out : (r : Row) → Relates r.relation (value other plan u r.left) (value other plan u r.right) →
        Relates r.relation (value m plan u r.left) (value m plan u r.right)
    row_out r h =
        subst (λ x. Relates r.relation x (value m plan u r.right)) (value-other r.left)
        (subst (λ y. Relates r.relation (value other plan u r.left) y) (value-other r.right) h)

  -- ---- what a plan keeps in a scenario of a set
  module _ (plan u : List Fraction) (tau : Fraction) (S : ℕ) where
    pub keeps_in : KeepsIn m plan tau S u → KeepsIn other plan tau S u
    keeps_in h =
        record {
          objective =
              λ e. subst (λ v. IsNoWorse m.sense v tau)
              (sym (value-other plan (in_each_set m u) m.objective)) (h.objective e);
          rows = each_from_same
              (λ i (r : Row). row_set m i ≡ S
              → Relates r.relation (value m plan (in_each_set m u) r.left) (value m plan (in_each_set m u) r.right))
              (λ i (r : Row). row_set m i ≡ S
              → Relates r.relation (value other plan (in_each_set m u) r.left)
              (value other plan (in_each_set m u) r.right))
              zero m.rows (λ i r g e. row_in plan (in_each_set m u) r (g e)) h.rows;
          adaptives = λ e.
              each_from_same
              (λ k (y : AdaptiveVariable). KeepsBounds y.lower y.upper (rule_value m plan (in_each_set m u) k))
              (λ k (y : AdaptiveVariable). KeepsBounds y.lower y.upper (rule_value other plan (in_each_set m u) k))
              zero m.adaptives
              (λ k y g. subst (λ v. KeepsBounds y.lower y.upper v) (sym (rule_value-other plan (in_each_set m u) k)) g)
              (h.adaptives e);
        }

    pub keeps_out : KeepsIn other plan tau S u → KeepsIn m plan tau S u
    keeps_out h =
        record {
          objective =
              λ e. subst (λ v. IsNoWorse m.sense v tau)
              (value-other plan (in_each_set m u) m.objective) (h.objective e);
          rows = each_from_same
              (λ i (r : Row). row_set m i ≡ S
              → Relates r.relation (value other plan (in_each_set m u) r.left)
              (value other plan (in_each_set m u) r.right))
              (λ i (r : Row). row_set m i ≡ S
              → Relates r.relation (value m plan (in_each_set m u) r.left) (value m plan (in_each_set m u) r.right))
              zero m.rows (λ i r g e. row_out plan (in_each_set m u) r (g e)) h.rows;
          adaptives = λ e.
              each_from_same
              (λ k (y : AdaptiveVariable). KeepsBounds y.lower y.upper (rule_value other plan (in_each_set m u) k))
              (λ k (y : AdaptiveVariable). KeepsBounds y.lower y.upper (rule_value m plan (in_each_set m u) k))
              zero m.adaptives
              (λ k y g. subst (λ v. KeepsBounds y.lower y.upper v) (rule_value-other plan (in_each_set m u) k) g)
              (h.adaptives e);
        }

  -- ---- statements on the set
  module _ (u : List Fraction) where
    total_deviation-other : (hs : List Member) → total_deviation other u hs ≡ total_deviation m u hs
    total_deviation-other [] = refl
    total_deviation-other (h ∷ hs) = ap₂ ◌+ℚ◌ refl (total_deviation-other hs)

    pub keeps_line_in : (c : SetLine) → KeepsLine m u c → KeepsLine other u c
    keeps_line_in (line l relation r) h =
        subst (λ x. Relates relation x (value other [] u r)) (sym (value-other [] u l))
        (subst (λ y. Relates relation (value m [] u l) y) (sym (value-other [] u r)) h)
    keeps_line_in (budget limit members) h =
        subst (λ x. x ≤ℚ limit) (sym (total_deviation-other members)) h

    pub keeps_line_out : (c : SetLine) → KeepsLine other u c → KeepsLine m u c
    keeps_line_out (line l relation r) h =
        subst (λ x. Relates relation x (value m [] u r)) (value-other [] u l)
        (subst (λ y. Relates relation (value other [] u l) y) (value-other [] u r) h)
    keeps_line_out (budget limit members) h = subst (λ x. x ≤ℚ limit) (total_deviation-other members) h

  -- those of one set, which a scenario of it keeps
  module _ (S : ℕ) (u : List Fraction) where
    pub set_lines_in : (k : ℕ) (cs : List SetLine)
        → EachFrom k (λ i c. line_set m i ≡ S → KeepsLine m (in_each_set m u) c) cs →
        EachFrom k (λ i c. line_set m i ≡ S → KeepsLine other (in_each_set m u) c) cs
    set_lines_in k cs h =
        each_from_same (λ i c. line_set m i ≡ S → KeepsLine m (in_each_set m u) c)
        (λ i c. line_set m i ≡ S → KeepsLine other (in_each_set m u) c)
        k cs (λ i c g e. keeps_line_in (in_each_set m u) c (g e)) h

    pub set_lines_out : (k : ℕ) (cs : List SetLine) →
        EachFrom k (λ i c. line_set m i ≡ S → KeepsLine other (in_each_set m u) c) cs →
        EachFrom k (λ i c. line_set m i ≡ S → KeepsLine m (in_each_set m u) c) cs
    set_lines_out k cs h =
        each_from_same (λ i c. line_set m i ≡ S → KeepsLine other (in_each_set m u) c)
        (λ i c. line_set m i ≡ S → KeepsLine m (in_each_set m u) c)
        k cs (λ i c g e. keeps_line_out (in_each_set m u) c (g e)) h

  -- ---- well-formed expressions
  mutual
    inside-other : (e : Expression) → IsInside m e → IsInside other e
    inside-other (number q) h = tt
    inside-other (parameter k) h = h
    inside-other (variable k) h = subst (λ n. k < n) (sym fits) h
    inside-other (adaptive y) h = h
    inside-other (adaptive_in y S) h = h
    inside-other (sum ts) h = terms_inside-other ts h
    inside-other (product fs) h = factors_inside-other fs h

    terms_inside-other : (ts : Terms) → TermsInside m ts → TermsInside other ts
    terms_inside-other no_terms h = tt
    terms_inside-other (term minus e ts) h = (inside-other e h.0, terms_inside-other ts h.1)

    factors_inside-other : (fs : Factors) → FactorsInside m fs → FactorsInside other fs
    factors_inside-other no_factors h = tt
    factors_inside-other (factor e fs) h = (inside-other e h.0, factors_inside-other fs h.1)

  mutual
    linear-other : (e : Expression) → IsLinear m e → IsLinear other e
    linear-other (number q) h = tt
    linear-other (parameter k) h = tt
    linear-other (variable k) h = tt
    linear-other (adaptive y) h = tt
    linear-other (adaptive_in y S) h = tt
    linear-other (sum ts) h = terms_linear-other ts h
    linear-other (product fs) h = (h.0, h.1, factors_linear-other fs h.2)

    terms_linear-other : (ts : Terms) → AreLinear m ts → AreLinear other ts
    terms_linear-other no_terms h = tt
    terms_linear-other (term minus e ts) h = (linear-other e h.0, terms_linear-other ts h.1)

    factors_linear-other : (fs : Factors) → FactorsLinear m fs → FactorsLinear other fs
    factors_linear-other no_factors h = tt
    factors_linear-other (factor e fs) h = (linear-other e h.0, factors_linear-other fs h.1)

  expression-other : (e : Expression) → IsExpression m e → IsExpression other e
  expression-other e h = (inside-other e h.0, linear-other e h.1)

  set_line-other : (c : SetLine) → IsSetLine m c → IsSetLine other c
  set_line-other (line l relation r) h =
      ((expression-other l h.0.0, h.0.1), (expression-other r h.1.0, h.1.1))
  set_line-other (budget limit members) h = h

  -- what is of a set
  mutual
    of-other : (S : ℕ) (e : Expression) → IsOf m S e → IsOf other S e
    of-other S (number q) h = tt
    of-other S (parameter k) h = h
    of-other S (variable k) h = tt
    of-other S (adaptive y) h = h
    of-other S (adaptive_in y T) h = h
    of-other S (sum ts) h = terms_of-other S ts h
    of-other S (product fs) h = factors_of-other S fs h

    terms_of-other : (S : ℕ) (ts : Terms) → TermsOf m S ts → TermsOf other S ts
    terms_of-other S no_terms h = tt
    terms_of-other S (term minus e ts) h = (of-other S e h.0, terms_of-other S ts h.1)

    factors_of-other : (S : ℕ) (fs : Factors) → FactorsOf m S fs → FactorsOf other S fs
    factors_of-other S no_factors h = tt
    factors_of-other S (factor e fs) h = (of-other S e h.0, factors_of-other S fs h.1)

  line_of-other : (S : ℕ) (c : SetLine) → IsLineOf m S c → IsLineOf other S c
  line_of-other S (line l relation r) h = (of-other S l h.0, of-other S r h.1)
  line_of-other S (budget limit members) h = h

  -- with set lines that are well formed in the old model, the new one is well formed
  pub model-other : IsModel m → Each (IsSetLine m) lines →
      EachFrom zero (λ i c. (line_set m i < set_count m) × IsLineOf m (line_set m i) c) lines → IsModel other
  model-other h k own =
      record {
        parameters = h.parameters;
        set_lines = each_map (IsSetLine m) (IsSetLine other) set_line-other lines k;
        lists = h.lists;
        objective = expression-other m.objective h.objective;
        rows = each_map (λ (r : Row). IsExpression m r.left × IsExpression m r.right)
            (λ (r : Row). IsExpression other r.left × IsExpression other r.right)
            (λ r g. (expression-other r.left g.0, expression-other r.right g.1)) m.rows h.rows;
        own_lines = each_from_same (λ i c. (line_set m i < set_count m) × IsLineOf m (line_set m i) c)
            (λ i c. (line_set m i < set_count m) × IsLineOf other (line_set m i) c)
            zero lines (λ i c g. (g.0, line_of-other (line_set m i) c g.1)) own;
        own_objective = (h.own_objective.0, of-other m.objective_set m.objective h.own_objective.1);
        own_rows = each_from_same
            (λ i (r : Row). (row_set m i < set_count m) × (IsOf m (row_set m i) r.left × IsOf m (row_set m i) r.right))
            (λ i (r : Row). (row_set m i < set_count m)
            × (IsOf other (row_set m i) r.left × IsOf other (row_set m i) r.right))
            zero m.rows
            (λ i r g. (g.0, (of-other (row_set m i) r.left g.1.0, of-other (row_set m i) r.right g.1.1))) h.own_rows;
      }
