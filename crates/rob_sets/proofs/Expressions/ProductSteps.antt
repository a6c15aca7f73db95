-- A product factor by factor: the table so far, what is left to judge, and how many factors may still be uncertain.
use Rattle.std.specs.Prelude.{◌≡◌, ℕ, ◌+◌, ◌<◌, ◌≤◌, List, map, length, Result, IsErrAnd, refl}
use Rattle.std.proofs.Common.{◌∙◌, ap, arith, get_or, subst}
use Rattle.rob_algebra.specs.Fraction.{Fraction}
use Rattle.rob_algebra.specs.Width.{Fits, IsWide}
use Rattle.rob_number.specs.Counts.{Rose}
use Rattle.rob_meaning.specs.Coefficients.{single, product_table, table_times}
use Rattle.rob_meaning.specs.Degrees.{FactorsLinear, decision_degree, uncertain_degree}
use Rattle.rob_meaning.specs.Expressions.{Factors, product}
use Rattle.rob_meaning.specs.RobustModel.{RobustModel}
use Rattle.rob_meaning.specs.WellFormed.{FactorsInside}
use Rattle.rob_model.specs.View.{expression_of, factors_of}
use Rattle.rob_model.specs.declared.expr.Expr.{Expr}
use Rattle.rob_model.proofs.PartLemmas.{factors_at, factors_inside}
use Rattle.rob_sets.specs.Stops.{StopsFor}
use Rattle.rob_sets.specs.Subexpressions.{products_from}
use Rattle.rob_sets.specs.Tables.{AreApart, numbers_of}
use Rattle.rob_sets.specs.Tabulating.{IsTableOf, IsWideWithin, Tabulates}
use Rattle.rob_sets.specs.declared.error.Stop.{Stop}
use Rattle.rob_sets.specs.declared.table.Table.{Table}
use Rattle.rob_sets.proofs.Expressions.DegreeLemmas.{apart, degree_left}
use Rattle.rob_sets.proofs.Judging.JudgingLemmas.{judging_begins, judging_ends, judging_goes_on}
use Rattle.rob_sets.proofs.Expressions.PrefixLemmas.{first_factors, other_factors, products_at, factors_end, product_more}
use Rattle.rob_sets.proofs.Expressions.TabulatingLemmas.{IsLeft, part_stops, whole_goes_on, whole_stops}

module _ {N : Type 0} (value : N → Fraction) (limit : ℕ) (m : RobustModel) where
  -- the table is that of the first factors; all together have at most one uncertain factor, and one with decisions
  pub record ProductSoFar (fs : List (Expr N)) (i : ℕ) (so_far : Table N) : Type 0 where
    pub table : (k j : ℕ) → numbers_of value so_far k j ≡ product_table m (first_factors value fs i) k j
    pub judging : IsLeft limit m (product (factors_of (map (expression_of value) fs)))
        (products_from (first_factors value fs i) (other_factors value fs i))
    pub inside : FactorsInside m (other_factors value fs i)
    pub linear : FactorsLinear m (other_factors value fs i)
    pub uncertain : uncertain_degree m (product (first_factors value fs i))
        + uncertain_degree m (product (other_factors value fs i)) ≤ 1
    pub decision : decision_degree m (product (first_factors value fs i))
        + decision_degree m (product (other_factors value fs i)) ≤ 1

module _ {N : Type 0} {value : N → Fraction} {limit : ℕ} {m : RobustModel} where
  pub product_begins : {fs : List (Expr N)} {so_far : Table N}
      → ((k j : ℕ) → numbers_of value so_far k j ≡ single 0 0 k j)
      → FactorsInside m (factors_of (map (expression_of value) fs))
      → FactorsLinear m (factors_of (map (expression_of value) fs))
      → uncertain_degree m (product (factors_of (map (expression_of value) fs))) ≤ 1
      → decision_degree m (product (factors_of (map (expression_of value) fs))) ≤ 1
      → ProductSoFar value limit m fs 0 so_far
  product_begins one inside linear u d = record {
    table = one;
    judging = judging_begins _;
    inside = inside;
    linear = linear;
    uncertain = omega (arith, u);
    decision = omega (arith, d);
  }

  module _ {fs : List (Expr N)} {i : ℕ} {so_far : Table N} (p : ProductSoFar value limit m fs i so_far) where
    -- one factor more
    module _ (at : i < length fs) {f : Expr N} (is : f ≡ get_or fs i f) where
      pub product_part_stops : (first before last : ℕ) (r : Result (Table N) Stop) (stop : Stop) → first ≤ before
          → StopsFor (IsWideWithin limit m (expression_of value f) before last) stop → IsErrAnd r (λ d. d ≡ stop)
          → Tabulates value limit m (product (factors_of (map (expression_of value) fs))) first last r
      product_part_stops first before last r stop least h refused =
          part_stops value limit m (product (factors_of (map (expression_of value) fs))) first before last r stop
          p.judging (products_at value fs i f at is) least h refused

      module _ {part : Table N} (here : IsTableOf value limit m (expression_of value f) part) where
        pub product_apart : AreApart (numbers_of value so_far) (numbers_of value part)
        product_apart =
            let d = degree_left value m fs i f at is p.uncertain p.decision in
            apart m (first_factors value fs i) (expression_of value f) (numbers_of value so_far)
            (numbers_of value part) p.table here.coefficients d.0 d.1

        pub product_stops : (first before last : ℕ) (r : Result (Table N) Stop) (stop : Stop) → first ≤ before
            → StopsFor (Rose before last × ((k : ℕ) × (j : ℕ)
            × IsWide limit (table_times (numbers_of value so_far) (numbers_of value part) k j))) stop
            → IsErrAnd r (λ d. d ≡ stop)
            → Tabulates value limit m (product (factors_of (map (expression_of value) fs))) first last r
        product_stops first before last r stop least h refused =
            whole_stops value limit m (product (factors_of (map (expression_of value) fs)))
            (product (first_factors value fs (i + 1))) _
            (table_times (numbers_of value so_far) (numbers_of value part)) first before last r stop
            (judging_goes_on p.judging (products_at value fs i f at is) here.none_wide)
            (product_more value m (numbers_of value so_far) (numbers_of value part)
            (table_times (numbers_of value so_far) (numbers_of value part)) fs i f at is p.table here.coefficients
            (λ k j. refl))
            least h refused

        pub product_goes_on : ((x : N) → Fits limit (value x)) → 1 ≤ limit → (next : Table N)
            → ((k j : ℕ) → numbers_of value next k j
            ≡ table_times (numbers_of value so_far) (numbers_of value part) k j)
            → ProductSoFar value limit m fs (i + 1) next
        product_goes_on fits one next h =
            let table = product_more value m (numbers_of value so_far) (numbers_of value part) (numbers_of value next)
            fs i f at is p.table here.coefficients h in
            let d = degree_left value m fs i f at is p.uncertain p.decision in
            record {
              table = table;
              judging = whole_goes_on value limit fits one m (product (factors_of (map (expression_of value) fs)))
                  (product (first_factors value fs (i + 1))) next table
                  (judging_goes_on p.judging (products_at value fs i f at is) here.none_wide);
              inside = (factors_inside value m fs i f at is p.inside).1;
              linear = (subst (FactorsLinear m) (factors_at value fs i f at is) p.linear).1;
              uncertain = d.2;
              decision = d.3;
            }

    -- all are done
    pub product_ends : length fs ≤ i
        → IsTableOf value limit m (product (factors_of (map (expression_of value) fs))) so_far
    product_ends over =
        let e = factors_end value fs i over in
        record {
          coefficients = λ k j. p.table k j ∙ ap (λ (x : Factors). product_table m x k j) e.0;
          none_wide = judging_ends p.judging (ap (products_from (first_factors value fs i)) e.1);
        }
