-- Tests for worked examples: each gives the fact itself, where it holds of data without variables.
use Rattle.std.proofs.Common.{ap, ◌∙◌, ap₂, refl}
use Rattle.std.specs.Prelude.{◌≡◌, ◌<◌, ℕ, ◌-◌, ◌*◌, List, [], ◌∷◌, ◌++◌, length, Option, Some, None}
use Rattle.rob_algebra.specs.Fraction.{Fraction, ◌<ℚ◌, ◌+ℚ◌, ◌*ℚ◌}
use Rattle.rob_meaning.proofs.Conditions.AdmittedLemmas.{meets_admits}
use Rattle.rob_meaning.proofs.Conditions.ConeLemmas.{meets_taken}
use Rattle.rob_meaning.proofs.Proving.ProvesLemmas.{certificate_true}
use Rattle.rob_meaning.specs.Certificates.{Status, optimal, infeasible, unbounded, Cover, Item, Certificate}
use Rattle.rob_meaning.specs.Degrees.{uncertain_degree, decision_degree, IsLinear, AreLinear, FactorsLinear}
use Rattle.rob_meaning.specs.Expressions.{Expression, number, parameter, variable, adaptive, adaptive_in, sum, product, Terms, no_terms, term, Factors, no_factors, factor}
use Rattle.rob_meaning.specs.Forms.{matrices, plan_vector, constant_part, parameter_part}
use Rattle.rob_meaning.specs.Multipliers.{set_matrix, set_limits, Covers, ShowsEmpty}
use Rattle.rob_meaning.specs.Places.{0ℚ, 1ℚ, at, Each}
use Rattle.rob_meaning.specs.Proves.{amounts_of, EachCovered, IsItem, combination, target, Improves, ProvesOptimal, ProvesInfeasible, ProvesUnbounded, ProvesAs, HasStatus, Proves}
use Rattle.rob_meaning.specs.RobustModel.{Relation, at_most, at_least, equal, Sense, minimise, maximise, Parameter, Member, AdaptiveVariable, SetLine, line, budget, Row, RobustModel, joint_parameters, set_count, written_count, written_parameters, joint_number, line_set, row_set, column_count}
use Rattle.rob_meaning.specs.SetConditions.{SetCondition, lower_bound, upper_bound, stated, set_conditions, taken, total_taken, Holds, Meets}
use Rattle.rob_meaning.specs.SetRows.{set_rows, set_column_count, lift_count}
use Rattle.rob_meaning.specs.UncertaintySet.{Relates, Admits}
use Rattle.rob_meaning.specs.Vectors.{dot, scale, zeros, vec_mat}
use Rattle.rob_meaning.specs.WellFormed.{IsInside, TermsInside, FactorsInside, IsExpression, IsSetSide, IsMember, IsSetLine, IsParameterOf, IsOf, TermsOf, FactorsOf, IsLineOf, IsModel}
pub use Rattle.rob_meaning.proofs.ByHand.WorkedDecisions.{Found, found, both, so, test_below, test_at_most, test_count, below_differs, test_differ, test_numbers, test_le, test_lt, test_same, test_each, test_nonnegative, test_list, test_each_from}

-- ---- parameters
abbrev test_name : (xs ys : List ℕ) → Option (xs ≡ ys)
test_name [] [] = Some refl
test_name [] (y ∷ ys) = None
test_name (x ∷ xs) [] = None
test_name (x ∷ xs) (y ∷ ys) =
    so (λ h. ap₂ (λ (z : ℕ) (zs : List ℕ). z ∷ zs) h.0 h.1) (both (test_count x y) (test_name xs ys))

abbrev test_bound : (a b : Option Fraction) → Option (a ≡ b)
test_bound None None = Some refl
test_bound None (Some y) = None
test_bound (Some x) None = None
test_bound (Some x) (Some y) = so (λ e. ap (λ z. Some z) e) (test_same x y)

abbrev declared_as : List ℕ → Option Fraction → Option Fraction → Parameter
declared_as name lower upper = record { name = name; lower = lower; upper = upper }

abbrev test_parameter : (p q : Parameter) → Option (p ≡ q)
test_parameter p q =
    so
    (λ h. ap (λ a. declared_as a p.lower p.upper) h.0 ∙ ap₂ (λ b c. declared_as q.name b c) h.1.0 h.1.1)
    (both (test_name p.name q.name) (both (test_bound p.lower q.lower) (test_bound p.upper q.upper)))

abbrev test_parameters : (ps qs : List Parameter) → Option (ps ≡ qs)
test_parameters [] [] = Some refl
test_parameters [] (q ∷ qs) = None
test_parameters (p ∷ ps) [] = None
test_parameters (p ∷ ps) (q ∷ qs) =
    so (λ h. ap₂ (λ (x : Parameter) (xs : List Parameter). x ∷ xs) h.0 h.1)
    (both (test_parameter p q) (test_parameters ps qs))

module _ (m : RobustModel) where
  -- ---- models
  abbrev mutual
    test_inside : (e : Expression) → Option (IsInside m e)
    test_inside (number q) = Some tt
    test_inside (parameter k) = test_below k (length m.parameters)
    test_inside (variable k) = test_below k (length m.variables)
    test_inside (adaptive k) = test_below k (length m.adaptives)
    test_inside (adaptive_in k S) =
        so (λ h. (h.0, h.1.0, h.1.1))
        (both (test_below k (length m.adaptives)) (both (test_below 0 S) (test_below S (set_count m))))
    test_inside (sum ts) = test_terms_inside ts
    test_inside (product fs) = test_factors_inside fs

    test_terms_inside : (ts : Terms) → Option (TermsInside m ts)
    test_terms_inside no_terms = Some tt
    test_terms_inside (term minus e ts) = both (test_inside e) (test_terms_inside ts)

    test_factors_inside : (fs : Factors) → Option (FactorsInside m fs)
    test_factors_inside no_factors = Some tt
    test_factors_inside (factor e fs) = both (test_inside e) (test_factors_inside fs)

  abbrev mutual
    test_linear : (e : Expression) → Option (IsLinear m e)
    test_linear (number q) = Some tt
    test_linear (parameter k) = Some tt
    test_linear (variable k) = Some tt
    test_linear (adaptive k) = Some tt
    test_linear (adaptive_in k S) = Some tt
    test_linear (sum ts) = test_terms_linear ts
    test_linear (product fs) =
        so (λ h. (h.0.0, h.0.1, h.1))
        (both (both (test_at_most (uncertain_degree m (product fs)) 1)
        (test_at_most (decision_degree m (product fs)) 1))
        (test_factors_linear fs))

    test_terms_linear : (ts : Terms) → Option (AreLinear m ts)
    test_terms_linear no_terms = Some tt
    test_terms_linear (term minus e ts) = both (test_linear e) (test_terms_linear ts)

    test_factors_linear : (fs : Factors) → Option (FactorsLinear m fs)
    test_factors_linear no_factors = Some tt
    test_factors_linear (factor e fs) = both (test_linear e) (test_factors_linear fs)

  abbrev test_expression : (e : Expression) → Option (IsExpression m e)
  test_expression e = both (test_inside e) (test_linear e)

  abbrev test_set_side : (e : Expression) → Option (IsSetSide m e)
  test_set_side e = both (test_expression e) (test_count (decision_degree m e) 0)

  abbrev test_set_line : (c : SetLine) → Option (IsSetLine m c)
  test_set_line (line l relation r) = both (test_set_side l) (test_set_side r)
  test_set_line (budget limit members) =
      test_each (IsMember m) (λ h. both (test_below h.parameter (length m.parameters)) (test_lt 0ℚ h.deviation)) members

  -- what stands in a row or statement is of set S
  abbrev test_parameter_of : (S k : ℕ) → Option (IsParameterOf m S k)
  test_parameter_of S k =
      so (λ h. (k - S * written_count m, h.0, h.1))
      (both (test_below (k - S * written_count m) (written_count m))
      (test_count k (joint_number m S (k - S * written_count m))))

  abbrev mutual
    test_of : (S : ℕ) (e : Expression) → Option (IsOf m S e)
    test_of S (number q) = Some tt
    test_of S (parameter k) = test_parameter_of S k
    test_of S (variable k) = Some tt
    test_of S (adaptive k) = test_count 0 S
    test_of S (adaptive_in k T) = test_count T S
    test_of S (sum ts) = test_terms_of S ts
    test_of S (product fs) = test_factors_of S fs

    test_terms_of : (S : ℕ) (ts : Terms) → Option (TermsOf m S ts)
    test_terms_of S no_terms = Some tt
    test_terms_of S (term minus e ts) = both (test_of S e) (test_terms_of S ts)

    test_factors_of : (S : ℕ) (fs : Factors) → Option (FactorsOf m S fs)
    test_factors_of S no_factors = Some tt
    test_factors_of S (factor e fs) = both (test_of S e) (test_factors_of S fs)

  abbrev test_line_of : (S : ℕ) (c : SetLine) → Option (IsLineOf m S c)
  test_line_of S (line l relation r) = both (test_of S l) (test_of S r)
  test_line_of S (budget limit members) =
      test_each (λ (h : Member). IsParameterOf m S h.parameter) (λ h. test_parameter_of S h.parameter) members

  abbrev pub test_model : Option (IsModel m)
  test_model =
      so (λ h. record {
        set_lines = h.0.0.0;
        lists = h.0.0.1;
        objective = h.0.1.0;
        rows = h.0.1.1;
        parameters = h.1.0.0;
        own_lines = h.1.0.1;
        own_objective = h.1.1.0;
        own_rows = h.1.1.1;
      })
      (both
      (both
      (both (test_each (IsSetLine m) test_set_line m.set_lines)
      (test_each (λ (y : AdaptiveVariable). Each (λ k. k < written_count m) y.on)
      (λ y. test_each (λ k. k < written_count m) (λ k. test_below k (written_count m)) y.on) m.adaptives))
      (both (test_expression m.objective)
      (test_each (λ (r : Row). IsExpression m r.left × IsExpression m r.right)
      (λ r. both (test_expression r.left) (test_expression r.right)) m.rows)))
      (both
      (both (test_parameters m.parameters (joint_parameters (written_parameters m) m.sets))
      (test_each_from (λ i (c : SetLine). (line_set m i < set_count m) × IsLineOf m (line_set m i) c)
      (λ i c. both (test_below (line_set m i) (set_count m)) (test_line_of (line_set m i) c)) 0 m.set_lines))
      (both (both (test_below m.objective_set (set_count m)) (test_of m.objective_set m.objective))
      (test_each_from
      (λ i (r : Row). (row_set m i < set_count m) × (IsOf m (row_set m i) r.left × IsOf m (row_set m i) r.right))
      (λ i r. both (test_below (row_set m i) (set_count m))
      (both (test_of (row_set m i) r.left) (test_of (row_set m i) r.right)))
      0 m.rows))))

  -- ---- the uncertainty set
  abbrev test_relates : (relation : Relation) (a b : Fraction) → Option (Relates relation a b)
  test_relates at_most a b = test_le a b
  test_relates at_least a b = test_le b a
  test_relates equal a b = test_same a b

  abbrev test_holds : (s : Fraction) (p : List Fraction) (c : SetCondition) → Option (Holds m s p c)
  test_holds s p (lower_bound k l) = test_le (s *ℚ l) (at p k)
  test_holds s p (upper_bound k b) = test_le (at p k) (s *ℚ b)
  test_holds s p (stated (line l relation r)) = test_relates relation (taken m s p l) (taken m s p r)
  test_holds s p (stated (budget limit members)) = test_le (total_taken m s p members) (s *ℚ limit)

  abbrev pub test_meets : (s : Fraction) (p : List Fraction) → Option (Meets m s p)
  test_meets s p =
      so (λ h. record { numbers = h.0; conditions = h.1 })
      (both (test_count (length p) (length m.parameters)) (test_each (Holds m s p) (test_holds s p) (set_conditions m)))

  abbrev pub test_admits : IsModel m → (u : List Fraction) → Option (Admits m u)
  test_admits model u = so (meets_admits m model u) (test_meets 1ℚ u)

  -- ---- multipliers
  abbrev test_covers : (i : ℕ) (s : Fraction) (z amounts : List Fraction) → Option (Covers m i s z amounts)
  test_covers i s z amounts =
      so (λ h. record { count = h.0.0; nonnegative = h.0.1; columns = h.1.0; constant = h.1.1 })
      (both
      (both (test_count (length amounts) (length (set_rows m))) (test_nonnegative amounts))
      (both
      (test_list (vec_mat (set_column_count m) amounts (set_matrix m))
      (scale s (parameter_part m i z) ++ zeros (lift_count m.set_lines)))
      (test_le (dot amounts (set_limits m) +ℚ s *ℚ constant_part m i z) 0ℚ)))

  abbrev test_each_covered : (covers : List Cover) (s : Fraction) (z : List Fraction) →
      Option (EachCovered m covers s z)
  test_each_covered covers s z =
      test_numbers (length (matrices m)) (λ i. Covers m i s z (amounts_of m covers i))
      (λ i. test_covers i s z (amounts_of m covers i))

  abbrev pub test_empty : (weights : List Fraction) → Option (ShowsEmpty m weights)
  test_empty weights =
      so (λ h. record { count = h.0.0; nonnegative = h.0.1; columns = h.1.0; negative = h.1.1 })
      (both
      (both (test_count (length weights) (length (set_rows m))) (test_nonnegative weights))
      (both
      (test_list (vec_mat (set_column_count m) weights (set_matrix m)) (zeros (set_column_count m)))
      (test_lt (dot weights (set_limits m)) 0ℚ)))

  -- ---- certificates
  module _ (model : IsModel m) where
    abbrev test_item : (item : Item) → Option (IsItem m item)
    test_item item =
        so (λ h. record { weight = h.0; taken = meets_taken m model item.base item.vector h.1.0 h.1.1 })
        (both (test_lt 0ℚ item.weight) (both (test_le 0ℚ item.base) (test_meets item.base item.vector)))

    abbrev test_improves : (sense : Sense) (d : Fraction) → Option (Improves sense d)
    test_improves minimise d = test_lt d 0ℚ
    test_improves maximise d = test_lt 0ℚ d

    abbrev test_inside_and_items : (c : Certificate) → Option (Admits m c.inside × Each (IsItem m) c.items)
    test_inside_and_items c = both (test_admits model c.inside) (test_each (IsItem m) test_item c.items)

    abbrev test_plan : (c : Certificate) → Option ((0ℚ <ℚ c.scale) ×
        ((length c.plan ≡ column_count m) × EachCovered m c.covers c.scale (plan_vector 1ℚ c.plan c.value)))
    test_plan c =
        both (test_lt 0ℚ c.scale)
        (both (test_count (length c.plan) (column_count m))
        (test_each_covered c.covers c.scale (plan_vector 1ℚ c.plan c.value)))

    abbrev test_optimal : (c : Certificate) → Option (ProvesOptimal m c)
    test_optimal c =
        so (λ h. record {
          inside = h.0.0;
          items = h.0.1;
          scale = h.1.0.0;
          columns = h.1.0.1.0;
          covered = h.1.0.1.1;
          sums = h.1.1;
        })
        (both (test_inside_and_items c)
        (both (test_plan c) (test_list (combination m c.items) (target m.sense (column_count m) c.value))))

    -- the constant is the first number of the items' sum
    abbrev test_infeasible : (c : Certificate) → Option (ProvesInfeasible m c)
    test_infeasible c =
        let constant = at (combination m c.items) 0 in
        so (λ h. record { inside = h.0.0; items = h.0.1; constant = constant; positive = h.1.0; sums = h.1.1 })
        (both (test_inside_and_items c)
        (both (test_lt 0ℚ constant)
        (test_list (combination m c.items) (plan_vector constant (zeros (column_count m)) 0ℚ))))

    abbrev test_unbounded : (c : Certificate) → Option (ProvesUnbounded m c)
    test_unbounded c =
        so
        (λ h. record {
          inside = h.0.0;
          items = h.0.1;
          scale = h.1.0.0;
          columns = h.1.0.1.0;
          covered = h.1.0.1.1;
          step_columns = h.1.1.0;
          held = h.1.1.1.0;
          improves = h.1.1.1.1;
        })
        (both (test_inside_and_items c)
        (both (test_plan c)
        (both (test_count (length c.step) (column_count m))
        (both (test_each_covered c.holds 1ℚ (plan_vector 0ℚ c.step c.step_bound))
        (test_improves m.sense c.step_bound)))))

    abbrev test_as : (status : Status) (c : Certificate) → Option (ProvesAs status m c)
    test_as optimal c = test_optimal c
    test_as infeasible c = test_infeasible c
    test_as unbounded c = test_unbounded c

  abbrev proves_with : (c : Certificate) → Option (IsModel m) → Option (Proves m c)
  proves_with c None = None
  proves_with c (Some model) = test_as model c.status c

  -- the certificate proves, where the model is well formed
  abbrev pub test_proves : (c : Certificate) → Option (Proves m c)
  test_proves c = proves_with c test_model

  abbrev with_model : (c : Certificate) → Option (IsModel m) → Option (HasStatus m c.status c.value)
  with_model c None = None
  with_model c (Some model) = so (certificate_true m model c) (test_as model c.status c)

  -- what the certificate claims, where the model is well formed and the certificate proves
  abbrev pub test_certificate : (c : Certificate) → Option (HasStatus m c.status c.value)
  test_certificate c = with_model c test_model
