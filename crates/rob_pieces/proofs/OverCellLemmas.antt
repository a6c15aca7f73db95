-- Expressions and statements over a cell: they have the values, degrees and kinds of what they were made from.
use Rattle.std.specs.Prelude.{◌≡◌, ℕ, suc, pred, ◌+◌, ◌*◌, ◌<◌, ◌≤◌, max, ℤ, pos, negsuc, List, [], ◌∷◌, length, map, refl}
use Rattle.std.proofs.Common.{sym, ◌∙◌, ap, ap₂, subst, arith, suc-mul, mul-le-mul_right}
use Rattle.rob_algebra.specs.Fraction.{Fraction, ◌+ℚ◌, ◌-ℚ◌, ◌*ℚ◌, ◌/ℚ◌, ◌≤ℚ◌}
use Rattle.rob_algebra.specs.FractionLaws as Q
use Rattle.rob_algebra.specs.Polynomials.{lit, minus, ◌:+◌, v0}
use Rattle.rob_meaning.proofs.Tables.TauLemmas.{column_room}
use Rattle.rob_meaning.proofs.Lists.EachLemmas.{each_list}
use Rattle.rob_meaning.specs.Degrees.{AreLinear, FactorsLinear, IsLinear, decision_degree, one_if_some, uncertain_degree}
use Rattle.rob_meaning.specs.Expressions.{Expression, Factors, Terms, adaptive, adaptive_in, factor, no_factors, no_terms, number, parameter, product, sum, term, variable}
use Rattle.rob_meaning.specs.Places.{at, Each}
use Rattle.rob_meaning.specs.RobustModel.{AdaptiveVariable, Member, RobustModel, SetLine, budget, column_from, column_of, joint_number, line, list_of, set_count}
use Rattle.rob_meaning.specs.UncertaintySet.{KeepsLine, Relates, abs_ℚ, total_deviation}
use Rattle.rob_meaning.specs.Values.{product_value, rule_part, rule_value, rule_value_in, signed, sum_value, value}
use Rattle.rob_meaning.specs.WellFormed.{FactorsInside, FactorsOf, IsExpression, IsInside, IsLineOf, IsMember, IsOf, IsParameterOf, IsSetLine, IsSetSide, TermsInside, TermsOf}
use Rattle.rob_pieces.proofs.ColumnLemmas.{column_base, column_in_cell, list_in_cell, parameters_count, rule_is_some, sets_count, variables_count, written_split}
use Rattle.rob_pieces.proofs.OneSetLemmas.{not_named}
use Rattle.rob_pieces.specs.Cuts.{Cut, IsCell, cell_count}
use Rattle.rob_pieces.specs.Pieces.{policy_columns}
use Rattle.rob_pieces.specs.SplitModel.{as_side, factors_over, line_over, member_over, over_cell, parameter_in, rule_in, side_of_sign, split_model, terms_over}

-- a number's side has its value
pub value_side : (m : RobustModel) (plan u : List Fraction) (q : Fraction) → value m plan u (as_side q) ≡ q
value_side m plan u q = by q.num
  where
    by : (z : ℤ) → value m plan u (side_of_sign z q) ≡ q
    by (pos n) = refl
    by (negsuc n) = Q.ring (q ∷ []) (minus (minus v0) :+ lit (pos 0)) v0 refl

module _ (m : RobustModel) (alone : m.sets ≡ []) (cuts : List Cut) (c : ℕ) (cell : IsCell cuts c) where
  abbrev pub s : RobustModel
  s = split_model m cuts

  -- ---- values
  -- the split model's plan has the numbers that a plan of the model has: variables, and the policies of cell c
  pub record Matches (all plan : List Fraction) : Type 0 where
    pub shared : (k : ℕ) → k < length m.variables → at all k ≡ at plan k
    pub policies :
        (j : ℕ) → j < policy_columns m →
        at all (suc (length m.variables) + pred c * policy_columns m + j) ≡ at plan (length m.variables + j)

  pub no_plan : Matches [] []
  no_plan = record { shared = λ k some. refl; policies = λ j some. refl }

  -- a scenario of the split model in which cell c has a scenario of the model
  abbrev pub Reads : List Fraction → List Fraction → Type 0
  Reads w u = (k : ℕ) → k < length m.parameters → at w (parameter_in m c k) ≡ at u k

  module _ (lists : Each (λ (y : AdaptiveVariable). Each (λ k. k < length m.parameters) y.on) m.adaptives)
      (w u : List Fraction) (reads : Reads w u) where
    module _ (all plan : List Fraction) (same : Matches all plan) where
      part_over : (ks : List ℕ) (before behind : ℕ) → Each (λ k. k < length m.parameters) ks →
          ((i : ℕ) → i < length ks → at all (before + i) ≡ at plan (behind + i)) →
          rule_part s all w (map (joint_number s c) ks) before ≡ rule_part m plan u ks behind
      part_over [] before behind h e = refl
      part_over (k ∷ ks) before behind h e =
          ap₂ ◌+ℚ◌
          (ap₂ ◌*ℚ◌
          (ap (λ j. at all j) (let a : before ≡ before + 0 = omega arith in a) ∙ e 0 (omega arith)
          ∙ ap (λ j. at plan j) (let a : behind + 0 ≡ behind = omega arith in a))
          (ap (λ n. at w (c * n + k)) (written_split m cuts) ∙ reads k h.0))
          (part_over ks (suc before) (suc behind) h.1
          (λ i some.
          ap (λ j. at all j) (let a : suc before + i ≡ before + suc i = omega arith in a) ∙ e (suc i) (omega arith)
          ∙ ap (λ j. at plan j) (let a : behind + suc i ≡ suc behind + i = omega arith in a)))

      rule_places : (y : ℕ) → y < length m.adaptives → (i : ℕ) → i < suc (length (list_of m y)) →
          at all (column_of s (rule_in m c y) + i) ≡ at plan (column_of m y + i)
      rule_places y some i small =
          ap (λ j. at all j)
          (ap (λ n. n + i) (column_in_cell m cuts c y cell some)
          ∙ (let a : suc (length m.variables) + pred c * policy_columns m + column_from 0 m.adaptives y + i
          ≡ suc (length m.variables) + pred c * policy_columns m + (column_from 0 m.adaptives y + i) = omega arith in
          a))
          ∙ same.policies (column_from 0 m.adaptives y + i) (let room = column_room 0 m.adaptives y some in omega arith)
          ∙ ap (λ j. at plan j)
          (let base = column_base (length m.variables) m.adaptives y in
          let a : length m.variables + (column_from 0 m.adaptives y + i)
          ≡ column_from (length m.variables) m.adaptives y + i = omega arith in a)

      pub rule_over : (y : ℕ) → y < length m.adaptives → rule_value_in s all w c (rule_in m c y) ≡ rule_value m plan u y
      rule_over y some =
          ap₂ ◌+ℚ◌
          (ap (λ j. at all j) (let a : column_of s (rule_in m c y) ≡ column_of s (rule_in m c y) + 0 = omega arith in a)
          ∙ rule_places y some 0 (omega arith)
          ∙ ap (λ j. at plan j) (let a : column_of m y + 0 ≡ column_of m y = omega arith in a))
          (ap (λ (ks : List ℕ). rule_part s all w (map (joint_number s c) ks) (suc (column_of s (rule_in m c y))))
          (list_in_cell m cuts c y cell some)
          ∙ part_over (list_of m y) (suc (column_of s (rule_in m c y))) (suc (column_of m y))
          (each_list (λ k. k < length m.parameters) m.adaptives y lists)
          (λ i small.
          ap (λ j. at all j)
          (let a : suc (column_of s (rule_in m c y)) + i ≡ column_of s (rule_in m c y) + suc i = omega arith in a)
          ∙ rule_places y some (suc i) (omega arith)
          ∙ ap (λ j. at plan j) (let a : column_of m y + suc i ≡ suc (column_of m y) + i = omega arith in a)))

      mutual
        pub value_over : (e : Expression) → IsInside m e → value s all w (over_cell m c e) ≡ value m plan u e
        value_over (number q) h = refl
        value_over (parameter k) h = reads k h
        value_over (variable k) h = same.shared k h
        value_over (adaptive y) h = rule_over y h
        value_over (adaptive_in y S) h = absurd (not_named m alone S h.1 h.2)
        value_over (sum ts) h = terms_value ts h
        value_over (product fs) h = factors_value fs h

        terms_value : (ts : Terms) → TermsInside m ts → sum_value s all w (terms_over m c ts) ≡ sum_value m plan u ts
        terms_value no_terms h = refl
        terms_value (term negated e ts) h = ap₂ (λ x y. signed negated x +ℚ y) (value_over e h.0) (terms_value ts h.1)

        factors_value : (fs : Factors) → FactorsInside m fs
            → product_value s all w (factors_over m c fs) ≡ product_value m plan u fs
        factors_value no_factors h = refl
        factors_value (factor e fs) h = ap₂ ◌*ℚ◌ (value_over e h.0) (factors_value fs h.1)

    -- ---- statements
    deviations_over : (hs : List Member) → Each (IsMember m) hs
        → total_deviation s w (map (member_over m c) hs) ≡ total_deviation m u hs
    deviations_over [] h = refl
    deviations_over (b ∷ hs) h =
        ap₂ (λ x y. abs_ℚ (x -ℚ b.centre) /ℚ b.deviation +ℚ y) (reads b.parameter h.0.0) (deviations_over hs h.1)

    pub line_kept : (l : SetLine) → IsSetLine m l → KeepsLine m u l → KeepsLine s w (line_over m c l)
    line_kept (line l relation r) own h =
        subst (λ x. Relates relation x (value s [] w (over_cell m c r))) (sym (value_over [] [] no_plan l own.0.0.0))
        (subst (λ x. Relates relation (value m [] u l) x) (sym (value_over [] [] no_plan r own.1.0.0)) h)
    line_kept (budget limit hs) own h = subst (λ x. x ≤ℚ limit) (sym (deviations_over hs own)) h

    pub line_was_kept : (l : SetLine) → IsSetLine m l → KeepsLine s w (line_over m c l) → KeepsLine m u l
    line_was_kept (line l relation r) own h =
        subst (λ x. Relates relation x (value m [] u r)) (value_over [] [] no_plan l own.0.0.0)
        (subst (λ x. Relates relation (value s [] w (over_cell m c l)) x) (value_over [] [] no_plan r own.1.0.0) h)
    line_was_kept (budget limit hs) own h = subst (λ x. x ≤ℚ limit) (deviations_over hs own) h

  -- ---- kinds
  inside_parameter : (k : ℕ) → k < length m.parameters → parameter_in m c k < length s.parameters
  inside_parameter k some =
      subst (λ n. parameter_in m c k < n) (sym (parameters_count m cuts))
      (room c (cell_count cuts) (length m.parameters) cell.1 some)
    where
      room : (i n w : ℕ) → i ≤ n → k < w → i * w + k < suc n * w
      room i n w p q = omega (arith, mul-le-mul_right w p, suc-mul n w)

  own_parameter : (k : ℕ) → k < length m.parameters → IsParameterOf s c (parameter_in m c k)
  own_parameter k some = (
    k,
    subst (λ n. k < n) (sym (written_split m cuts)) some,
    ap (λ n. c * n + k) (sym (written_split m cuts)),
  )

  pub is_set : c < set_count s
  is_set = subst (λ n. c < n) (sym (sets_count m cuts)) (let small = cell.1 in omega arith)

  mutual
    pub inside_over : (e : Expression) → IsInside m e → IsInside s (over_cell m c e)
    inside_over (number q) h = tt
    inside_over (parameter k) h = inside_parameter k h
    inside_over (variable k) h = subst (λ n. k < n) (sym (variables_count m cuts)) (omega arith)
    inside_over (adaptive y) h = (rule_is_some m cuts c y cell h, cell.0, is_set)
    inside_over (adaptive_in y S) h = absurd (not_named m alone S h.1 h.2)
    inside_over (sum ts) h = terms_inside ts h
    inside_over (product fs) h = factors_inside fs h

    terms_inside : (ts : Terms) → TermsInside m ts → TermsInside s (terms_over m c ts)
    terms_inside no_terms h = tt
    terms_inside (term negated e ts) h = (inside_over e h.0, terms_inside ts h.1)

    factors_inside : (fs : Factors) → FactorsInside m fs → FactorsInside s (factors_over m c fs)
    factors_inside no_factors h = tt
    factors_inside (factor e fs) h = (inside_over e h.0, factors_inside fs h.1)

  mutual
    pub own_over : (e : Expression) → IsInside m e → IsOf s c (over_cell m c e)
    own_over (number q) h = tt
    own_over (parameter k) h = own_parameter k h
    own_over (variable k) h = tt
    own_over (adaptive y) h = refl
    own_over (adaptive_in y S) h = refl
    own_over (sum ts) h = own_terms ts h
    own_over (product fs) h = own_factors fs h

    own_terms : (ts : Terms) → TermsInside m ts → TermsOf s c (terms_over m c ts)
    own_terms no_terms h = tt
    own_terms (term negated e ts) h = (own_over e h.0, own_terms ts h.1)

    own_factors : (fs : Factors) → FactorsInside m fs → FactorsOf s c (factors_over m c fs)
    own_factors no_factors h = tt
    own_factors (factor e fs) h = (own_over e h.0, own_factors fs h.1)

  -- ---- degrees
  mutual
    uncertain_over : (e : Expression) → IsInside m e → uncertain_degree s (over_cell m c e) ≡ uncertain_degree m e
    uncertain_over (number q) h = refl
    uncertain_over (parameter k) h = refl
    uncertain_over (variable k) h = refl
    uncertain_over (adaptive y) h = ap one_if_some (list_in_cell m cuts c y cell h)
    uncertain_over (adaptive_in y S) h = absurd (not_named m alone S h.1 h.2)
    uncertain_over (sum ts) h = uncertain_terms ts h
    uncertain_over (product fs) h = uncertain_factors fs h

    uncertain_terms : (ts : Terms) → TermsInside m ts →
        uncertain_degree s (sum (terms_over m c ts)) ≡ uncertain_degree m (sum ts)
    uncertain_terms no_terms h = refl
    uncertain_terms (term negated e ts) h = ap₂ max (uncertain_over e h.0) (uncertain_terms ts h.1)

    uncertain_factors : (fs : Factors) → FactorsInside m fs →
        uncertain_degree s (product (factors_over m c fs)) ≡ uncertain_degree m (product fs)
    uncertain_factors no_factors h = refl
    uncertain_factors (factor e fs) h = ap₂ ◌+◌ (uncertain_over e h.0) (uncertain_factors fs h.1)

  mutual
    decision_over : (e : Expression) → decision_degree s (over_cell m c e) ≡ decision_degree m e
    decision_over (number q) = refl
    decision_over (parameter k) = refl
    decision_over (variable k) = refl
    decision_over (adaptive y) = refl
    decision_over (adaptive_in y S) = refl
    decision_over (sum ts) = decision_terms ts
    decision_over (product fs) = decision_factors fs

    decision_terms : (ts : Terms) → decision_degree s (sum (terms_over m c ts)) ≡ decision_degree m (sum ts)
    decision_terms no_terms = refl
    decision_terms (term negated e ts) = ap₂ max (decision_over e) (decision_terms ts)

    decision_factors : (fs : Factors) → decision_degree s (product (factors_over m c fs))
        ≡ decision_degree m (product fs)
    decision_factors no_factors = refl
    decision_factors (factor e fs) = ap₂ ◌+◌ (decision_over e) (decision_factors fs)

  mutual
    linear_over : (e : Expression) → IsInside m e → IsLinear m e → IsLinear s (over_cell m c e)
    linear_over (number q) h l = tt
    linear_over (parameter k) h l = tt
    linear_over (variable k) h l = tt
    linear_over (adaptive y) h l = tt
    linear_over (adaptive_in y S) h l = tt
    linear_over (sum ts) h l = linear_terms ts h l
    linear_over (product fs) h l = (
      subst (λ n. n ≤ 1) (sym (uncertain_factors fs h)) l.0,
      subst (λ n. n ≤ 1) (sym (decision_factors fs)) l.1,
      linear_factors fs h l.2,
    )

    linear_terms : (ts : Terms) → TermsInside m ts → AreLinear m ts → AreLinear s (terms_over m c ts)
    linear_terms no_terms h l = tt
    linear_terms (term negated e ts) h l = (linear_over e h.0 l.0, linear_terms ts h.1 l.1)

    linear_factors : (fs : Factors) → FactorsInside m fs → FactorsLinear m fs → FactorsLinear s (factors_over m c fs)
    linear_factors no_factors h l = tt
    linear_factors (factor e fs) h l = (linear_over e h.0 l.0, linear_factors fs h.1 l.1)

  pub expression_over : (e : Expression) → IsExpression m e → IsExpression s (over_cell m c e)
  expression_over e h = (inside_over e h.0, linear_over e h.0 h.1)

  set_side_over : (e : Expression) → IsSetSide m e → IsSetSide s (over_cell m c e)
  set_side_over e h = (expression_over e h.0, decision_over e ∙ h.1)

  members_over : (hs : List Member) → Each (IsMember m) hs → Each (IsMember s) (map (member_over m c) hs)
  members_over [] h = tt
  members_over (b ∷ hs) h = ((inside_parameter b.parameter h.0.0, h.0.1), members_over hs h.1)

  own_members : (hs : List Member) → Each (IsMember m) hs →
      Each (λ (h : Member). IsParameterOf s c h.parameter) (map (member_over m c) hs)
  own_members [] h = tt
  own_members (b ∷ hs) h = (own_parameter b.parameter h.0.0, own_members hs h.1)

  pub set_line_over : (l : SetLine) → IsSetLine m l → IsSetLine s (line_over m c l)
  set_line_over (line l relation r) h = (set_side_over l h.0, set_side_over r h.1)
  set_line_over (budget limit hs) h = members_over hs h

  pub own_line_over : (l : SetLine) → IsSetLine m l → IsLineOf s c (line_over m c l)
  own_line_over (line l relation r) h = (own_over l h.0.0.0, own_over r h.1.0.0)
  own_line_over (budget limit hs) h = own_members hs h

  -- ---- the sides of cuts and of bounds
  pub parameter_side : (k : ℕ) → k < length m.parameters → IsSetSide s (parameter (parameter_in m c k))
  parameter_side k some = ((inside_parameter k some, tt), refl)

  pub own_parameter_side : (k : ℕ) → k < length m.parameters → IsOf s c (parameter (parameter_in m c k))
  own_parameter_side k some = own_parameter k some

  pub number_side : (q : Fraction) → IsSetSide s (as_side q)
  number_side q = by q.num
    where
      by : (z : ℤ) → IsSetSide s (side_of_sign z q)
      by (pos n) = ((tt, tt), refl)
      by (negsuc n) = (((tt, tt), (tt, tt)), refl)

  pub own_number_side : (q : Fraction) → IsOf s c (as_side q)
  own_number_side q = by q.num
    where
      by : (z : ℤ) → IsOf s c (side_of_sign z q)
      by (pos n) = tt
      by (negsuc n) = (tt, tt)
