-- A plan keeps a scenario with a bound exactly where each form's value there is at most 0.
use Rattle.std.specs.Prelude.{◌≡◌, ℕ, zero, suc, ◌+◌, ◌≤◌, pos, List, [], ◌∷◌, ◌++◌, length, refl, Option, Some, None}
use Rattle.std.proofs.Common.{sym, subst, arith}
use Rattle.rob_algebra.specs.Fraction.{Fraction, ◌+ℚ◌, neg_ℚ, ◌≤ℚ◌}
use Rattle.rob_algebra.specs.FractionOrderLaws as Q
use Rattle.rob_algebra.specs.Polynomials.{lit, minus, ◌:+◌, v0, v1}
use Rattle.rob_meaning.proofs.Lists.EachLemmas.{each_append, each_left, each_right}
use Rattle.rob_meaning.proofs.Lists.LinearLemmas.{le_by}
use Rattle.rob_meaning.proofs.Tables.TauLemmas.{at-end, value_more, variable_more, rule_more}
use Rattle.rob_meaning.specs.Degrees.{IsLinear}
use Rattle.rob_meaning.specs.Expressions.{Expression, adaptive, number, variable}
use Rattle.rob_meaning.specs.Forms.{adaptive_forms, bound_forms, difference, forms, objective_form, row_forms, sides, tau_column, variable_forms}
use Rattle.rob_meaning.specs.Guarantee.{IsNoWorse}
use Rattle.rob_meaning.specs.JointMeaning.{Keeps}
use Rattle.rob_meaning.specs.Places.{0ℚ, Each, EachFrom, at}
use Rattle.rob_meaning.specs.RobustModel.{AdaptiveVariable, Relation, RobustModel, Row, Sense, Variable, at_least, at_most, column_count, equal, maximise, minimise}
use Rattle.rob_meaning.specs.SetConditions.{if_declared}
use Rattle.rob_meaning.specs.UncertaintySet.{KeepsBounds, KeepsLower, KeepsUpper, Relates}
use Rattle.rob_meaning.specs.Values.{rule_value, value}
use Rattle.rob_meaning.specs.WellFormed.{IsExpression, IsModel}

module _ (m : RobustModel) (plan : List Fraction) (tau : Fraction) (u : List Fraction)
    (fits : length plan ≡ column_count m) where
  -- the form's value is at most 0
  abbrev pub Nonpositive : Expression → Type 0
  Nonpositive e = value m (plan ++ tau ∷ []) u e ≤ℚ 0ℚ

  less_in : (a b x y : Fraction) → a ≡ x → b ≡ y → x ≤ℚ y → a +ℚ (neg_ℚ b +ℚ 0ℚ) ≤ℚ 0ℚ
  less_in a b x y p q h =
      le_by (a ∷ b ∷ []) (v0 :+ (minus v1 :+ lit (pos 0))) (lit (pos 0)) v0 v1 refl
      (subst (λ z. z ≤ℚ b) (sym p) (subst (λ z. x ≤ℚ z) (sym q) h))

  less_out : (a b x y : Fraction) → a ≡ x → b ≡ y → a +ℚ (neg_ℚ b +ℚ 0ℚ) ≤ℚ 0ℚ → x ≤ℚ y
  less_out a b x y p q h =
      subst (λ z. z ≤ℚ y) p
      (subst (λ z. a ≤ℚ z) q (le_by (a ∷ b ∷ []) v0 v1 (v0 :+ (minus v1 :+ lit (pos 0))) (lit (pos 0)) refl h))

  diff_in : (a b : Expression) (x y : Fraction) → value m (plan ++ tau ∷ []) u a ≡ x →
      value m (plan ++ tau ∷ []) u b ≡ y → x ≤ℚ y → Nonpositive (difference a b)
  diff_in a b x y p q h = less_in (value m (plan ++ tau ∷ []) u a) (value m (plan ++ tau ∷ []) u b) x y p q h

  diff_out : (a b : Expression) (x y : Fraction) → value m (plan ++ tau ∷ []) u a ≡ x →
      value m (plan ++ tau ∷ []) u b ≡ y → Nonpositive (difference a b) → x ≤ℚ y
  diff_out a b x y p q h = less_out (value m (plan ++ tau ∷ []) u a) (value m (plan ++ tau ∷ []) u b) x y p q h

  tau_is : at (plan ++ tau ∷ []) (column_count m) ≡ tau
  tau_is = at-end plan tau (column_count m) fits

  objective_in : (sense : Sense) (e : Expression) → IsExpression m e → IsNoWorse sense (value m plan u e) tau →
      Nonpositive (objective_form sense e (tau_column m))
  objective_in minimise e ok h =
      diff_in e (tau_column m) (value m plan u e) tau (value_more m plan (tau ∷ []) u fits e ok.0) tau_is h
  objective_in maximise e ok h =
      diff_in (tau_column m) e tau (value m plan u e) tau_is (value_more m plan (tau ∷ []) u fits e ok.0) h

  objective_out : (sense : Sense) (e : Expression) → IsExpression m e →
      Nonpositive (objective_form sense e (tau_column m)) → IsNoWorse sense (value m plan u e) tau
  objective_out minimise e ok h =
      diff_out e (tau_column m) (value m plan u e) tau (value_more m plan (tau ∷ []) u fits e ok.0) tau_is h
  objective_out maximise e ok h =
      diff_out (tau_column m) e tau (value m plan u e) tau_is (value_more m plan (tau ∷ []) u fits e ok.0) h

  -- ---- rows
  sides_in : (relation : Relation) (a b : Expression) (x y : Fraction) → value m (plan ++ tau ∷ []) u a ≡ x →
      value m (plan ++ tau ∷ []) u b ≡ y → Relates relation x y → Each Nonpositive (sides relation a b)
  sides_in at_most a b x y p q h = (diff_in a b x y p q h, tt)
  sides_in at_least a b x y p q h = (diff_in b a y x q p h, tt)
  sides_in equal a b x y p q h = (
    diff_in a b x y p q (subst (λ z. x ≤ℚ z) h (Q.le_refl_ℚ x)),
    (diff_in b a y x q p (subst (λ z. z ≤ℚ x) h (Q.le_refl_ℚ x)), tt),
  )

  sides_out : (relation : Relation) (a b : Expression) (x y : Fraction) → value m (plan ++ tau ∷ []) u a ≡ x →
      value m (plan ++ tau ∷ []) u b ≡ y → Each Nonpositive (sides relation a b) → Relates relation x y
  sides_out at_most a b x y p q h = diff_out a b x y p q h.0
  sides_out at_least a b x y p q h = diff_out b a y x q p h.0
  sides_out equal a b x y p q h = Q.le_antisym_ℚ x y (diff_out a b x y p q h.0) (diff_out b a y x q p h.1.0)

  abbrev pub RowKept : Row → Type 0
  RowKept r = Relates r.relation (value m plan u r.left) (value m plan u r.right)

  abbrev pub RowOk : Row → Type 0
  RowOk r = IsExpression m r.left × IsExpression m r.right

  rows_in : (rs : List Row) → Each RowOk rs → Each RowKept rs → Each Nonpositive (row_forms rs)
  rows_in [] ok h = tt
  rows_in (r ∷ rs) ok h =
      each_append Nonpositive (sides r.relation r.left r.right) (row_forms rs)
      (sides_in r.relation r.left r.right (value m plan u r.left) (value m plan u r.right)
      (value_more m plan (tau ∷ []) u fits r.left ok.0.0.0) (value_more m plan (tau ∷ []) u fits r.right ok.0.1.0) h.0)
      (rows_in rs ok.1 h.1)

  rows_out : (rs : List Row) → Each RowOk rs → Each Nonpositive (row_forms rs) → Each RowKept rs
  rows_out [] ok h = tt
  rows_out (r ∷ rs) ok h = (
    sides_out r.relation r.left r.right (value m plan u r.left) (value m plan u r.right)
        (value_more m plan (tau ∷ []) u fits r.left ok.0.0.0) (value_more m plan (tau ∷ []) u fits r.right ok.0.1.0)
        (each_left Nonpositive (sides r.relation r.left r.right) (row_forms rs) h),
    rows_out rs ok.1 (each_right Nonpositive (sides r.relation r.left r.right) (row_forms rs) h),
  )

  -- ---- declared bounds
  lower_in : (e : Expression) (x : Fraction) (o : Option Fraction) → value m (plan ++ tau ∷ []) u e ≡ x →
      KeepsLower o x → Each Nonpositive (if_declared (λ l. difference (number l) e) o)
  lower_in e x None p h = tt
  lower_in e x (Some l) p h = (diff_in (number l) e l x refl p h, tt)

  lower_out : (e : Expression) (x : Fraction) (o : Option Fraction) → value m (plan ++ tau ∷ []) u e ≡ x →
      Each Nonpositive (if_declared (λ l. difference (number l) e) o) → KeepsLower o x
  lower_out e x None p h = tt
  lower_out e x (Some l) p h = diff_out (number l) e l x refl p h.0

  upper_in : (e : Expression) (x : Fraction) (o : Option Fraction) → value m (plan ++ tau ∷ []) u e ≡ x →
      KeepsUpper o x → Each Nonpositive (if_declared (λ b. difference e (number b)) o)
  upper_in e x None p h = tt
  upper_in e x (Some b) p h = (diff_in e (number b) x b p refl h, tt)

  upper_out : (e : Expression) (x : Fraction) (o : Option Fraction) → value m (plan ++ tau ∷ []) u e ≡ x →
      Each Nonpositive (if_declared (λ b. difference e (number b)) o) → KeepsUpper o x
  upper_out e x None p h = tt
  upper_out e x (Some b) p h = diff_out e (number b) x b p refl h.0

  bound_in : (e : Expression) (x : Fraction) (lower upper : Option Fraction) → value m (plan ++ tau ∷ []) u e ≡ x →
      KeepsBounds lower upper x → Each Nonpositive (bound_forms e lower upper)
  bound_in e x lower upper p h =
      each_append Nonpositive (if_declared (λ l. difference (number l) e) lower)
      (if_declared (λ b. difference e (number b)) upper)
      (lower_in e x lower p h.0) (upper_in e x upper p h.1)

  bound_out : (e : Expression) (x : Fraction) (lower upper : Option Fraction) → value m (plan ++ tau ∷ []) u e ≡ x →
      Each Nonpositive (bound_forms e lower upper) → KeepsBounds lower upper x
  bound_out e x lower upper p h = (
    lower_out e x lower p (each_left Nonpositive (if_declared (λ l. difference (number l) e) lower)
        (if_declared (λ b. difference e (number b)) upper) h),
    upper_out e x upper p (each_right Nonpositive (if_declared (λ l. difference (number l) e) lower)
        (if_declared (λ b. difference e (number b)) upper) h),
  )

  abbrev pub VariableKept : ℕ → Variable → Type 0
  VariableKept k x = KeepsBounds x.lower x.upper (at plan k)

  variables_in : (k : ℕ) (xs : List Variable) → k + length xs ≤ length m.variables → EachFrom k VariableKept xs →
      Each Nonpositive (variable_forms k xs)
  variables_in k [] room h = tt
  variables_in k (x ∷ xs) room h =
      each_append Nonpositive (bound_forms (variable k) x.lower x.upper) (variable_forms (suc k) xs)
      (bound_in (variable k) (at plan k) x.lower x.upper (variable_more m plan (tau ∷ []) u fits k (omega arith)) h.0)
      (variables_in (suc k) xs (omega arith) h.1)

  variables_out : (k : ℕ) (xs : List Variable) → k + length xs ≤ length m.variables →
      Each Nonpositive (variable_forms k xs) → EachFrom k VariableKept xs
  variables_out k [] room h = tt
  variables_out k (x ∷ xs) room h =
      let own = bound_forms (variable k) x.lower x.upper in (
        bound_out (variable k) (at plan k) x.lower x.upper (variable_more m plan (tau ∷ []) u fits k (omega arith))
            (each_left Nonpositive own (variable_forms (suc k) xs) h),
        variables_out (suc k) xs (omega arith) (each_right Nonpositive own (variable_forms (suc k) xs) h),
      )

  abbrev pub PolicyKept : ℕ → AdaptiveVariable → Type 0
  PolicyKept k y = KeepsBounds y.lower y.upper (rule_value m plan u k)

  policies_in : (k : ℕ) (ys : List AdaptiveVariable) → k + length ys ≤ length m.adaptives → EachFrom k PolicyKept ys →
      Each Nonpositive (adaptive_forms k ys)
  policies_in k [] room h = tt
  policies_in k (y ∷ ys) room h =
      each_append Nonpositive (bound_forms (adaptive k) y.lower y.upper) (adaptive_forms (suc k) ys)
      (bound_in (adaptive k) (rule_value m plan u k) y.lower y.upper
      (rule_more m plan (tau ∷ []) u fits k (omega arith)) h.0)
      (policies_in (suc k) ys (omega arith) h.1)

  policies_out : (k : ℕ) (ys : List AdaptiveVariable) → k + length ys ≤ length m.adaptives →
      Each Nonpositive (adaptive_forms k ys) → EachFrom k PolicyKept ys
  policies_out k [] room h = tt
  policies_out k (y ∷ ys) room h =
      let own = bound_forms (adaptive k) y.lower y.upper in (
        bound_out (adaptive k) (rule_value m plan u k) y.lower y.upper
            (rule_more m plan (tau ∷ []) u fits k (omega arith))
            (each_left Nonpositive own (adaptive_forms (suc k) ys) h),
        policies_out (suc k) ys (omega arith) (each_right Nonpositive own (adaptive_forms (suc k) ys) h),
      )

  pub keeps_forms : IsModel m → Keeps m plan tau u → Each Nonpositive (forms m)
  keeps_forms model h = (
    objective_in m.sense m.objective model.objective h.objective,
    each_append Nonpositive (row_forms m.rows) (variable_forms zero m.variables ++ adaptive_forms zero m.adaptives)
        (rows_in m.rows model.rows h.rows)
        (each_append Nonpositive (variable_forms zero m.variables) (adaptive_forms zero m.adaptives)
        (variables_in zero m.variables (omega arith) h.variables)
        (policies_in zero m.adaptives (omega arith) h.adaptives)),
  )

  pub forms_keep : IsModel m → Each Nonpositive (forms m) → Keeps m plan tau u
  forms_keep model h =
      let rest = each_right Nonpositive (row_forms m.rows)
      (variable_forms zero m.variables ++ adaptive_forms zero m.adaptives) h.1 in
      record {
        objective = objective_out m.sense m.objective model.objective h.0;
        rows =
            rows_out m.rows model.rows (each_left Nonpositive (row_forms m.rows)
            (variable_forms zero m.variables ++ adaptive_forms zero m.adaptives) h.1);
        variables =
            variables_out zero m.variables (omega arith) (each_left Nonpositive (variable_forms zero m.variables)
            (adaptive_forms zero m.adaptives) rest);
        adaptives =
            policies_out zero m.adaptives (omega arith) (each_right Nonpositive (variable_forms zero m.variables)
            (adaptive_forms zero m.adaptives) rest);
      }

-- ---- degrees of forms
module _ (m : RobustModel) where
  sides_linear : (relation : Relation) (a b : Expression) → IsLinear m a → IsLinear m b →
      Each (IsLinear m) (sides relation a b)
  sides_linear at_most a b p q = ((p, (q, tt)), tt)
  sides_linear at_least a b p q = ((q, (p, tt)), tt)
  sides_linear equal a b p q = ((p, (q, tt)), ((q, (p, tt)), tt))

  rows_linear : (rs : List Row) → Each (λ (r : Row). IsExpression m r.left × IsExpression m r.right) rs →
      Each (IsLinear m) (row_forms rs)
  rows_linear [] ok = tt
  rows_linear (r ∷ rs) ok =
      each_append (IsLinear m) (sides r.relation r.left r.right) (row_forms rs)
      (sides_linear r.relation r.left r.right ok.0.0.1 ok.0.1.1) (rows_linear rs ok.1)

  declared_linear : (f : Fraction → Expression) → ((x : Fraction) → IsLinear m (f x)) → (o : Option Fraction) →
      Each (IsLinear m) (if_declared f o)
  declared_linear f h None = tt
  declared_linear f h (Some x) = (h x, tt)

  bound_linear : (e : Expression) (lower upper : Option Fraction) → IsLinear m e →
      Each (IsLinear m) (bound_forms e lower upper)
  bound_linear e lower upper h =
      each_append (IsLinear m) (if_declared (λ l. difference (number l) e) lower)
      (if_declared (λ b. difference e (number b)) upper)
      (declared_linear (λ l. difference (number l) e) (λ q. (tt, (h, tt))) lower)
      (declared_linear (λ b. difference e (number b)) (λ q. (h, (tt, tt))) upper)

  variables_linear : (k : ℕ) (xs : List Variable) → Each (IsLinear m) (variable_forms k xs)
  variables_linear k [] = tt
  variables_linear k (x ∷ xs) =
      each_append (IsLinear m) (bound_forms (variable k) x.lower x.upper) (variable_forms (suc k) xs)
      (bound_linear (variable k) x.lower x.upper tt) (variables_linear (suc k) xs)

  policies_linear : (k : ℕ) (ys : List AdaptiveVariable) → Each (IsLinear m) (adaptive_forms k ys)
  policies_linear k [] = tt
  policies_linear k (y ∷ ys) =
      each_append (IsLinear m) (bound_forms (adaptive k) y.lower y.upper) (adaptive_forms (suc k) ys)
      (bound_linear (adaptive k) y.lower y.upper tt) (policies_linear (suc k) ys)

  objective_linear : (sense : Sense) (e : Expression) → IsLinear m e →
      IsLinear m (objective_form sense e (tau_column m))
  objective_linear minimise e h = (h, (tt, tt))
  objective_linear maximise e h = (tt, (h, tt))

  pub forms_linear : IsModel m → Each (IsLinear m) (forms m)
  forms_linear model = (
    objective_linear m.sense m.objective model.objective.1,
    each_append (IsLinear m) (row_forms m.rows) (variable_forms zero m.variables ++ adaptive_forms zero m.adaptives)
        (rows_linear m.rows model.rows)
        (each_append (IsLinear m) (variable_forms zero m.variables) (adaptive_forms zero m.adaptives)
        (variables_linear zero m.variables) (policies_linear zero m.adaptives)),
  )
