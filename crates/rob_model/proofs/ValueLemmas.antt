-- What is computed in order is the value.
use Rattle.std.proofs.Common.{◌≡◌, ℕ, ◌+◌, List, [], ◌∷◌, ap, sym, ◌∙◌, suc, Bool, true, false, add-one}
use Rattle.std.specs.Prelude.{Some, Result, Ok, Err, IfOk}
use Rattle.rob_algebra.specs.Fraction.{Fraction, ◌+ℚ◌, ◌*ℚ◌}
use Rattle.rob_algebra.specs.FractionLaws.{ℚ-add_assoc, ℚ-add_comm, ℚ-zero-add, ℚ-mul_assoc, ℚ-mul_comm, ℚ-one-mul}
use Rattle.rob_algebra.specs.Width.{kept}
use Rattle.rob_number.specs.Answer.{answer}
use Rattle.rob_meaning.specs.Expressions.{Expression, number, parameter, variable, adaptive, adaptive_in, sum, product, Terms, no_terms, term, Factors, no_factors, factor}
use Rattle.rob_meaning.specs.Places.{0ℚ, 1ℚ, at}
use Rattle.rob_meaning.specs.RobustModel.{RobustModel, list_of, list_in_set, column_of}
use Rattle.rob_meaning.specs.Values.{signed, rule_part, rule_value, rule_value_in, value, sum_value, product_value}
use Rattle.rob_model.specs.Within.{◌>>=◌, joined, rule_within, policy_within, policy_in_within, value_within, sum_within, product_within}
use Rattle.rob_model.proofs.KeptLemmas.{some_is, through, through_kept}

pub add-zero_ℚ : (x : Fraction) → x +ℚ 0ℚ ≡ x
add-zero_ℚ x = ℚ-add_comm x 0ℚ ∙ ℚ-zero-add x

pub mul-one_ℚ : (x : Fraction) → x *ℚ 1ℚ ≡ x
mul-one_ℚ x = ℚ-mul_comm x 1ℚ ∙ ℚ-one-mul x

-- a part joined, and then the rest, is the part with its sign and the rest joined
joined-rest : (minus : Bool) (so_far part rest : Fraction)
    → joined minus so_far part +ℚ rest ≡ so_far +ℚ (signed minus part +ℚ rest)
joined-rest true so_far part rest = ℚ-add_assoc so_far (signed true part) rest
joined-rest false so_far part rest = ℚ-add_assoc so_far part rest

module _ (limit : ℕ) (m : RobustModel) (plan scenario : List Fraction) where
  rule_is : (ks : List ℕ) (column : ℕ) (so_far v : Fraction) → rule_within limit plan scenario ks column so_far ≡ Some v
      → so_far +ℚ rule_part m plan scenario ks column ≡ v
  rule_is [] column so_far v h = add-zero_ℚ so_far ∙ some_is h
  rule_is (k ∷ ks) column so_far v h =
      let part = at plan column *ℚ at scenario k in
      let a = through_kept limit part
      (λ part. kept limit (so_far +ℚ part) >>= (λ next. rule_within limit plan scenario ks (column + 1) next)) v
      h in
      let b = through_kept limit (so_far +ℚ part) (λ next. rule_within limit plan scenario ks (column + 1) next) v a in
      sym (ℚ-add_assoc so_far part (rule_part m plan scenario ks (suc column)))
      ∙ ap (λ c. (so_far +ℚ part) +ℚ rule_part m plan scenario ks c) (sym (add-one column))
      ∙ rule_is ks (column + 1) (so_far +ℚ part) v b

  -- an adaptive variable's value
  pub policy_is : (y : ℕ) (v : Fraction) → policy_within limit m plan scenario y ≡ Some v
      → rule_value m plan scenario y ≡ v
  policy_is y v h =
      let column = column_of m y in
      ap (λ c. at plan column +ℚ rule_part m plan scenario (list_of m y) c) (sym (add-one column))
      ∙ rule_is (list_of m y) (column + 1) (at plan column) v h

  -- its value in a set
  pub policy_in_is : (S y : ℕ) (v : Fraction) → policy_in_within limit m plan scenario S y ≡ Some v
      → rule_value_in m plan scenario S y ≡ v
  policy_in_is S y v h =
      let column = column_of m y in
      ap (λ c. at plan column +ℚ rule_part m plan scenario (list_in_set m S y) c) (sym (add-one column))
      ∙ rule_is (list_in_set m S y) (column + 1) (at plan column) v h

  mutual
    -- an expression's value
    pub value_is : (e : Expression) (v : Fraction) → value_within limit m plan scenario e ≡ Some v
        → value m plan scenario e ≡ v
    value_is (number q) v h = some_is h
    value_is (parameter k) v h = some_is h
    value_is (variable k) v h = some_is h
    value_is (adaptive y) v h = policy_is y v h
    value_is (adaptive_in y S) v h = policy_in_is S y v h
    value_is (sum ts) v h = sym (ℚ-zero-add (sum_value m plan scenario ts)) ∙ sum_is ts 0ℚ v h
    value_is (product fs) v h = sym (ℚ-one-mul (product_value m plan scenario fs)) ∙ product_is fs 1ℚ v h

    sum_is : (ts : Terms) (so_far v : Fraction) → sum_within limit m plan scenario ts so_far ≡ Some v
        → so_far +ℚ sum_value m plan scenario ts ≡ v
    sum_is no_terms so_far v h = add-zero_ℚ so_far ∙ some_is h
    sum_is (term minus e ts) so_far v h =
        let a = through (value_within limit m plan scenario e)
        (λ part. kept limit (joined minus so_far part) >>= (λ next. sum_within limit m plan scenario ts next)) v
        h in
        let b = through_kept limit (joined minus so_far a.0) (λ next. sum_within limit m plan scenario ts next) v a.2 in
        ap (λ x. so_far +ℚ (signed minus x +ℚ sum_value m plan scenario ts)) (value_is e a.0 a.1)
        ∙ sym (joined-rest minus so_far a.0 (sum_value m plan scenario ts))
        ∙ sum_is ts (joined minus so_far a.0) v b

    product_is : (fs : Factors) (so_far v : Fraction) → product_within limit m plan scenario fs so_far ≡ Some v
        → so_far *ℚ product_value m plan scenario fs ≡ v
    product_is no_factors so_far v h = mul-one_ℚ so_far ∙ some_is h
    product_is (factor e fs) so_far v h =
        let a = through (value_within limit m plan scenario e)
        (λ part. kept limit (so_far *ℚ part) >>= (λ next. product_within limit m plan scenario fs next)) v h in
        let b = through_kept limit (so_far *ℚ a.0) (λ next. product_within limit m plan scenario fs next) v a.2 in
        ap (λ x. so_far *ℚ (x *ℚ product_value m plan scenario fs)) (value_is e a.0 a.1)
        ∙ sym (ℚ-mul_assoc so_far a.0 (product_value m plan scenario fs))
        ∙ product_is fs (so_far *ℚ a.0) v b

  -- an answer that is computed in order is the value
  pub answer_value : {N E : Type 0} (number_value : N → Fraction) (e : Expression) (r : Result N E)
      → answer number_value r ≡ value_within limit m plan scenario e
      → IfOk r (λ x. number_value x ≡ value m plan scenario e)
  answer_value number_value e (Ok x) h = sym (value_is e (number_value x) (sym h))
  answer_value number_value e (Err d) h = tt

  pub answer_policy : {N E : Type 0} (number_value : N → Fraction) (y : ℕ) (r : Result N E)
      → answer number_value r ≡ policy_within limit m plan scenario y
      → IfOk r (λ x. number_value x ≡ rule_value m plan scenario y)
  answer_policy number_value y (Ok x) h = sym (policy_is y (number_value x) (sym h))
  answer_policy number_value y (Err d) h = tt
