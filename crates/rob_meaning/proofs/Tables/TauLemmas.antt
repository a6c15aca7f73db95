-- The column of tau stands behind all columns that an expression uses.
use Rattle.std.specs.Prelude.{◌≡◌, ℕ, zero, suc, ◌+◌, ◌<◌, ◌≤◌, List, [], ◌∷◌, ◌++◌, length, map, refl}
use Rattle.std.proofs.Common.{ap₂, arith}
use Rattle.std.proofs.lemmas.List.{length-map}
use Rattle.rob_algebra.specs.Fraction.{Fraction, ◌+ℚ◌, ◌*ℚ◌}
use Rattle.rob_meaning.specs.Expressions.{Expression, Factors, Terms, adaptive, adaptive_in, factor, no_factors, no_terms, number, parameter, product, sum, term, variable}
use Rattle.rob_meaning.specs.Places.{at}
use Rattle.rob_meaning.specs.RobustModel.{AdaptiveVariable, RobustModel, column_count, column_from, column_of, joint_number, list_in, list_of}
use Rattle.rob_meaning.specs.Values.{product_value, rule_part, rule_value, rule_value_in, signed, sum_value, value}
use Rattle.rob_meaning.specs.WellFormed.{FactorsInside, IsInside, TermsInside}

pub at-left : (xs ys : List Fraction) (k : ℕ) → k < length xs → at (xs ++ ys) k ≡ at xs k
at-left [] ys k h = absurd (omega arith)
at-left (x ∷ xs) ys zero h = refl
at-left (x ∷ xs) ys (suc k) h = at-left xs ys k (omega arith)

pub at-end : (xs : List Fraction) (y : Fraction) (k : ℕ) → length xs ≡ k → at (xs ++ y ∷ []) k ≡ y
at-end [] y zero e = refl
at-end [] y (suc k) e = cc
at-end (x ∷ xs) y zero e = cc
at-end (x ∷ xs) y (suc k) e = at-end xs y k (cc)

-- columns grow
pub column_grows : (column : ℕ) (ps : List AdaptiveVariable) → column ≤ column_from column ps (length ps)
column_grows column [] = omega arith
column_grows column (first ∷ rest) = omega (arith, column_grows (suc column + length first.on) rest)

pub column_room : (column : ℕ) (ps : List AdaptiveVariable) (y : ℕ) → y < length ps →
    column_from column ps y + length (list_in ps y) < column_from column ps (length ps)
column_room column [] y h = absurd (omega arith)
column_room column (first ∷ rest) zero h = omega (arith, column_grows (suc column + length first.on) rest)
column_room column (first ∷ rest) (suc y) h = column_room (suc column + length first.on) rest y (omega arith)

module _ (m : RobustModel) (plan more u : List Fraction) (fits : length plan ≡ column_count m) where
  rule_part_more : (ks : List ℕ) (column : ℕ) → column + length ks ≤ length plan →
      rule_part m (plan ++ more) u ks column ≡ rule_part m plan u ks column
  rule_part_more [] column h = refl
  rule_part_more (k ∷ ks) column h =
      ap₂ (λ x y. x *ℚ at u k +ℚ y) (at-left plan more column (omega arith))
      (rule_part_more ks (suc column) (omega arith))

  pub rule_more : (y : ℕ) → y < length m.adaptives → rule_value m (plan ++ more) u y ≡ rule_value m plan u y
  rule_more y h =
      let room = column_room (length m.variables) m.adaptives y h in
      ap₂ ◌+ℚ◌ (at-left plan more (column_of m y) (omega arith))
      (rule_part_more (list_of m y) (suc (column_of m y)) (omega arith))

  -- the same in another set: its list is as long
  pub rule_in_more : (S y : ℕ) → y < length m.adaptives →
      rule_value_in m (plan ++ more) u S y ≡ rule_value_in m plan u S y
  rule_in_more S y h =
      let room = column_room (length m.variables) m.adaptives y h in
      let same = length-map (list_of m y) (joint_number m S) in
      ap₂ ◌+ℚ◌ (at-left plan more (column_of m y) (omega arith))
      (rule_part_more (map (joint_number m S) (list_of m y)) (suc (column_of m y)) (omega arith))

  pub variable_more : (k : ℕ) → k < length m.variables → at (plan ++ more) k ≡ at plan k
  variable_more k h = at-left plan more k (omega (arith, column_grows (length m.variables) m.adaptives))

  mutual
    pub value_more : (e : Expression) → IsInside m e → value m (plan ++ more) u e ≡ value m plan u e
    value_more (number q) h = refl
    value_more (parameter k) h = refl
    value_more (variable k) h = variable_more k h
    value_more (adaptive y) h = rule_more y h
    value_more (adaptive_in y S) h = rule_in_more S y h.0
    value_more (sum ts) h = sum_value_more ts h
    value_more (product fs) h = product_value_more fs h

    pub sum_value_more : (ts : Terms) → TermsInside m ts → sum_value m (plan ++ more) u ts ≡ sum_value m plan u ts
    sum_value_more no_terms h = refl
    sum_value_more (term minus e ts) h = ap₂ (λ x y. signed minus x +ℚ y) (value_more e h.0) (sum_value_more ts h.1)

    pub product_value_more : (fs : Factors) → FactorsInside m fs →
        product_value m (plan ++ more) u fs ≡ product_value m plan u fs
    product_value_more no_factors h = refl
    product_value_more (factor e fs) h = ap₂ ◌*ℚ◌ (value_more e h.0) (product_value_more fs h.1)
