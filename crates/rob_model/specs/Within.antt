-- Values and set conditions as they are computed: one number after another, each in lowest terms, and nothing where one
-- of them is wide. The order is the definitions' own, from the left, a sum and a product prefix by prefix.
use Rattle.std.specs.Prelude.{ℕ, ◌+◌, List, [], ◌∷◌, Bool, true, false, Option, Some, None, is_none, if◌then◌else◌}
use Rattle.std.specs.Ordering.{is_le}
use Rattle.rob_algebra.specs.Fraction.{Fraction, ◌+ℚ◌, ◌-ℚ◌, ◌*ℚ◌, ◌/ℚ◌}
use Rattle.rob_algebra.specs.FractionOrder.{cmp_ℚ, eq_ℚ}
use Rattle.rob_algebra.specs.Width.{kept}
use Rattle.rob_meaning.specs.Expressions.{Expression, number, parameter, variable, adaptive, adaptive_in, sum, product, Terms, no_terms, term, Factors, no_factors, factor}
use Rattle.rob_meaning.specs.Places.{0ℚ, 1ℚ, at}
use Rattle.rob_meaning.specs.RobustModel.{Relation, at_most, at_least, equal, Member, line, budget, RobustModel, list_of, list_in_set, column_of}
use Rattle.rob_meaning.specs.SetConditions.{SetCondition, lower_bound, upper_bound, stated, set_conditions}
use Rattle.rob_meaning.specs.UncertaintySet.{abs_ℚ}

-- what follows from a number, if there is one
infixl 10 ◌>>=◌
-- what is computed from something, where it is there
abbrev pub ◌>>=◌ : {A B : Type 0} → Option A → (A → Option B) → Option B
(Some x) >>= f = f x
None >>= f = None

-- a sum with one more part, added or subtracted
abbrev pub joined : Bool → Fraction → Fraction → Fraction
joined true so_far part = so_far -ℚ part
joined false so_far part = so_far +ℚ part

module _ (limit : ℕ) (plan scenario : List Fraction) where
  -- for each parameter of a list the product of its coefficient with it, and then the prefix sum
  abbrev pub rule_within : List ℕ → ℕ → Fraction → Option Fraction
  rule_within [] column so_far = Some so_far
  rule_within (k ∷ ks) column so_far = do
    part ← kept limit (at plan column *ℚ at scenario k)
    next ← kept limit (so_far +ℚ part)
    rule_within ks (column + 1) next

module _ (limit : ℕ) (m : RobustModel) (plan scenario : List Fraction) where
  -- an adaptive variable's value begins with its constant
  abbrev pub policy_within : ℕ → Option Fraction
  policy_within y = rule_within limit plan scenario (list_of m y) (column_of m y + 1) (at plan (column_of m y))

  -- the same with the parameters of set `S`
  abbrev pub policy_in_within : ℕ → ℕ → Option Fraction
  policy_in_within S y = rule_within limit plan scenario (list_in_set m S y) (column_of m y + 1)
      (at plan (column_of m y))

  -- a sum begins with 0 and a product with 1, so the first prefix of a sum is its first part with its sign, and that of
  -- a product its first factor
  abbrev mutual
    pub value_within : Expression → Option Fraction
    value_within (number q) = Some q
    value_within (parameter k) = Some (at scenario k)
    value_within (variable k) = Some (at plan k)
    value_within (adaptive y) = policy_within y
    value_within (adaptive_in y S) = policy_in_within S y
    value_within (sum ts) = sum_within ts 0ℚ
    value_within (product fs) = product_within fs 1ℚ

    -- each part, and then the sum so far with it
    pub sum_within : Terms → Fraction → Option Fraction
    sum_within no_terms so_far = Some so_far
    sum_within (term minus e ts) so_far =
        value_within e >>= (λ part. kept limit (joined minus so_far part) >>= (λ next. sum_within ts next))

    -- each factor, and then the product so far with it
    pub product_within : Factors → Fraction → Option Fraction
    product_within no_factors so_far = Some so_far
    product_within (factor e fs) so_far =
        value_within e >>= (λ part. kept limit (so_far *ℚ part) >>= (λ next. product_within fs next))

-- the tests of the order, and of a relation of two sides
abbrev pub is_at_most : Fraction → Fraction → Bool
is_at_most a b = is_le (cmp_ℚ a b)

-- whether two numbers stand in the relation
abbrev pub is_related : Relation → Fraction → Fraction → Bool
is_related at_most a b = is_at_most a b
is_related at_least a b = is_at_most b a
is_related equal a b = eq_ℚ a b

module _ (limit : ℕ) (m : RobustModel) (s : Fraction) (p : List Fraction) where
  -- an expression taken s times: e(p), e(0), their difference, s e(0), the sum
  abbrev pub taken_within : Expression → Option Fraction
  taken_within e = do
    at_vector ← value_within limit m [] p e
    constant ← value_within limit m [] [] e
    linear ← kept limit (at_vector -ℚ constant)
    scaled ← kept limit (s *ℚ constant)
    kept limit (linear +ℚ scaled)

  -- a member's scaled deviation: s times its centre, the difference, its size over the deviation
  abbrev pub deviation_within : Member → Option Fraction
  deviation_within h = do
    centre ← kept limit (s *ℚ h.centre)
    difference ← kept limit (at p h.parameter -ℚ centre)
    kept limit (abs_ℚ difference /ℚ h.deviation)

  -- the sum of these over the members: each, and then the sum so far with it
  abbrev pub total_within : List Member → Fraction → Option Fraction
  total_within [] so_far = Some so_far
  total_within (h ∷ hs) so_far = do
    deviation ← deviation_within h
    next ← kept limit (so_far +ℚ deviation)
    total_within hs next

  -- whether a set condition, taken s times, holds: the left side before the right, a budget's sum before s times its
  -- limit
  abbrev pub holds_within : SetCondition → Option Bool
  holds_within (lower_bound k l) = do
    scaled ← kept limit (s *ℚ l)
    Some (is_at_most scaled (at p k))
  holds_within (upper_bound k b) = do
    scaled ← kept limit (s *ℚ b)
    Some (is_at_most (at p k) scaled)
  holds_within (stated (line left relation right)) = do
    left_side ← taken_within left
    right_side ← taken_within right
    Some (is_related relation left_side right_side)
  holds_within (stated (budget most members)) = do
    total ← total_within members 0ℚ
    scaled ← kept limit (s *ℚ most)
    Some (is_at_most total scaled)

  -- whether a declared bound holds; where none is declared there is none to break
  abbrev pub declared_within : (Fraction → SetCondition) → Option Fraction → Option Bool
  declared_within f None = Some true
  declared_within f (Some b) = holds_within (f b)

  -- the number of the first condition of a list that fails, the list's first having number `k`; those behind it are not
  -- computed
  abbrev pub first_within : List SetCondition → ℕ → Option (Option ℕ)
  first_within [] k = Some None
  first_within (c ∷ cs) k = do
    holds ← holds_within c
    if holds then first_within cs (k + 1) else Some (Some k)

  -- the number of the model's first set condition that fails
  abbrev pub first_broken_within : Option (Option ℕ)
  first_broken_within = first_within (set_conditions m) 0

-- whether the scenario is admitted: no set condition, taken once, fails
abbrev pub admits_within : ℕ → RobustModel → List Fraction → Option Bool
admits_within limit m scenario = do
  broken ← first_broken_within limit m 1ℚ scenario
  Some (is_none broken)
