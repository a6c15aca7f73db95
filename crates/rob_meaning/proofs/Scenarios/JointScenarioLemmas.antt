-- Joint scenarios and their parts: what stands in a row or statement of a set reads that set's part alone.
use Rattle.std.specs.Prelude.{◌≡◌, ℕ, zero, suc, ◌+◌, ◌*◌, ◌<◌, List, [], ◌∷◌, ◌++◌, length, map, refl}
use Rattle.std.proofs.Common.{sym, ◌∙◌, ap, ap₂, subst, arith, length-append, suc-mul, zero-mul}
use Rattle.rob_algebra.specs.Fraction.{Fraction, ◌+ℚ◌, ◌-ℚ◌, ◌*ℚ◌, ◌/ℚ◌, ◌≤ℚ◌}
use Rattle.rob_meaning.proofs.Lists.ListLemmas.{at-tabulate, same_by_places}
use Rattle.rob_meaning.proofs.Tables.TauLemmas.{at-left}
use Rattle.rob_meaning.specs.Expressions.{Expression, Factors, Terms, adaptive, adaptive_in, factor, no_factors, no_terms, number, parameter, product, sum, term, variable}
use Rattle.rob_meaning.specs.Places.{at, Each}
use Rattle.rob_meaning.specs.RobustModel.{AdaptiveVariable, Member, Relation, RobustModel, SetLine, budget, column_of, joint_number, line, list_in, list_of, set_count, written_count}
use Rattle.rob_meaning.specs.UncertaintySet.{KeepsLine, Relates, abs_ℚ, in_each_set, joined_scenarios, part_of, total_deviation}
use Rattle.rob_meaning.specs.Values.{product_value, rule_part, rule_value, rule_value_in, signed, sum_value, value}
use Rattle.rob_meaning.specs.WellFormed.{FactorsOf, IsLineOf, IsOf, IsParameterOf, TermsOf}
pub use Rattle.rob_meaning.proofs.Lists.TabulateLemmas.{length-tabulate}

pub at-right : (xs ys : List Fraction) (k : ℕ) → at (xs ++ ys) (length xs + k) ≡ at ys k
at-right [] ys k = ap (λ j. at ys j) (let e : zero + k ≡ k = omega arith in e)
at-right (x ∷ xs) ys k =
    ap (λ j. at (x ∷ (xs ++ ys)) j) (let e : suc (length xs) + k ≡ suc (length xs + k) = omega arith in e)
    ∙ at-right xs ys k

-- the list of one of the first adaptive variables
pub list_in-left : (xs ys : List AdaptiveVariable) (y : ℕ) → y < length xs → list_in (xs ++ ys) y ≡ list_in xs y
list_in-left [] ys y inside = absurd (omega arith)
list_in-left (x ∷ xs) ys zero inside = refl
list_in-left (x ∷ xs) ys (suc y) inside = list_in-left xs ys y (omega arith)

-- ---- scenarios put together
module _ (n : ℕ) where
  pub length-joined : (named : ℕ) (f : ℕ → List Fraction) → ((S : ℕ) → S < suc named → length (f S) ≡ n) →
      length (joined_scenarios named f) ≡ suc named * n
  length-joined zero f h =
      h zero (omega arith) ∙ (let e : n ≡ suc zero * n = omega (arith, suc-mul zero n, zero-mul n) in e)
  length-joined (suc named) f h =
      length-append (f zero) (joined_scenarios named (λ S. f (suc S)))
      ∙ ap₂ ◌+◌ (h zero (omega arith)) (length-joined named (λ S. f (suc S)) (λ S some. h (suc S) (omega arith)))
      ∙ (let e : n + suc named * n ≡ suc (suc named) * n = omega (arith, suc-mul (suc named) n) in e)

  pub at-joined : (named : ℕ) (f : ℕ → List Fraction) → ((S : ℕ) → S < suc named → length (f S) ≡ n) →
      (S k : ℕ) → S < suc named → k < n → at (joined_scenarios named f) (S * n + k) ≡ at (f S) k
  at-joined zero f h zero k some small =
      ap (λ j. at (f zero) j) (let e : zero * n + k ≡ k = omega (arith, zero-mul n) in e)
  at-joined zero f h (suc S) k some small = absurd (omega arith)
  at-joined (suc named) f h zero k some small =
      ap (λ j. at (f zero ++ joined_scenarios named (λ S. f (suc S))) j)
      (let e : zero * n + k ≡ k = omega (arith, zero-mul n) in e)
      ∙ at-left (f zero) (joined_scenarios named (λ S. f (suc S))) k
      (subst (λ j. k < j) (sym (h zero (omega arith))) small)
  at-joined (suc named) f h (suc S) k some small =
      ap (λ j. at (f zero ++ joined_scenarios named (λ S. f (suc S))) j)
      (let l = h zero (omega arith) in
      let e : suc S * n + k ≡ length (f zero) + (S * n + k) = omega (arith, suc-mul S n) in e)
      ∙ at-right (f zero) (joined_scenarios named (λ S. f (suc S))) (S * n + k)
      ∙ at-joined named (λ S. f (suc S)) (λ S some. h (suc S) (omega arith)) S k (omega arith) small

module _ (m : RobustModel) where
  -- ---- parts
  pub length-part_of : (S : ℕ) (u : List Fraction) → length (part_of m S u) ≡ written_count m
  length-part_of S u = length-tabulate (written_count m) (λ k. at u (joint_number m S k))

  pub at-part_of : (S : ℕ) (u : List Fraction) (k : ℕ) → k < written_count m →
      at (part_of m S u) k ≡ at u (joint_number m S k)
  at-part_of S u k small = at-tabulate (written_count m) (λ k. at u (joint_number m S k)) k small

  -- two joint scenarios agree in set S
  abbrev pub Agree : ℕ → List Fraction → List Fraction → Type 0
  Agree S u w = (k : ℕ) → k < written_count m → at u (joint_number m S k) ≡ at w (joint_number m S k)

  pub agree_in_each : (S : ℕ) (u w : List Fraction) → S < set_count m → length u ≡ written_count m →
      ((k : ℕ) → k < written_count m → at u k ≡ at w (joint_number m S k)) → Agree S (in_each_set m u) w
  agree_in_each S u w some fits h k small =
      at-joined (written_count m) (length m.sets) (λ S. u) (λ S some. fits) S k some small ∙ h k small

  pub agree_part : (S : ℕ) (u : List Fraction) → S < set_count m → Agree S (in_each_set m (part_of m S u)) u
  agree_part S u some = agree_in_each S (part_of m S u) u some (length-part_of S u) (at-part_of S u)

  pub part_of_joined : (f : ℕ → List Fraction) → ((S : ℕ) → S < set_count m → length (f S) ≡ written_count m) →
      (S : ℕ) → S < set_count m → part_of m S (joined_scenarios (length m.sets) f) ≡ f S
  part_of_joined f h S some =
      same_by_places (part_of m S (joined_scenarios (length m.sets) f)) (f S)
      (length-part_of S (joined_scenarios (length m.sets) f) ∙ sym (h S some))
      (λ k small.
      (let below : k < written_count m =
      subst (λ j. k < j) (length-part_of S (joined_scenarios (length m.sets) f)) small in
      at-part_of S (joined_scenarios (length m.sets) f) k below
      ∙ at-joined (written_count m) (length m.sets) f h S k some below))

  -- ---- what is of set S reads its part alone
  module _ (lists : Each (λ (y : AdaptiveVariable). Each (λ k. k < written_count m) y.on) m.adaptives)
      (plan : List Fraction) (S : ℕ) (u w : List Fraction) (agree : Agree S u w) where
    list_below : (ys : List AdaptiveVariable) (y : ℕ) →
        Each (λ (y : AdaptiveVariable). Each (λ k. k < written_count m) y.on) ys →
        Each (λ k. k < written_count m) (list_in ys y)
    list_below [] y h = tt
    list_below (first ∷ rest) zero h = h.0
    list_below (first ∷ rest) (suc y) h = list_below rest y h.1

    part_same : (ks : List ℕ) (column : ℕ) → Each (λ k. k < written_count m) ks →
        rule_part m plan u (map (joint_number m S) ks) column ≡ rule_part m plan w (map (joint_number m S) ks) column
    part_same [] column h = refl
    part_same (k ∷ ks) column h =
        ap₂ (λ x y. at plan column *ℚ x +ℚ y) (agree k h.0) (part_same ks (suc column) h.1)

    default_part : 0 ≡ S → (ks : List ℕ) (column : ℕ) → Each (λ k. k < written_count m) ks →
        rule_part m plan u ks column ≡ rule_part m plan w ks column
    default_part e [] column h = refl
    default_part e (k ∷ ks) column h =
        ap₂ (λ x y. at plan column *ℚ x +ℚ y)
        (subst (λ j. at u j ≡ at w j) (first_set S k e) (agree k h.0)) (default_part e ks (suc column) h.1)
      where
        first_set : (S k : ℕ) → 0 ≡ S → joint_number m S k ≡ k
        first_set zero k e = omega (arith, zero-mul (written_count m))
        first_set (suc S) k e = cc

    pub rule_same : 0 ≡ S → (y : ℕ) → rule_value m plan u y ≡ rule_value m plan w y
    rule_same e y =
        ap (λ x. at plan (column_of m y) +ℚ x)
        (default_part e (list_of m y) (suc (column_of m y)) (list_below m.adaptives y lists))

    rule_in_same : (T y : ℕ) → T ≡ S → rule_value_in m plan u T y ≡ rule_value_in m plan w T y
    rule_in_same T y e =
        subst (λ T. rule_value_in m plan u T y ≡ rule_value_in m plan w T y) (sym e)
        (ap (λ x. at plan (column_of m y) +ℚ x)
        (part_same (list_of m y) (suc (column_of m y)) (list_below m.adaptives y lists)))

    pub parameter_same : (k : ℕ) → IsParameterOf m S k → at u k ≡ at w k
    parameter_same k h = subst (λ j. at u j ≡ at w j) (sym h.2) (agree h.0 h.1)

    mutual
      pub value_same : (e : Expression) → IsOf m S e → value m plan u e ≡ value m plan w e
      value_same (number q) h = refl
      value_same (parameter k) h = parameter_same k h
      value_same (variable k) h = refl
      value_same (adaptive y) h = rule_same h y
      value_same (adaptive_in y T) h = rule_in_same T y h
      value_same (sum ts) h = sum_value_same ts h
      value_same (product fs) h = product_value_same fs h

      sum_value_same : (ts : Terms) → TermsOf m S ts → sum_value m plan u ts ≡ sum_value m plan w ts
      sum_value_same no_terms h = refl
      sum_value_same (term minus e ts) h = ap₂ (λ x y. signed minus x +ℚ y) (value_same e h.0) (sum_value_same ts h.1)

      product_value_same : (fs : Factors) → FactorsOf m S fs → product_value m plan u fs ≡ product_value m plan w fs
      product_value_same no_factors h = refl
      product_value_same (factor e fs) h = ap₂ ◌*ℚ◌ (value_same e h.0) (product_value_same fs h.1)

    pub sides_same : (relation : Relation) (l r : Expression) → IsOf m S l → IsOf m S r →
        Relates relation (value m plan u l) (value m plan u r) → Relates relation (value m plan w l) (value m plan w r)
    sides_same relation l r hl hr h =
        subst (λ x. Relates relation x (value m plan w r)) (value_same l hl)
        (subst (λ x. Relates relation (value m plan u l) x) (value_same r hr) h)

  -- a statement of set S
  module _ (lists : Each (λ (y : AdaptiveVariable). Each (λ k. k < written_count m) y.on) m.adaptives)
      (S : ℕ) (u w : List Fraction) (agree : Agree S u w) where
    deviations_same : (hs : List Member) → Each (λ (h : Member). IsParameterOf m S h.parameter) hs →
        total_deviation m u hs ≡ total_deviation m w hs
    deviations_same [] h = refl
    deviations_same (b ∷ hs) h =
        ap₂ (λ x y. abs_ℚ (x -ℚ b.centre) /ℚ b.deviation +ℚ y) (parameter_same lists [] S u w agree b.parameter h.0)
        (deviations_same hs h.1)

    pub line_same : (c : SetLine) → IsLineOf m S c → KeepsLine m u c → KeepsLine m w c
    line_same (line l relation r) own h = sides_same lists [] S u w agree relation l r own.0 own.1 h
    line_same (budget limit hs) own h = subst (λ x. x ≤ℚ limit) (deviations_same hs own) h
