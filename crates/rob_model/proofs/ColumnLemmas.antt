-- Where the decision columns of the adaptive variables stand.
use Rattle.std.proofs.Common.{◌≡◌, ℕ, zero, suc, ◌+◌, ◌<◌, ◌≤◌, List, [], ◌∷◌, map, length, get_or, take, drop, arith, ◌*◌, zero-add, div-mul-le_self, mul-le-mul_right, mul_comm, refl, ap, sym, ◌∙◌}
use Rattle.std.proofs.lemmas.List.{length-take, get_or-take, length-map}
use Rattle.std.specs.Prelude.{Option, Some, None}
use Rattle.rob_algebra.specs.Fraction.{Fraction, ◌+ℚ◌, ◌*ℚ◌}
use Rattle.rob_algebra.specs.Width.{kept}
use Rattle.rob_meaning.specs.Places.{at}
use Rattle.rob_meaning.specs.RobustModel.{AdaptiveVariable, list_in, column_from, column_of, column_count, joint_number, set_count, written_count}
use Rattle.rob_model.specs.Limits.{most_columns}
use Rattle.rob_model.specs.View.{robust, adaptive_of, parameter_of, variable_of}
use Rattle.rob_model.specs.Within.{◌>>=◌, rule_within, policy_within, policy_in_within}
use Rattle.rob_model.specs.declared.model.Adaptive.{Adaptive}
use Rattle.rob_model.specs.declared.model.Model.{Model}

-- the columns of variables come first
pub column_first : (column : ℕ) (ys : List AdaptiveVariable) (k : ℕ) → column ≤ column_from column ys k
column_first column [] k = omega arith
column_first column (y ∷ ys) zero = omega arith
column_first column (y ∷ ys) (suc k) = omega (arith, column_first (suc column + length y.on) ys k)

-- the columns of an adaptive variable are among all columns
column_last : (column : ℕ) (ys : List AdaptiveVariable) (k : ℕ) → k < length ys
    → column_from column ys k + 1 + length (list_in ys k) ≤ column_from column ys (length ys)
column_last column [] k h = absurd (omega arith)
column_last column (y ∷ ys) zero h = omega (arith, column_first (suc column + length y.on) ys (length ys))
column_last column (y ∷ ys) (suc k) h = column_last (suc column + length y.on) ys k (omega arith)

-- before an earlier one stand at most as many columns
column_before : (column : ℕ) (ys : List AdaptiveVariable) (k n : ℕ) → k ≤ n
    → column_from column ys k ≤ column_from column ys n
column_before column [] k n h = omega arith
column_before column (y ∷ ys) zero n h = column_first column (y ∷ ys) n
column_before column (y ∷ ys) (suc k) zero h = absurd (omega arith)
column_before column (y ∷ ys) (suc k) (suc n) h = column_before (suc column + length y.on) ys k n (omega arith)

pub column_zero : (column : ℕ) (ys : List AdaptiveVariable) → column_from column ys 0 ≡ column
column_zero column [] = refl
column_zero column (y ∷ ys) = refl

bind_same : {A B : Type 0} (o : Option A) (f g : A → Option B) → ((x : A) → f x ≡ g x) → (o >>= f) ≡ (o >>= g)
bind_same None f g h = refl
bind_same (Some x) f g h = h x

-- ---- numbers behind a place
at_behind : {N : Type 0} (value : N → Fraction) (vs : List N) (place k : ℕ) →
    at (map value (drop place vs)) k ≡ at (map value vs) (place + k)
at_behind value vs zero k = ap (at (map value vs)) (sym (zero-add k))
at_behind value [] (suc place) k = refl
at_behind value (v ∷ vs) (suc place) k =
    at_behind value vs place k
    ∙ ap (at (map value (v ∷ vs))) (let e : suc (place + k) ≡ suc place + k = omega arith in e)

-- the products with the parameters behind a place
pub rule_behind : {N : Type 0} (value : N → Fraction) (limit : ℕ) (plan : List Fraction) (vs : List N) (place : ℕ)
    (ks : List ℕ) (column : ℕ) (so_far : Fraction)
    → rule_within limit plan (map value (drop place vs)) ks column so_far
    ≡ rule_within limit plan (map value vs) (map (λ k. place + k) ks) column so_far
rule_behind value limit plan vs place [] column so_far = refl
rule_behind value limit plan vs place (k ∷ ks) column so_far =
    ap (λ x. kept limit (at plan column *ℚ x) >>=
    (λ part. kept limit (so_far +ℚ part) >>=
    (λ next. rule_within limit plan (map value (drop place vs)) ks (column + 1) next)))
    (at_behind value vs place k)
    ∙ bind_same (kept limit (at plan column *ℚ at (map value vs) (place + k))) _ _
    (λ part. bind_same (kept limit (so_far +ℚ part)) _ _
    (λ next. rule_behind value limit plan vs place ks (column + 1) next))

module _ {N : Type 0} (value : N → Fraction) where
  -- one adaptive variable more stands before
  column_more : (column : ℕ) (ys : List (Adaptive N)) (k : ℕ) (y : Adaptive N) → k < length ys → y ≡ get_or ys k y
      → column_from column (map (adaptive_of value) ys) k + (1 + length y.on)
      ≡ column_from column (map (adaptive_of value) ys) (k + 1)
  column_more column [] k y h e = absurd (omega arith)
  column_more column (z ∷ ys) zero y h e =
      ap (λ (w : Adaptive N). column + (1 + length w.on)) e
      ∙ (let next : column + (1 + length z.on) ≡ suc column + length z.on = omega arith in next)
      ∙ sym (column_zero (suc column + length z.on) (map (adaptive_of value) ys))
  column_more column (z ∷ ys) (suc k) y h e =
      column_more (suc column + length z.on) ys k y (omega arith) e
      ∙ ap (column_from column (map (adaptive_of value) (z ∷ ys)))
      (let next : suc (k + 1) ≡ suc k + 1 = omega arith in next)

  pub list_at : (ys : List (Adaptive N)) (k : ℕ) (y : Adaptive N) → k < length ys → y ≡ get_or ys k y
      → list_in (map (adaptive_of value) ys) k ≡ y.on
  list_at [] k y h e = absurd (omega arith)
  list_at (z ∷ ys) zero y h e = ap (λ (w : Adaptive N). w.on) (sym e)
  list_at (z ∷ ys) (suc k) y h e = list_at ys k y (omega arith) e

  module _ (m : Model N) where
    pub column_begins : (vars : ℕ) → vars ≡ length m.vars
        → vars ≡ column_from (length (robust value m).variables) (robust value m).adaptives 0
    column_begins vars h =
        h ∙ sym (length-map m.vars (variable_of value))
        ∙ sym (column_zero (length (robust value m).variables) (robust value m).adaptives)

    -- the step of a count over the first few adaptive variables: the next column, which is one of the first 600
    pub column_steps : (few : column_count (robust value m) ≤ most_columns) (n i column : ℕ) (zs : List (Adaptive N))
        (y : Adaptive N) (on : List ℕ)
        → zs ≡ m.adaptives → i < length (take n zs) → y ≡ get_or (take n zs) i y → on ≡ y.on
        → column ≡ column_from (length (robust value m).variables) (robust value m).adaptives i
        → (column + (1 + length on)
        ≡ column_from (length (robust value m).variables) (robust value m).adaptives (i + 1))
        × (column + (1 + length on) ≤ most_columns)
    column_steps few n i column zs y on same h is on_is before =
        let below : i < n = omega (arith, length-take n zs) in
        let inside : i < length m.adaptives = omega (arith, length-take n zs, ap length same) in
        let here : y ≡ get_or m.adaptives i y = is ∙ get_or-take n zs i y below ∙ ap (λ xs. get_or xs i y) same in
        let next : column + (1 + length on)
        ≡ column_from (length (robust value m).variables) (robust value m).adaptives (i + 1) =
        ap (λ c. c + (1 + length on)) before
        ∙ ap (λ (xs : List ℕ). column_from (length (robust value m).variables) (robust value m).adaptives i
        + (1 + length xs)) on_is
        ∙ column_more (length (robust value m).variables) m.adaptives i y inside here in
        let last : column_from (length (robust value m).variables) (robust value m).adaptives (i + 1)
        ≤ column_count (robust value m) =
        column_before (length (robust value m).variables) (robust value m).adaptives (i + 1)
        (length (robust value m).adaptives) (omega (arith, inside, length-map m.adaptives (adaptive_of value))) in
        (next, omega (arith, next, last, few))

    module _ (k : ℕ) (y : Adaptive N) (on : List ℕ) (column : ℕ) (h : k < length m.adaptives)
        (is : y ≡ get_or m.adaptives k y) (on_is : on ≡ y.on)
        (column_is : column ≡ column_of (robust value m) k) where
      -- the columns of an adaptive variable are decision columns
      pub rule_fits : column_count (robust value m) ≤ most_columns → column + 1 + length on ≤ most_columns
      rule_fits few =
          omega (
            arith,
            few,
            column_is,
            ap length on_is,
            ap length (list_at m.adaptives k y h is),
            column_last (length (robust value m).variables) (robust value m).adaptives k
                (omega (arith, h, length-map m.adaptives (adaptive_of value))),
          )

      -- its constant and its products are its value
      pub rule_of_policy : (limit : ℕ) (plan scenario : List Fraction)
          → rule_within limit plan scenario on (column + 1) (at plan column)
          ≡ policy_within limit (robust value m) plan scenario k
      rule_of_policy limit plan scenario =
          ap (λ xs. rule_within limit plan scenario xs (column + 1) (at plan column))
          (on_is ∙ sym (list_at m.adaptives k y h is))
          ∙ ap (λ c. rule_within limit plan scenario (list_in (robust value m).adaptives k) (c + 1) (at plan c))
          column_is

      -- the same with the parameters of a set, which stand behind those of the sets before it
      pub rule_of_set : (limit : ℕ) (plan : List Fraction) (vs : List N) (S first : ℕ)
          → first ≡ S * written_count (robust value m)
          → rule_within limit plan (map value (drop first vs)) on (column + 1) (at plan column)
          ≡ policy_in_within limit (robust value m) plan (map value vs) S k
      rule_of_set limit plan vs S first is_first =
          rule_behind value limit plan vs first on (column + 1) (at plan column)
          ∙ ap (λ f. rule_within limit plan (map value vs) (map (λ k. f + k) on) (column + 1) (at plan column)) is_first
          ∙ ap (λ xs. rule_within limit plan (map value vs) (map (joint_number (robust value m) S) xs) (column + 1)
          (at plan column)) (on_is ∙ sym (list_at m.adaptives k y h is))
          ∙ ap (λ c. rule_within limit plan (map value vs)
          (map (joint_number (robust value m) S) (list_in (robust value m).adaptives k)) (c + 1) (at plan c))
          column_is

    -- the first joint parameter of a set is among all
    pub first_fits : (S : ℕ) → S < set_count (robust value m) → S * written_count (robust value m) ≤ length m.params
    first_fits S some =
        omega (
          arith,
          mul-le-mul_right (written_count (robust value m))
              (let le : S ≤ set_count (robust value m) = omega arith in le),
          div-mul-le_self (length (robust value m).parameters) (set_count (robust value m)),
          mul_comm (set_count (robust value m)) (written_count (robust value m)),
          length-map m.params (parameter_of value),
        )
