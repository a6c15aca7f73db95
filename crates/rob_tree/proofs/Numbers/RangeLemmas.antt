-- The range of the variable at a number, and products of ranges, one name at a time.
use Rattle.std.proofs.Common.{◌≡◌, ℕ, ◌+◌, ◌*◌, ◌<◌, ◌≤◌, zero, suc, List, [], ◌∷◌, map, length, get_or, drop, Bool, true, false, ◌&&◌, refl, ap, sym, ◌∙◌, subst, arith, leb}
use Rattle.std.specs.Prelude.{Option, Some, None, option_map, is_some}
use Rattle.std.proofs.Math.Nat.{mul_assoc, mul-le-mul_left}
use Rattle.std.proofs.lemmas.Bool.{lt-leb}
use Rattle.std.proofs.lemmas.List.{get_or_default}
use Rattle.rob_algebra.specs.Fraction.{Fraction}
use Rattle.rob_meaning.specs.RobustModel.{Variable}
use Rattle.rob_model.proofs.PartLemmas.{drop_at}
use Rattle.rob_model.specs.View.{variable_of}
use Rattle.rob_model.specs.declared.model.Var.{Var}
use Rattle.rob_reach.proofs.SplitLemmas.{product_positive}
use Rattle.rob_reach.specs.Ranges.{has_both, is_bounded, range_between, range_at, product_of_ranges}

module _ {N : Type 0} (value : N → Fraction) where
  bounded_at : (xs : List (Var N)) (j : ℕ) (x : Var N) → j < length xs → x ≡ get_or xs j x
      → is_bounded (map (variable_of value) xs) j ≡ (is_some x.lower && is_some x.upper)
  bounded_at [] j x h e = absurd (omega arith)
  bounded_at (y ∷ xs) zero x h e =
      ap (λ (z : Var N). has_both (option_map value z.lower) (option_map value z.upper)) (sym e) ∙ by x.lower x.upper
    where
      by : (l u : Option N) → has_both (option_map value l) (option_map value u) ≡ (is_some l && is_some u)
      by None u = refl
      by (Some l) None = refl
      by (Some l) (Some u) = refl
  bounded_at (y ∷ xs) (suc j) x h e = let i : j < length xs = omega arith in bounded_at xs j x i e

  bounded_past : (xs : List (Var N)) (j : ℕ) → length xs ≤ j → is_bounded (map (variable_of value) xs) j ≡ false
  bounded_past [] j h = refl
  bounded_past (y ∷ xs) zero h = absurd (omega arith)
  bounded_past (y ∷ xs) (suc j) h = let i : length xs ≤ j = omega arith in bounded_past xs j i

  between_at : (xs : List (Var N)) (j : ℕ) (x : Var N) → j < length xs → x ≡ get_or xs j x
      → range_at (map (variable_of value) xs) j ≡ range_between (option_map value x.lower) (option_map value x.upper)
  between_at [] j x h e = absurd (omega arith)
  between_at (y ∷ xs) zero x h e =
      ap (λ (z : Var N). range_between (option_map value z.lower) (option_map value z.upper)) (sym e)
  between_at (y ∷ xs) (suc j) x h e = let i : j < length xs = omega arith in between_at xs j x i e

  between_past : (xs : List (Var N)) (j : ℕ) → length xs ≤ j → range_at (map (variable_of value) xs) j ≡ 1
  between_past [] j h = refl
  between_past (y ∷ xs) zero h = absurd (omega arith)
  between_past (y ∷ xs) (suc j) h = let i : length xs ≤ j = omega arith in between_past xs j i

  module _ (xs vars : List (Var N)) (j : ℕ) (same : xs ≡ vars) where
    -- the variable at a number has both bounds, or lacks the first; or there is none
    pub tests_both : (x : Var N) (a b : Bool) → j < length xs → x ≡ get_or xs j x → a ≡ is_some x.lower
        → a ≡ true → b ≡ is_some x.upper
        → b ≡ is_bounded (map (variable_of value) vars) j
    tests_both x a b h e lower here upper =
        upper ∙ ap (λ c. c && is_some x.upper) (sym here ∙ lower) ∙ sym (bounded_at xs j x h e)
        ∙ ap (λ l. is_bounded (map (variable_of value) l) j) same

    pub tests_lower : (x : Var N) (a : Bool) → j < length xs → x ≡ get_or xs j x → a ≡ is_some x.lower → a ≡ false
        → a ≡ is_bounded (map (variable_of value) vars) j
    tests_lower x a h e lower lacks =
        lacks ∙ ap (λ c. c && is_some x.upper) (sym lacks ∙ lower) ∙ sym (bounded_at xs j x h e)
        ∙ ap (λ l. is_bounded (map (variable_of value) l) j) same

    pub tests_past : length xs ≤ j → false ≡ is_bounded (map (variable_of value) vars) j
    tests_past h = sym (bounded_past xs j h) ∙ ap (λ l. is_bounded (map (variable_of value) l) j) same

    -- the range of the variable at a number; 1 where there is none
    pub range_here : (x : Var N) (r : ℕ) → j < length xs → x ≡ get_or xs j x
        → r ≡ range_between (option_map value x.lower) (option_map value x.upper)
        → r ≡ range_at (map (variable_of value) vars) j
    range_here x r h e is = is ∙ sym (between_at xs j x h e) ∙ ap (λ l. range_at (map (variable_of value) l) j) same

    pub range_past : length xs ≤ j → 1 ≡ range_at (map (variable_of value) vars) j
    range_past h = sym (between_past xs j h) ∙ ap (λ l. range_at (map (variable_of value) l) j) same

-- a range that lacks a bound is 1
pub lacks_upper : (l : Option Fraction) → 1 ≡ range_between l None
lacks_upper None = refl
lacks_upper (Some l) = refl

-- ---- one name more
module _ (xs : List Variable) (names : List ℕ) (i j d so_far range all : ℕ) (inside : i < length names)
    (is : j ≡ get_or names i d)
    (here : range ≡ range_at xs j) (product : so_far * product_of_ranges xs (drop i names) ≡ all) where
  step : (so_far * range) * product_of_ranges xs (drop (i + 1) names) ≡ all
  step =
      ap (λ r. (so_far * r) * product_of_ranges xs (drop (i + 1) names)) here
      ∙ mul_assoc so_far (range_at xs j) (product_of_ranges xs (drop (i + 1) names))
      ∙ ap (λ (ns : List ℕ). so_far * product_of_ranges xs ns)
      (sym (drop_at names i j inside (is ∙ get_or_default names i d j inside)))
      ∙ product

  -- the product with its range
  pub product_more : (next : ℕ) → next ≡ so_far * range → next * product_of_ranges xs (drop (i + 1) names) ≡ all
  product_more next e = ap (λ n. n * product_of_ranges xs (drop (i + 1) names)) e ∙ step

  -- one that is over 1,000 stays so
  pub product_over : 1000 < so_far * range → false ≡ leb all 1000
  product_over over =
      let rest : 1 ≤ product_of_ranges xs (drop (i + 1) names) = product_positive xs (drop (i + 1) names) in
      let grows : (so_far * range) * 1 ≤ (so_far * range) * product_of_ranges xs (drop (i + 1) names) =
      mul-le-mul_left (so_far * range) rest in
      let most : (so_far * range) * 1 ≤ all = subst (λ n. (so_far * range) * 1 ≤ n) step grows in
      sym (lt-leb all 1000 (omega arith))
