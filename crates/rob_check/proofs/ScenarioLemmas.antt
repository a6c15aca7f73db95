-- One set condition more, and the numbers of the conditions.
use Rattle.std.proofs.Common.{◌≡◌, ℕ, suc, ◌+◌, ◌<◌, ◌≤◌, List, [], ◌∷◌, ◌++◌, map, length, get_or, drop, arith, refl, sym, ◌∙◌, ap, ap₂, add-one, append_assoc, length-append, Bool, ◌*◌, Fits, w32}
use Rattle.std.proofs.lemmas.List.{length-map}
use Rattle.std.specs.Prelude.{Option, Some, None, option_map, option_to_list}
use Rattle.rob_algebra.specs.Fraction.{Fraction}
use Rattle.rob_meaning.specs.RobustModel.{RobustModel}
use Rattle.rob_meaning.specs.SetConditions.{SetCondition, all_stated, bounds_from, bounds_of, if_declared, lower_bound, stated, upper_bound}
use Rattle.rob_model.proofs.PartLemmas.{drop_at, drop_all}
use Rattle.rob_model.specs.View.{parameter_of, set_line_of}
use Rattle.rob_model.specs.Valid.{IsValid}
use Rattle.rob_model.specs.Within.{declared_within, holds_within}
use Rattle.rob_model.specs.declared.model.Model.{Model}
use Rattle.rob_model.specs.declared.model.Param.{Param}
use Rattle.rob_model.specs.declared.model.SetLine.{SetLine}
use Rattle.rob_model.specs.declared.place.Place.{Place}
use Rattle.rob_model.proofs.ConditionLemmas.{count_of, two_declared}
use Rattle.rob_check.specs.Conditions.{set_tests}
use Rattle.rob_check.specs.Scenario.{bound_tests}
use Rattle.rob_check.specs.Verdicts.{Condition, decided, verdict}
use Rattle.rob_check.specs.declared.verdict.Verdict.{Verdict}
use Rattle.rob_check.specs.declared.verdict.Verdict.TheVariants.{Accepted}
use Rattle.rob_check.proofs.VerdictLemmas.{goes, stops, judged_is}

length-declared : {A : Type 0} (value : A → Fraction) (f : Fraction → SetCondition) (o : Option A)
    → length (if_declared f (option_map value o)) ≡ count_of o
length-declared value f None = refl
length-declared value f (Some x) = refl

module _ (limit : ℕ) (m : RobustModel) (place : ℕ → Place) (s : Fraction) (p : List Fraction) where
  set_tests-append : (k : ℕ) (xs ys : List SetCondition)
      → set_tests limit m place s p k (xs ++ ys) ≡ set_tests limit m place s p k xs
      ++ set_tests limit m place s p (k + length xs) ys
  set_tests-append k [] ys = ap (λ j. set_tests limit m place s p j ys) (let e : k ≡ k + 0 = omega arith in e)
  set_tests-append k (c ∷ xs) ys =
      ap (λ rest. record { place = place k; holds = holds_within limit m s p c } ∷ rest)
      (set_tests-append (suc k) xs ys
      ∙ ap (λ j. set_tests limit m place s p (suc k) xs ++ set_tests limit m place s p j ys)
      (let e : suc k + length xs ≡ k + suc (length xs) = omega arith in e))

  -- a declared bound, or none
  declared_judged : (f : Fraction → SetCondition) (o : Option Fraction) (i : ℕ)
      → decided (place i) (declared_within limit m s p f o) Accepted
      ≡ verdict (set_tests limit m place s p i (if_declared f o))
  declared_judged f None i = refl
  declared_judged f (Some b) i = refl

  module _ {N : Type 0} (value : N → Fraction) where
    -- ---- the bounds of one parameter
    module _ (i k : ℕ) (d : Param N) where
      lower_tests : List Condition
      lower_tests = set_tests limit m place s p i (if_declared (lower_bound k) (option_map value d.lower))

      upper_tests : List Condition
      upper_tests =
          set_tests limit m place s p (i + count_of d.lower) (if_declared (upper_bound k) (option_map value d.upper))

      both_tests : bound_tests limit m place s p i k (parameter_of value d) ≡ lower_tests ++ upper_tests
      unfolding lower_tests upper_tests
      both_tests =
          set_tests-append i (if_declared (lower_bound k) (option_map value d.lower))
          (if_declared (upper_bound k) (option_map value d.upper))
          ∙ ap (λ n. set_tests limit m place s p i (if_declared (lower_bound k) (option_map value d.lower))
          ++ set_tests limit m place s p (i + n) (if_declared (upper_bound k) (option_map value d.upper)))
          (length-declared value (lower_bound k) d.lower)

      lower_judged : (at : Place) (test : Option Bool) (v : Verdict) → v ≡ decided at test Accepted → at ≡ place i
          → test ≡ declared_within limit m s p (lower_bound k) (option_map value d.lower) → v ≡ verdict lower_tests
      unfolding lower_tests
      lower_judged at test v h is same =
          h ∙ ap₂ (λ q t. decided q t Accepted) is same ∙ declared_judged (lower_bound k) (option_map value d.lower) i

      pub lower_stops : (at : Place) (test : Option Bool) (v : Verdict) → (v ≡ Accepted → ⊥)
          → v ≡ decided at test Accepted → at ≡ place i
          → test ≡ declared_within limit m s p (lower_bound k) (option_map value d.lower)
          → v ≡ verdict (bound_tests limit m place s p i k (parameter_of value d))
      lower_stops at test v flaw h is same =
          stops lower_tests upper_tests v flaw (lower_judged at test v h is same) ∙ ap verdict (sym both_tests)

      pub upper_decides : (at : Place) (test : Option Bool) → Accepted ≡ decided at test Accepted → at ≡ place i
          → test ≡ declared_within limit m s p (lower_bound k) (option_map value d.lower)
          → (up : Place) (upper : Option Bool) (v : Verdict) → v ≡ decided up upper Accepted → (n : ℕ)
          → n ≡ length (option_to_list d.lower) → up ≡ place (i + n)
          → upper ≡ declared_within limit m s p (upper_bound k) (option_map value d.upper)
          → v ≡ verdict (bound_tests limit m place s p i k (parameter_of value d))
      unfolding upper_tests
      upper_decides at test h is same up upper v judged n count up_is up_same =
          judged ∙ ap₂ (λ q t. decided q t Accepted) (up_is ∙ ap (λ n. place (i + n)) count) up_same
          ∙ declared_judged (upper_bound k) (option_map value d.upper) (i + count_of d.lower)
          ∙ goes lower_tests upper_tests (lower_judged at test Accepted h is same) ∙ ap verdict (sym both_tests)

    -- ---- the bounds of all parameters, and behind them other conditions
    module _ (ps : List (Param N)) (k i : ℕ) (d : Param N) (others : List SetCondition) (inside : k < length ps)
        (is : d ≡ get_or ps k d) where
      bounds_left : List SetCondition
      bounds_left = bounds_from (k + 1) (map (parameter_of value) (drop (k + 1) ps)) ++ others

      bounds_split : bounds_from k (map (parameter_of value) (drop k ps)) ++ others
          ≡ bounds_of k (parameter_of value d) ++ bounds_left
      unfolding bounds_left
      bounds_split =
          ap (λ (xs : List (Param N)). bounds_from k (map (parameter_of value) xs) ++ others) (drop_at ps k d inside is)
          ∙ append_assoc (bounds_of k (parameter_of value d))
          (bounds_from (suc k) (map (parameter_of value) (drop (k + 1) ps))) others
          ∙ ap (λ j. bounds_of k (parameter_of value d)
          ++ (bounds_from j (map (parameter_of value) (drop (k + 1) ps)) ++ others)) (sym (add-one k))

      whole_is : set_tests limit m place s p i (bounds_from k (map (parameter_of value) (drop k ps)) ++ others)
          ≡ bound_tests limit m place s p i k (parameter_of value d)
          ++ set_tests limit m place s p (i + length (bounds_of k (parameter_of value d))) bounds_left
      whole_is =
          ap (set_tests limit m place s p i) bounds_split
          ∙ set_tests-append i (bounds_of k (parameter_of value d)) bounds_left

      pub parameter_stops : (v : Verdict) → (v ≡ Accepted → ⊥)
          → v ≡ verdict (bound_tests limit m place s p i k (parameter_of value d))
          → v ≡ verdict (set_tests limit m place s p i (bounds_from k (map (parameter_of value) (drop k ps)) ++ others))
      parameter_stops v flaw h =
          stops (bound_tests limit m place s p i k (parameter_of value d))
          (set_tests limit m place s p (i + length (bounds_of k (parameter_of value d))) bounds_left) v flaw h
          ∙ ap verdict (sym whole_is)

      length-bounds : length (bounds_of k (parameter_of value d))
          ≡ length (option_to_list d.lower) + length (option_to_list d.upper)
      length-bounds =
          length-append (if_declared (lower_bound k) (option_map value d.lower))
          (if_declared (upper_bound k) (option_map value d.upper))
          ∙ ap₂ ◌+◌ (length-declared value (lower_bound k) d.lower) (length-declared value (upper_bound k) d.upper)

      pub parameter_goes : Accepted ≡ verdict (bound_tests limit m place s p i k (parameter_of value d))
          → (a b : ℕ) → a ≡ length (option_to_list d.lower) → b ≡ length (option_to_list d.upper)
          → verdict (set_tests limit m place s p (i + (a + b))
          (bounds_from (k + 1) (map (parameter_of value) (drop (k + 1) ps)) ++ others))
          ≡ verdict (set_tests limit m place s p i (bounds_from k (map (parameter_of value) (drop k ps)) ++ others))
      unfolding bounds_left
      parameter_goes h a b lower upper =
          ap (λ n. verdict (set_tests limit m place s p (i + n) bounds_left)) (ap₂ ◌+◌ lower upper ∙ sym length-bounds)
          ∙ goes (bound_tests limit m place s p i k (parameter_of value d))
          (set_tests limit m place s p (i + length (bounds_of k (parameter_of value d))) bounds_left) h
          ∙ ap verdict (sym whole_is)

    -- ---- statements
    module _ (ls : List (SetLine N)) (k i : ℕ) (l : SetLine N) (inside : k < length ls) (is : l ≡ get_or ls k l) where
      here : Condition
      here = record { place = place i; holds = holds_within limit m s p (stated (set_line_of value l)) }

      statement_split : set_tests limit m place s p i (all_stated (map (set_line_of value) (drop k ls)))
          ≡ here ∷ set_tests limit m place s p (i + 1) (all_stated (map (set_line_of value) (drop (k + 1) ls)))
      unfolding here
      statement_split =
          ap (λ (xs : List (SetLine N)). set_tests limit m place s p i (all_stated (map (set_line_of value) xs)))
          (drop_at ls k l inside is)
          ∙ ap (λ j. here ∷ set_tests limit m place s p j (all_stated (map (set_line_of value) (drop (k + 1) ls))))
          (sym (add-one i))

      module _ (at : Place) (test : Option Bool) (v : Verdict)
          (judged : v ≡ decided at test Accepted) (at_is : at ≡ place i)
          (same : test ≡ holds_within limit m s p (stated (set_line_of value l))) where
        pub statement_stops : (v ≡ Accepted → ⊥)
            → v ≡ verdict (set_tests limit m place s p i (all_stated (map (set_line_of value) (drop k ls))))
        unfolding here
        statement_stops flaw =
            stops (here ∷ [])
            (set_tests limit m place s p (i + 1) (all_stated (map (set_line_of value) (drop (k + 1) ls)))) v flaw
            (judged_is at (place i) test _ v judged at_is same)
            ∙ ap verdict (sym statement_split)

        pub statement_goes : Accepted ≡ v
            → verdict (set_tests limit m place s p (i + 1) (all_stated (map (set_line_of value) (drop (k + 1) ls))))
            ≡ verdict (set_tests limit m place s p i (all_stated (map (set_line_of value) (drop k ls))))
        unfolding here
        statement_goes accepted =
            goes (here ∷ [])
            (set_tests limit m place s p (i + 1) (all_stated (map (set_line_of value) (drop (k + 1) ls))))
            (accepted ∙ judged_is at (place i) test _ v judged at_is same)
            ∙ ap verdict (sym statement_split)

-- behind the last parameter the statements are left
pub parameters_end : (limit : ℕ) (m : RobustModel) (place : ℕ → Place) (s : Fraction) (p : List Fraction)
    → {N : Type 0} (value : N → Fraction) (params : List (Param N)) (k index : ℕ) (behind : List SetCondition)
    → length params ≤ k
    → verdict (set_tests limit m place s p index behind)
    ≡ verdict (set_tests limit m place s p index (bounds_from k (map (parameter_of value) (drop k params)) ++ behind))
parameters_end limit m place s p {N} value params k index behind past =
    sym (ap (λ (xs : List (Param N)). verdict (set_tests limit m place s p index
    (bounds_from k (map (parameter_of value) xs) ++ behind))) (drop_all k params past))

-- ---- the numbers of conditions are small
pub declared_fits : {A : Type 0} (o p : Option A) {a b : ℕ} → a ≡ length (option_to_list o)
    → b ≡ length (option_to_list p) → Fits w32 (a + b)
declared_fits o p e f = omega (arith, two_declared o p e f)

module _ {N : Type 0} {value : N → Fraction} {model : Model N} (valid : IsValid value model) where
  few_parameters : length model.params ≤ 96
  few_parameters = omega (arith, valid.limits.parameters, length-map model.params (parameter_of value))

  few_statements : length model.set_lines ≤ 64
  few_statements = omega (arith, valid.limits.set_lines, length-map model.set_lines (set_line_of value))

  module _ {params : List (Param N)} (same : params ≡ model.params) {index k : ℕ} (small : index ≤ 2 * k)
      (inside : k ≤ length params) where
    pub index_small : index ≤ 1000
    index_small = omega (arith, few_parameters, ap length same)

    pub index_fits : {A : Type 0} (o p : Option A) {a b : ℕ} → a ≡ length (option_to_list o)
        → b ≡ length (option_to_list p) → Fits w32 (index + (a + b))
    index_fits o p e f = omega (arith, few_parameters, ap length same, two_declared o p e f)

  pub number_fits : {lines : List (SetLine N)} → lines ≡ model.set_lines → {first index k : ℕ} → first ≤ 1000
      → index ≡ first + k → k < length lines → Fits w32 (index + 1)
  number_fits same low is inside = omega (arith, few_statements, ap length same)
