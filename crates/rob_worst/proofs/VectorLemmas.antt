-- The vectors of plans and directions: their numbers, and how many they are.
use Rattle.std.proofs.Common.{◌≡◌, ℕ, suc, ◌+◌, ◌<◌, List, [], ◌∷◌, ◌++◌, map, length, take, refl, sym, ap, ◌∙◌, arith, get_or}
use Rattle.std.proofs.lemmas.List.{length-map, length-append}
use lib.IntN.{ℤ}
use Rattle.rob_algebra.specs.Fraction.{Fraction}
use Rattle.rob_meaning.specs.Clearing.{whole_at}
use Rattle.rob_model.specs.declared.plan.Plan.{Plan}
use Rattle.rob_sets.proofs.WholeRows.ClearingSteps.{first_more}
use Rattle.rob_sets.proofs.WholeRows.RowLemmas.{pushed}
use Rattle.rob_worst.specs.Vectors.{plan_of, step_of}

module _ {N : Type 0} (value : N → Fraction) where
  -- one number more behind the first
  pub vector_more : (first : Fraction) (others numbers new : List N) (k : ℕ) (x : N) → k < length others
      → x ≡ get_or others k x
      → map value numbers ≡ first ∷ map value (take k others) → new ≡ numbers ++ x ∷ []
      → map value new ≡ first ∷ map value (take (k + 1) others)
  vector_more first others numbers new k x l is h e =
      pushed value numbers new x (first ∷ map value (take k others)) (value x) h e refl
      ∙ ap (λ (ys : List Fraction). first ∷ ys) (sym (first_more value others k x l is))

  pub plan_count : (plan : Plan N) (n : ℕ) → length plan.columns ≡ n → length (plan_of value plan) ≡ suc (suc n)
  plan_count plan n e =
      let k : length (map value plan.columns) ≡ length plan.columns = length-map plan.columns value in
      let a : length (map value plan.columns ++ value plan.bound ∷ []) ≡ length (map value plan.columns) + 1 =
      length-append (map value plan.columns) (value plan.bound ∷ []) in
      omega arith

  pub step_count : (step : List N) (n : ℕ) → length step ≡ suc n → length (step_of value step) ≡ suc (suc n)
  step_count step n e =
      let k : length (map value step) ≡ length step = length-map step value in
      omega arith

  -- the numbers of the list that is a vector
  pub count_back : (numbers : List N) (z : List Fraction) (n : ℕ) → map value numbers ≡ z → length z ≡ n
      → length numbers ≡ n
  count_back numbers z n e l = sym (length-map numbers value) ∙ ap length e ∙ l

  pub cleared_count : (numbers : List N) (d : ℕ) (whole : List ℤ) (n : ℕ)
      → whole ≡ map (whole_at d) (map value numbers) → length numbers ≡ n → length whole ≡ n
  cleared_count numbers d whole n e l = ap length e ∙ length-map (map value numbers) (whole_at d)
      ∙ length-map numbers value ∙ l
