-- The numbers that a solver tells.
use Rattle.std.proofs.Common.{◌≡◌, ◌≢◌, ℕ, suc, sym, refl, ap, ap₂, subst, ◌∙◌, ◌+◌, ◌<◌, arith, Option, Some, None, IfSome}
use Rattle.std.proofs.lemmas.Bool.Decides.{nat_tests}
use lib.IntN.{pos, neg_ℤ, nat_abs}
use lib.Signed.{◌<ℤ◌}
use Rattle.rob_algebra.specs.Fraction.{of_int, of_pair}
use Rattle.rob_algebra.specs.Width.{Fits}
use Rattle.rob_algebra.proofs.Parts.{of_int-one}
use Rattle.rob_linear.specs.Programs.{auxiliary_place}
use Rattle.rob_simplex.specs.Dictionaries.{columns_of, rows_of, right_column}
use Rattle.rob_simplex.specs.Judging.{ratio_of, objective_column, Tells}
use Rattle.rob_simplex.specs.Solvers.{Solver, positions, sized_as, entries, column_of, growing_of, HasRay, HasOptimum}
use Rattle.rob_simplex.specs.Solutions.{position_of, at_position, over_own, over_objective, point_of, ray_of, dual_of, value_of}
use Rattle.rob_simplex.proofs.Places.Positions.{position_is}
use Rattle.rob_simplex.proofs.Telling.LastPoints.{ray_elsewhere}
use Rattle.rob_simplex.proofs.Telling.SolverRows.{over_same, minus_over_same, low_place, high_place}

-- ---- the objective's row
module _ (s : Solver) (objective : pos 0 <ℤ rows_of s.dictionary (positions s) (suc (s.columns + positions s))) where
  own_place : auxiliary_place (sized_as s) (s.columns + positions s) ≡ suc (s.columns + positions s)
  own_place = high_place s (s.columns + positions s) (omega arith)

  over_place : (k : ℕ) → k < suc (suc (s.columns + positions s))
      → of_pair (rows_of s.dictionary (positions s) (auxiliary_place (sized_as s) k))
      (nat_abs (rows_of s.dictionary (positions s) (suc (s.columns + positions s)))) ≡ over_objective s k
  over_place k l =
      ap (λ v. of_pair (rows_of s.dictionary (positions s) (auxiliary_place (sized_as s) k))
      (nat_abs (rows_of s.dictionary (positions s) v))) (sym own_place)
      ∙ over_same s (positions s) (s.columns + positions s) (omega arith)
      (subst (λ v. pos 0 <ℤ rows_of s.dictionary (positions s) v) (sym own_place) objective) k l

  pub dual_told : (i : ℕ) → i < positions s
      → of_pair (rows_of s.dictionary (positions s) (s.columns + i))
      (nat_abs (rows_of s.dictionary (positions s) (suc (s.columns + positions s)))) ≡ dual_of s i
  dual_told i l =
      ap (λ v. of_pair (rows_of s.dictionary (positions s) v)
      (nat_abs (rows_of s.dictionary (positions s) (suc (s.columns + positions s)))))
      (sym (low_place s (s.columns + i) (omega arith)))
      ∙ over_place (s.columns + i) (omega arith)

  pub value_told : of_pair (rows_of s.dictionary (positions s) (s.columns + positions s + 2))
      (nat_abs (rows_of s.dictionary (positions s) (suc (s.columns + positions s)))) ≡ value_of s
  value_told =
      let p : auxiliary_place (sized_as s) (s.columns + positions s + 1) ≡ suc (s.columns + positions s + 1) =
      high_place s (s.columns + positions s + 1) (omega arith) in
      let e : s.columns + positions s + 2 ≡ auxiliary_place (sized_as s) (s.columns + positions s + 1) = omega arith in
      ap (λ v. of_pair (rows_of s.dictionary (positions s) v)
      (nat_abs (rows_of s.dictionary (positions s) (suc (s.columns + positions s))))) e
      ∙ over_place (s.columns + positions s + 1) (omega arith)

-- ---- the row of a position
module _ (s : Solver) (i : ℕ)
    (own : (columns_of s.basis i < s.columns + positions s) × (pos 0 <ℤ rows_of s.dictionary i (columns_of s.basis i)))
  where
    basic_place : auxiliary_place (sized_as s) (columns_of s.basis i) ≡ columns_of s.basis i
    basic_place = low_place s (columns_of s.basis i) own.0

    basic_in : columns_of s.basis i < suc (suc (s.columns + positions s))
    basic_in = let l : columns_of s.basis i < s.columns + positions s = own.0 in omega arith

    basic_positive : pos 0 <ℤ rows_of s.dictionary i (auxiliary_place (sized_as s) (columns_of s.basis i))
    basic_positive = subst (λ v. pos 0 <ℤ rows_of s.dictionary i v) (sym basic_place) own.1

    right_over : of_pair (rows_of s.dictionary i (s.columns + positions s + 2))
        (nat_abs (rows_of s.dictionary i (columns_of s.basis i))) ≡ over_own s
        (λ j. entries s j (s.columns + positions s + 1)) i
    right_over =
        let p : auxiliary_place (sized_as s) (s.columns + positions s + 1) ≡ suc (s.columns + positions s + 1) =
        high_place s (s.columns + positions s + 1) (omega arith) in
        let e : s.columns + positions s + 2 ≡ auxiliary_place (sized_as s) (s.columns + positions s + 1) =
        omega arith in
        ap₂ (λ u v. of_pair (rows_of s.dictionary i u) (nat_abs (rows_of s.dictionary i v))) e (sym basic_place)
        ∙ over_same s i (columns_of s.basis i) basic_in basic_positive (s.columns + positions s + 1) (omega arith)

    column_over : (column : ℕ) → column < s.columns + positions s
        → of_pair (neg_ℤ (rows_of s.dictionary i column))
        (nat_abs (rows_of s.dictionary i (columns_of s.basis i))) ≡ over_own s (λ j. neg_ℤ (entries s j column)) i
    column_over column l =
        ap₂ (λ u v. of_pair (neg_ℤ (rows_of s.dictionary i u)) (nat_abs (rows_of s.dictionary i v)))
        (sym (low_place s column l)) (sym basic_place)
        ∙ minus_over_same s i (columns_of s.basis i) basic_in basic_positive column (omega arith)

    pub point_some : (j right : ℕ) → right ≡ s.columns + positions s + 2 → Some i ≡ position_of s.basis j
        → of_pair (rows_of s.dictionary i right) (nat_abs (rows_of s.dictionary i (columns_of s.basis i))) ≡ point_of s
        j
    point_some j right e h =
        ap (λ v. of_pair (rows_of s.dictionary i v) (nat_abs (rows_of s.dictionary i (columns_of s.basis i)))) e
        ∙ right_over
        ∙ ap (λ o. at_position o (over_own s (λ k. entries s k (s.columns + positions s + 1)))) h

    pub ray_some : (j column : ℕ) → j ≢ column_of s.state → column ≡ column_of s.state
        → column_of s.state < s.columns + positions s → Some i ≡ position_of s.basis j
        → of_pair (neg_ℤ (rows_of s.dictionary i column))
        (nat_abs (rows_of s.dictionary i (columns_of s.basis i))) ≡ ray_of s j
    ray_some j column d e l h =
        ap (λ v. of_pair (neg_ℤ (rows_of s.dictionary i v)) (nat_abs (rows_of s.dictionary i (columns_of s.basis i)))) e
        ∙ column_over (column_of s.state) l
        ∙ ap (λ o. at_position o (over_own s (λ k. neg_ℤ (entries s k (column_of s.state))))) h
        ∙ sym (ray_elsewhere s j d)

-- ---- a column that is not basic
pub point_none : (s : Solver) (j : ℕ) → None ≡ position_of s.basis j → of_pair (pos 0) 1 ≡ point_of s j
point_none s j h =
    of_int-one (pos 0) 1 refl ∙ ap (λ o. at_position o (over_own s (λ i. entries s i (s.columns + positions s + 1)))) h

pub ray_none : (s : Solver) (j : ℕ) → j ≢ column_of s.state → None ≡ position_of s.basis j
    → of_pair (pos 0) 1 ≡ ray_of s j
ray_none s j d h =
    of_int-one (pos 0) 1 refl ∙ ap (λ o. at_position o (over_own s (λ i. neg_ℤ (entries s i (column_of s.state))))) h
    ∙ sym (ray_elsewhere s j d)

pub ray_here : (s : Solver) (j : ℕ) → j ≡ column_of s.state → of_pair (pos 1) 1 ≡ ray_of s j
ray_here s j e = let r : ray_of s j ≡ of_int (pos 1) = grind (arith, nat_tests) in of_int-one (pos 1) 1 refl ∙ sym r

-- ---- what is told fits
module _ (limit : ℕ) (s : Solver) (told : Tells limit (growing_of s.state) s.dictionary) where
  pub fits_point : (i j right : ℕ) → right ≡ s.columns + positions s + 2 → Some i ≡ position_of s.basis j
      → j < s.columns → Fits limit (ratio_of s.dictionary i right (columns_of s.basis i))
  fits_point i j right e h jl =
      let p = position_is s.basis j i h in
      let r : right_column s.columns (positions s) ≡ right = omega arith in
      subst (λ k. Fits limit (ratio_of s.dictionary i k (columns_of s.basis i))) r
      ((told.rows i p.0).point (subst (λ k. k < s.columns) (sym p.1) jl))

  pub fits_ray : (i j column : ℕ) → HasRay s → column ≡ column_of s.state → Some i ≡ position_of s.basis j
      → j < s.columns → Fits limit (ratio_of s.dictionary i column (columns_of s.basis i))
  fits_ray i j column ray e h jl =
      let p = position_is s.basis j i h in
      let some : growing_of s.state ≡ Some (column_of s.state) = ap growing_of ray in
      let x : IfSome (growing_of s.state) (λ k. Fits limit (ratio_of s.dictionary i k (columns_of s.basis i))) =
      (told.rows i p.0).ray (subst (λ k. k < s.columns) (sym p.1) jl) in
      subst (λ k. Fits limit (ratio_of s.dictionary i k (columns_of s.basis i))) (sym e)
      (subst (λ (o : Option ℕ). IfSome o (λ k. Fits limit (ratio_of s.dictionary i k (columns_of s.basis i)))) some x)

  pub fits_dual : HasOptimum s → (i k : ℕ) → i < positions s → k ≡ s.columns + i
      → Fits limit (ratio_of s.dictionary (positions s) k (objective_column s.dictionary))
  fits_dual state i k l e =
      let none : growing_of s.state ≡ None = ap growing_of state in
      subst (λ c. Fits limit (ratio_of s.dictionary (positions s) c (objective_column s.dictionary))) (sym e)
      ((told.objective none).dual i l)

  pub fits_value : HasOptimum s → (k : ℕ) → k ≡ s.columns + positions s + 2
      → Fits limit (ratio_of s.dictionary (positions s) k (objective_column s.dictionary))
  fits_value state k e =
      let none : growing_of s.state ≡ None = ap growing_of state in
      let r : right_column s.columns (positions s) ≡ k = omega arith in
      subst (λ c. Fits limit (ratio_of s.dictionary (positions s) c (objective_column s.dictionary))) r
      (told.objective none).value
