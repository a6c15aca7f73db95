use Rattle.std.proofs.Common.{sym, subst}
use Rattle.std.specs.Prelude.{ℕ, List, ℤ, ◌↔◌}
use Rattle.rob_algebra.specs.Fraction.{◌≤ℚ◌}
use Rattle.rob_meaning.proofs.Tables.AtLemmas.{form_law, keeps_law, joint_bound_law, bound_law}
use Rattle.rob_meaning.specs.Forms.{FormHolds, matrix_at, plan_vector, sum_at}
use Rattle.rob_meaning.specs.Guarantee.{HasBound}
use Rattle.rob_meaning.specs.JointMeaning.{HasJointBound, Keeps}
use Rattle.rob_meaning.specs.Places.{0ℚ, 1ℚ}
use Rattle.rob_meaning.specs.RobustModel.{column_count}
use Rattle.rob_meaning.specs.UncertaintySet.{Admits}
use Rattle.std.specs.Prelude.{◌≡◌, length}
use Rattle.rob_algebra.specs.Fraction.{Fraction}
use Rattle.rob_elab.proofs.laws.forms_laws.Goals as goal

pub returns : goal.returns
returns c = record {
  form = λ m forms i u plan tau model is a b.
      subst (λ (all : List (List (List ℤ))). FormHolds m i u plan tau
      ↔ (sum_at (matrix_at all i) 1ℚ u (plan_vector 1ℚ plan tau) ≤ℚ 0ℚ))
      (sym is.matrices) (form_law m model plan tau i u a b);
  keeps = λ m forms u plan tau model is a b.
      subst (λ (all : List (List (List ℤ))). Keeps m plan tau u
      ↔ ((i : ℕ) → sum_at (matrix_at all i) 1ℚ u (plan_vector 1ℚ plan tau) ≤ℚ 0ℚ))
      (sym is.matrices) (keeps_law m model plan tau u a b);
  joint_bound = λ m forms plan tau model is.
      subst (λ (all : List (List (List ℤ))). HasJointBound m plan tau
      ↔ ((length plan ≡ column_count m) × ((u : List Fraction) → Admits m u
      → (i : ℕ) → sum_at (matrix_at all i) 1ℚ u (plan_vector 1ℚ plan tau) ≤ℚ 0ℚ))) (sym is.matrices)
      (joint_bound_law m model plan tau);
  bound = λ m forms plan tau model is inside some.
      subst (λ (all : List (List (List ℤ))). HasBound m plan tau
      ↔ ((length plan ≡ column_count m) × ((u : List Fraction) → Admits m u
      → (i : ℕ) → sum_at (matrix_at all i) 1ℚ u (plan_vector 1ℚ plan tau) ≤ℚ 0ℚ))) (sym is.matrices)
      (bound_law m model plan tau inside some);
}
