-- Where a model's names are distinct, each is found at its own number.
use Rattle.std.proofs.Common.{◌≡◌, ℕ, zero, suc, List, [], ◌∷◌, ap, refl}
use Rattle.std.specs.Prelude.{◌≢◌, Option, Some, None, slice_get, codes}
use Rattle.rob_meaning.specs.Named.{AreDistinct, IsNamed}
use Rattle.rob_meaning.specs.Names.{Name, column_names}
use Rattle.rob_meaning.specs.RobustModel.{RobustModel}
use Rattle.rob_meaning.specs.WellFormed.{IsModel}
use Rattle.rob_meaning.proofs.Naming.DeclaredLemmas.{parameters_distinct as joint_distinct}
use Rattle.rob_meaning.proofs.Lists.DistinctLemmas.{distinct_left}
use Rattle.rob_meaning.proofs.Naming.NamedFormLemmas.{distinct_columns}
use Rattle.rob_model.specs.Naming.{Finds, FindsOwn, parameter_names}
use Rattle.rob_model.proofs.KeptLemmas.{some_is}
use Rattle.rob_model.proofs.PartLemmas.{each_get}

-- distinct names stand at one number each
one_number : (names : List Name) (name : Name) (i k : ℕ) → AreDistinct names
    → slice_get names i ≡ Some name → slice_get names k ≡ Some name → i ≡ k
one_number [] name i k d a b = cc
one_number (x ∷ xs) name zero zero d a b = refl
one_number (x ∷ xs) name zero (suc k) d a b = absurd (each_get (λ y. x ≢ y) xs k name b d.0 (some_is a))
one_number (x ∷ xs) name (suc i) zero d a b = absurd (each_get (λ y. x ≢ y) xs i name a d.0 (some_is b))
one_number (x ∷ xs) name (suc i) (suc k) d a b = ap suc (one_number xs name i k d.1 a b)

-- so the first number that has a name is the only one
pub finds_own : (names : List Name) (name : Name) (found : Option ℕ) → AreDistinct names
    → Finds names name found → FindsOwn names name found
finds_own names name None d h k at = absurd (each_get (λ other. other ≢ name) names k name at h refl)
finds_own names name (Some i) d h k at = ap Some (one_number names name i k d h.0 at)

-- ---- the names of each kind
module _ (m : RobustModel) (model : IsModel m) (named : IsNamed m) where
  pub columns_distinct : AreDistinct (column_names m)
  columns_distinct = distinct_left (column_names m) (codes "tau" ∷ []) (distinct_columns m model named)

  pub parameters_distinct : AreDistinct (parameter_names m)
  parameters_distinct = joint_distinct m model named
