-- A model of one set is well formed where it is so apart from sets; a plan has a bound there where it has it over joint
-- scenarios and keeps the declared bounds of variables.
use Rattle.std.specs.Prelude.{◌≡◌, ◌<◌, ℕ, zero, suc, ◌*◌, ◌+◌, List, [], ◌∷◌, length, get_or, refl, ◌↔◌}
use Rattle.std.proofs.Common.{sym, ap, subst, arith, zero-mul}
use Rattle.rob_algebra.specs.Fraction.{Fraction}
use Rattle.rob_meaning.proofs.Conditions.AdmittedLemmas.{admits_jointly, jointly_admits, one_set_law}
use Rattle.rob_meaning.proofs.Scenarios.AloneLemmas.{all_written, model_alone}
use Rattle.rob_meaning.proofs.Scenarios.JointBoundLemmas.{bound_joint, keeps_apart}
use Rattle.rob_meaning.proofs.Scenarios.JointScenarioLemmas.{agree_in_each}
use Rattle.rob_meaning.specs.Guarantee.{HasBound, KeepsIn}
use Rattle.rob_meaning.specs.JointMeaning.{HasJointBound, HasOneSet, IsPlainModel}
use Rattle.rob_meaning.specs.Places.{at, Each, EachFrom}
use Rattle.rob_meaning.specs.RobustModel.{AdaptiveVariable, RobustModel, Variable, set_count, written_count}
use Rattle.rob_meaning.specs.UncertaintySet.{Admits, AdmitsIn, KeepsBounds}
use Rattle.rob_meaning.specs.WellFormed.{IsModel}

-- ---- well-formed models
all_default : (sets : List ℕ) → Each (λ S. S ≡ 0) sets → (i : ℕ) → get_or sets i 0 ≡ 0
all_default [] h i = refl
all_default (S ∷ sets) h zero = h.0
all_default (S ∷ sets) h (suc i) = all_default sets h.1 i

module _ (m : RobustModel) (one : HasOneSet m) where
  plain_model : IsModel m → IsPlainModel m
  plain_model model = record {
    set_lines = model.set_lines;
    lists =
        subst (λ n. Each (λ (y : AdaptiveVariable). Each (λ k. k < n) y.on) m.adaptives)
        (all_written m one.sets) model.lists;
    objective = model.objective;
    rows = model.rows;
  }

  model_plain : IsPlainModel m → IsModel m
  model_plain h =
      model_alone m one.sets (all_default m.line_sets one.lines) (all_default m.row_sets one.rows)
      one.objective h.set_lines
      h.lists h.objective h.rows

  pub well_formed_law : IsModel m ↔ IsPlainModel m
  well_formed_law = (plain_model, model_plain)

module _ (m : RobustModel) (model : IsModel m) (alone : m.sets ≡ []) where
  -- ---- scenarios
  pub joint_alone_law : (u : List Fraction) → Admits m u ↔ AdmitsIn m 0 u
  joint_alone_law u = (
    λ h. (one_set_law m model alone u).1 (admits_jointly m model u h),
    λ h. jointly_admits m model u ((one_set_law m model alone u).0 h),
  )

  -- ---- bounds
  no_other : (S : ℕ) → S < set_count m → 0 ≡ S
  no_other S some = let one = ap (λ (sets : List (List ℕ)). suc (length sets)) alone in omega arith

  module _ (plan : List Fraction) (tau : Fraction) where
    kept_alone : HasJointBound m plan tau → (u : List Fraction) → AdmitsIn m 0 u → KeepsIn m plan tau 0 u
    kept_alone h u own =
        keeps_apart m model plan tau 0 u u
        (λ k small. sym
        (agree_in_each m 0 u u (omega arith) own.numbers
        (λ k small. ap (λ j. at u j) (let e : k ≡ zero * written_count m + k =
        omega (arith, zero-mul (written_count m)) in e))
        k small))
        (h.keeps u ((one_set_law m model alone u).0 own))

    abbrev pub VariablesKept : Type 0
    VariablesKept = EachFrom zero (λ k (x : Variable). KeepsBounds x.lower x.upper (at plan k)) m.variables

    alone_bound : HasJointBound m plan tau → VariablesKept → HasBound m plan tau
    alone_bound h variables = record {
      columns = h.columns;
      keeps = λ S some u own.
          subst (λ T. KeepsIn m plan tau T u) (no_other S some)
          (kept_alone h u (subst (λ T. AdmitsIn m T u) (sym (no_other S some)) own));
      variables = variables;
    }

    pub alone_bound_law : HasBound m plan tau ↔ (HasJointBound m plan tau × VariablesKept)
    alone_bound_law = (λ h. (bound_joint m model plan tau h, h.variables), λ h. alone_bound h.0 h.1)
