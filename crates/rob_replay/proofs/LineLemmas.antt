-- One adaptive variable more, and the parts of a line together.
use Rattle.std.proofs.Common.{◌≡◌, ℕ, zero, suc, ◌+◌, ◌<◌, ◌≤◌, List, [], ◌∷◌, map, length, drop, refl, sym, ap, ◌∙◌, arith, add-one, ◌^◌}
use Rattle.std.proofs.lemmas.List.{length-map}
use Rattle.std.specs.Prelude.{Option, Some, None}
use Rattle.rob_algebra.specs.Fraction.{Fraction}
use Rattle.rob_meaning.specs.RobustModel.{RobustModel, AdaptiveVariable, column_from}
use Rattle.rob_model.proofs.KeptLemmas.{some_is, through}
use Rattle.rob_model.specs.View.{adaptive_of, row_of}
use Rattle.rob_model.specs.declared.model.RowDef.{RowDef}
use Rattle.rob_model.specs.Within.{policy_within, value_within}
use Rattle.rob_model.specs.declared.model.Adaptive.{Adaptive}
use Rattle.rob_replay.proofs.GatherLemmas.{gathered_next, gathered_stops}
use Rattle.rob_replay.specs.Gathering.{all_of, gathered}
use Rattle.rob_replay.specs.Lines.{policies_within, bound_slacks, row_slack, slacks_within, inside_within}
use Rattle.rob_model.proofs.NameCountLemmas.{columns_many}

module _ {N : Type 0} (value : N → Fraction) (limit : ℕ) (m : RobustModel) (plan scenario : List Fraction) where
  from_place : (k n : ℕ) (ys : List (Adaptive N)) → k < length ys
      → policies_within limit m plan scenario n (map (adaptive_of value) (drop k ys))
      ≡ policy_within limit m plan scenario n
      ∷ policies_within limit m plan scenario (suc n) (map (adaptive_of value) (drop (suc k) ys))
  from_place k n [] inside = absurd (omega arith)
  from_place zero n (y ∷ ys) inside = refl
  from_place (suc k) n (y ∷ ys) inside = from_place k n ys (omega arith)

  policies_split : (k : ℕ) (ys : List (Adaptive N)) → k < length ys
      → policies_within limit m plan scenario k (map (adaptive_of value) (drop k ys))
      ≡ policy_within limit m plan scenario k
      ∷ policies_within limit m plan scenario (k + 1) (map (adaptive_of value) (drop (k + 1) ys))
  policies_split k ys inside =
      from_place k k ys inside
      ∙ ap (λ j. policy_within limit m plan scenario k
      ∷ policies_within limit m plan scenario j (map (adaptive_of value) (drop j ys))) (sym (add-one k))

  module _ (ys : List (Adaptive N)) (k : ℕ) (so_far : List Fraction) where
    pub policies_next : k < length ys → (next : List Fraction)
        → gathered so_far (policy_within limit m plan scenario k ∷ []) ≡ Some next
        → gathered so_far (policies_within limit m plan scenario k (map (adaptive_of value) (drop k ys)))
        ≡ gathered next (policies_within limit m plan scenario (k + 1) (map (adaptive_of value) (drop (k + 1) ys)))
    policies_next inside next h =
        ap (gathered so_far) (policies_split k ys inside)
        ∙ gathered_next so_far next (policy_within limit m plan scenario k)
        (policies_within limit m plan scenario (k + 1) (map (adaptive_of value) (drop (k + 1) ys))) h

    pub policies_stop : k < length ys → gathered so_far (policy_within limit m plan scenario k ∷ []) ≡ None
        → gathered so_far (policies_within limit m plan scenario k (map (adaptive_of value) (drop k ys))) ≡ None
    policies_stop inside h =
        ap (gathered so_far) (policies_split k ys inside)
        ∙ gathered_stops so_far (policy_within limit m plan scenario k)
        (policies_within limit m plan scenario (k + 1) (map (adaptive_of value) (drop (k + 1) ys))) h

-- the number of values that were gathered
pub all_count : {A : Type 0} (xs : List (Option A)) (ys : List A) → all_of xs ≡ Some ys → length xs ≡ length ys
all_count [] [] h = refl
all_count [] (y ∷ ys) h = cc
all_count (None ∷ xs) ys h = cc
all_count {A} (Some x ∷ xs) ys h = let t = through (all_of xs) (λ (zs : List A). Some (x ∷ zs)) ys h in
    let e : x ∷ t.0 ≡ ys = some_is t.2 in
    ap suc (all_count xs t.0 t.1) ∙ ap length e

policies_length : (limit : ℕ) (m : RobustModel) (plan scenario : List Fraction) (n : ℕ) (ys : List AdaptiveVariable)
    → length (policies_within limit m plan scenario n ys) ≡ length ys
policies_length limit m plan scenario n [] = refl
policies_length limit m plan scenario n (y ∷ ys) = ap suc (policies_length limit m plan scenario (suc n) ys)

pub policies_count : (limit : ℕ) (m : RobustModel) (plan scenario : List Fraction) (n : ℕ)
    (ys : List AdaptiveVariable) (xs : List Fraction)
    → all_of (policies_within limit m plan scenario n ys) ≡ Some xs → length ys ≡ length xs
policies_count limit m plan scenario n ys xs h =
    sym (policies_length limit m plan scenario n ys) ∙ all_count (policies_within limit m plan scenario n ys) xs h

module _ {N : Type 0} (value : N → Fraction) (limit : ℕ) where
  abbrev pub bounds_left : List (Adaptive N) → List N → ℕ → List (Option Fraction)
  bounds_left ys xs k = bound_slacks limit (map (adaptive_of value) (drop k ys)) (map value (drop k xs))

-- the slack of a row as it is stored
abbrev pub slack_in : {N : Type 0} → (N → Fraction) → ℕ → RobustModel → List Fraction → List Fraction
    → RowDef N → Option Fraction
slack_in value limit m plan scenario r = row_slack limit m plan scenario (row_of value r)

pub slacks_in : {N : Type 0} (value : N → Fraction) (limit : ℕ) (m : RobustModel)
    (plan scenario : List Fraction) (rs : List (RowDef N))
    → map (slack_in value limit m plan scenario) rs ≡ map (row_slack limit m plan scenario) (map (row_of value) rs)
slacks_in value limit m plan scenario [] = refl
slacks_in value limit m plan scenario (r ∷ rs) =
    ap (λ l. slack_in value limit m plan scenario r ∷ l) (slacks_in value limit m plan scenario rs)

-- ---- a line that is inside
module _ (limit : ℕ) (m : RobustModel) (plan scenario : List Fraction) (number : ℕ)
    (adaptives : List Fraction) (objective : Fraction)
    (policies : all_of (policies_within limit m plan scenario 0 m.adaptives) ≡ Some adaptives)
    (goal : Some objective ≡ value_within limit m plan scenario m.objective) where
  pub inside_stops : all_of (slacks_within limit m plan scenario adaptives) ≡ None
      → inside_within limit m plan number scenario ≡ None
  inside_stops none = rw (policies, sym goal, none) refl

pub few_policies : {N : Type 0} (value : N → Fraction) (vars : ℕ) (ys : List (Adaptive N))
    → column_from vars (map (adaptive_of value) ys) (length (map (adaptive_of value) ys)) ≤ 600 → (k : ℕ)
    → k < length ys → k < 2 ^ 32
few_policies value vars ys few k h =
    let n = columns_many vars (map (adaptive_of value) ys) in
    let l = length-map ys (adaptive_of value) in
    omega arith
