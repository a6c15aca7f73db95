-- A model of one set: every statement and row is of the default set, and its scenarios are joint scenarios.
use Rattle.std.specs.Prelude.{◌≡◌, ℕ, suc, ◌<◌, List, [], ◌∷◌, length}
use Rattle.std.proofs.Common.{ap, arith}
use Rattle.rob_algebra.specs.Fraction.{Fraction}
use Rattle.rob_meaning.proofs.Scenarios.AloneLemmas.{set_count-alone}
use Rattle.rob_meaning.specs.Places.{Each, EachFrom}
use Rattle.rob_meaning.specs.RobustModel.{RobustModel, Row, SetLine, line_set, row_set, set_count}
use Rattle.rob_meaning.specs.UncertaintySet.{in_each_set, joined_scenarios}
use Rattle.rob_meaning.specs.WellFormed.{IsLineOf, IsModel, IsOf}

module _ (m : RobustModel) (alone : m.sets ≡ []) where
  pub is_default : (S : ℕ) → S < set_count m → S ≡ 0
  is_default S some = let one = set_count-alone m alone in omega arith

  pub not_named : (S : ℕ) → 0 < S → S < set_count m → ⊥
  not_named S some small = let one = set_count-alone m alone in omega arith

  pub in_one_set : (u : List Fraction) → in_each_set m u ≡ u
  in_one_set u = ap (λ (sets : List (List ℕ)). joined_scenarios (length sets) (λ S. u)) alone

  module _ (model : IsModel m) where
    pub objective_default : m.objective_set ≡ 0
    objective_default = is_default m.objective_set model.own_objective.0

    -- ---- statements
    pub lines_out : (P : SetLine → Type 0) (k : ℕ) (cs : List SetLine) →
        EachFrom k (λ i c. (line_set m i < set_count m) × IsLineOf m (line_set m i) c) cs →
        EachFrom k (λ i c. line_set m i ≡ 0 → P c) cs → Each P cs
    lines_out P k [] own h = tt
    lines_out P k (c ∷ cs) own h = (h.0 (is_default (line_set m k) own.0.0), lines_out P (suc k) cs own.1 h.1)

    pub lines_in : (P : SetLine → Type 0) (k : ℕ) (cs : List SetLine) → Each P cs →
        EachFrom k (λ i c. line_set m i ≡ 0 → P c) cs
    lines_in P k [] h = tt
    lines_in P k (c ∷ cs) h = (λ e. h.0, lines_in P (suc k) cs h.1)

    -- ---- rows
    pub rows_out : (P : Row → Type 0) (k : ℕ) (rs : List Row) →
        EachFrom k (λ i r. (row_set m i < set_count m)
        × (IsOf m (row_set m i) r.left × IsOf m (row_set m i) r.right)) rs →
        EachFrom k (λ i r. row_set m i ≡ 0 → P r) rs → Each P rs
    rows_out P k [] own h = tt
    rows_out P k (r ∷ rs) own h = (h.0 (is_default (row_set m k) own.0.0), rows_out P (suc k) rs own.1 h.1)

    pub rows_in : (P : Row → Type 0) (k : ℕ) (rs : List Row) → Each P rs → EachFrom k (λ i r. row_set m i ≡ 0 → P r) rs
    rows_in P k [] h = tt
    rows_in P k (r ∷ rs) h = (λ e. h.0, rows_in P (suc k) rs h.1)
