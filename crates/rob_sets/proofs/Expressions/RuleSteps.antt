-- The table of an adaptive variable in a set, one parameter of its list after another.
use Rattle.std.specs.Prelude.{◌≡◌, ℕ, ◌+◌, ◌*◌, ◌<◌, ◌≤◌, List, map, length, drop, Result, IsErrAnd}
use Rattle.std.proofs.Common.{sym, ◌∙◌, ap, ap₂, arith, subst, get_or, add-one, inl}
use Rattle.rob_algebra.specs.Fraction.{Fraction, ◌+ℚ◌, ◌*ℚ◌}
use Rattle.rob_algebra.specs.Width.{IsWide}
use Rattle.rob_number.specs.Counts.{Rose}
use Rattle.rob_meaning.specs.Coefficients as meaning
use Rattle.rob_meaning.specs.Coefficients.{rule_table, single, table}
use Rattle.rob_meaning.specs.Expressions.{adaptive_in}
use Rattle.rob_meaning.specs.Places.{1ℚ}
use Rattle.rob_meaning.specs.RobustModel.{RobustModel, column_of, joint_number, list_of, written_count}
use Rattle.rob_sets.specs.Stops.{StopsFor}
use Rattle.rob_sets.specs.Subexpressions.{HasWideCoefficient}
use Rattle.rob_sets.specs.Tabulating.{Tabulates}
use Rattle.rob_sets.specs.declared.error.Stop.{Stop}
use Rattle.rob_sets.specs.declared.table.Table.{Table}
use Rattle.rob_sets.proofs.Expressions.JointLemmas.{joint_row, map_same}
use Rattle.rob_sets.proofs.Expressions.RuleLemmas.{rule_at, rule_end, rule_step}
use Rattle.rob_sets.proofs.Judging.StopLemmas.{stop_weaker}
use Rattle.rob_sets.proofs.Expressions.TabulatingLemmas.{tabulates_err}

-- the numbers so far, with those of the parameters that are left, are the adaptive variable's
pub record RuleSoFar (m : RobustModel) (S y : ℕ) (items : List ℕ) (i column : ℕ) (so_far : meaning.Table) : Type 0
  where
    pub rest : (k j : ℕ) → so_far k j +ℚ rule_table (drop i (map (joint_number m S) items)) column k j
        ≡ table m (adaptive_in y S) k j

-- with a 1 in the column of the constant
pub rule_begins : {m : RobustModel} {S y : ℕ} {items : List ℕ} {column : ℕ} (so_far : meaning.Table)
    → items ≡ list_of m y → column ≡ column_of m y + 1 → ((k j : ℕ) → so_far k j ≡ single 0 column k j)
    → RuleSoFar m S y items 0 column so_far
rule_begins {m} {S} {y} so_far list is one = record {
  rest = λ k j. ap₂ ◌+ℚ◌ (one k j ∙ ap (λ n. single 0 n k j) (is ∙ add-one (column_of m y)))
      (ap₂ (λ (ds : List ℕ) n. rule_table (map (joint_number m S) ds) n k j) list (is ∙ add-one (column_of m y)));
}

module _ {m : RobustModel} {S y : ℕ} {items : List ℕ} {i column : ℕ} {so_far : meaning.Table}
    (p : RuleSoFar m S y items i column so_far) where
  -- with a number that is 1, in the row of the next parameter
  module _ {w : ℕ} (count : w ≡ written_count m) (inside : i < length items) {x : Fraction} (one : x ≡ 1ℚ) where
    pub rule_goes_on : (next : meaning.Table)
        → ((k j : ℕ) → next k j ≡ so_far k j +ℚ x *ℚ single (S * w + get_or items i 0 + 1) (column + 1) k j)
        → RuleSoFar m S y items (i + 1) (column + 1) next
    rule_goes_on next h = record {
      rest = λ k j. rule_step (map (joint_number m S) items) i column k j x (so_far k j) (next k j)
          (table m (adaptive_in y S) k j) (omega (arith, inside, map_same m S items)) one (p.rest k j)
          (h k j ∙ ap (λ r. so_far k j +ℚ x *ℚ single r (column + 1) k j) (sym (joint_row m S w items i count inside)));
    }

    -- a sum that is wide is a coefficient
    rule_wide : (limit : ℕ) → IsWide limit (so_far (S * w + get_or items i 0 + 1) (column + 1) +ℚ x)
        → HasWideCoefficient limit m (adaptive_in y S)
    rule_wide limit wide =
        let on = map (joint_number m S) items in
        let row = get_or on i 0 + 1 in (
          row,
          column + 1,
          subst (IsWide limit)
              (ap (λ r. so_far r (column + 1) +ℚ x) (sym (joint_row m S w items i count inside))
              ∙ rule_at on i column x (so_far row (column + 1)) (table m (adaptive_in y S) row (column + 1))
              (omega (arith, inside, map_same m S items)) one (p.rest row (column + 1))) wide,
        )

    pub rule_stops : {N : Type 0} (value : N → Fraction) (limit first before last : ℕ) (r : Result (Table N) Stop)
        (stop : Stop) → first ≤ before → StopsFor (Rose before last
        × IsWide limit (so_far (S * w + get_or items i 0 + 1) (column + 1) +ℚ x)) stop → IsErrAnd r (λ d. d ≡ stop)
        → Tabulates value limit m (adaptive_in y S) first last r
    rule_stops value limit first before last r stop least h is =
        tabulates_err value limit m (adaptive_in y S) first last r stop
        (stop_weaker stop (λ (w : Rose before last
        × IsWide limit (so_far (S * w + get_or items i 0 + 1) (column + 1) +ℚ x)).
        (omega (arith, w.0, least), inl (rule_wide limit w.1))) h) is

  -- no parameter is left
  pub rule_ends : length items ≤ i → (k j : ℕ) → so_far k j ≡ table m (adaptive_in y S) k j
  rule_ends over k j =
      rule_end (map (joint_number m S) items) i column k j (so_far k j) (table m (adaptive_in y S) k j)
      (omega (arith, over, map_same m S items)) (p.rest k j)
