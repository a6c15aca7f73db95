-- The table of an adaptive variable, column by column.
use Rattle.std.specs.Prelude.{◌≡◌, ℕ, zero, suc, ◌+◌, ◌<◌, ◌≤◌, List, [], ◌∷◌, length, drop, refl}
use Rattle.std.proofs.Common.{sym, ◌∙◌, ap, ap₂, arith, get_or, add-one}
use Rattle.std.proofs.Math.Seq.{drop-cons}
use Rattle.rob_algebra.specs.Fraction.{Fraction, ◌+ℚ◌, ◌*ℚ◌}
use Rattle.rob_algebra.specs.FractionLaws as Q
use Rattle.rob_meaning.specs.Coefficients.{unit, single, rule_table}
use Rattle.rob_meaning.specs.Places.{0ℚ, 1ℚ}
use Rattle.rob_meaning.specs.RobustModel.{column_count, column_of, list_of}
use Rattle.rob_model.specs.Limits.{most_columns}
use Rattle.rob_model.proofs.ColumnLemmas.{list_at, rule_fits}
use Rattle.std.proofs.lemmas.Grind.{common_steps}
use Rattle.rob_model.specs.View.{robust}
use Rattle.rob_model.specs.declared.model.Adaptive.{Adaptive}
use Rattle.rob_model.specs.declared.model.Model.{Model}
use Rattle.rob_sets.proofs.Cells.CellLemmas.{unit-other, single-same}
use Rattle.rob_model.proofs.ValueLemmas.{add-zero_ℚ}
use Rattle.rob_meaning.proofs.Tables.TableLemmas.{times_zero}

-- a rule has no number in an earlier column
rule_later : (ds : List ℕ) (column k j : ℕ) → j ≤ column → rule_table ds column k j ≡ 0ℚ
rule_later [] column k j h = refl
rule_later (d ∷ ds) column k j h =
    ap₂ ◌+ℚ◌ (ap (λ u. unit (suc d) k *ℚ u) (unit-other (suc column) j (λ e. absurd (omega arith)))
    ∙ times_zero (unit (suc d) k))
    (rule_later ds (suc column) k j (omega arith))
    ∙ add-zero_ℚ 0ℚ

-- the table of the parameters that are left
left_table : (on : List ℕ) (i column k j : ℕ) → i < length on
    → rule_table (drop i on) column k j ≡ single (get_or on i 0 + 1) (column + 1) k j
    +ℚ rule_table (drop (i + 1) on) (column + 1) k j
left_table on i column k j h =
    ap (λ (ds : List ℕ). rule_table ds column k j) (drop-cons on i 0 h)
    ∙ ap₂ (λ r c. single r c k j +ℚ rule_table (drop (suc i) on) c k j)
    (sym (add-one (get_or on i 0))) (sym (add-one column))
    ∙ ap (λ n. single (get_or on i 0 + 1) (column + 1) k j +ℚ rule_table (drop n on) (column + 1) k j) (sym (add-one i))

pub rule_step : (on : List ℕ) (i column k j : ℕ) (one old new total : Fraction) → i < length on → one ≡ 1ℚ
    → old +ℚ rule_table (drop i on) column k j ≡ total → new ≡ old +ℚ one *ℚ single (get_or on i 0 + 1) (column + 1) k j
    → new +ℚ rule_table (drop (i + 1) on) (column + 1) k j ≡ total
rule_step on i column k j one old new total h is so_far e =
    ap (λ u. u +ℚ rule_table (drop (i + 1) on) (column + 1) k j)
    (e ∙ ap (λ u. old +ℚ u) (ap (λ u. u *ℚ single (get_or on i 0 + 1) (column + 1) k j) is
    ∙ Q.ℚ-one-mul (single (get_or on i 0 + 1) (column + 1) k j)))
    ∙ Q.ℚ-add_assoc old (single (get_or on i 0 + 1) (column + 1) k j) (rule_table (drop (i + 1) on) (column + 1) k j)
    ∙ ap (λ u. old +ℚ u) (sym (left_table on i column k j h))
    ∙ so_far

pub rule_at : (on : List ℕ) (i column : ℕ) (one old total : Fraction) → i < length on → one ≡ 1ℚ
    → old +ℚ rule_table (drop i on) column (get_or on i 0 + 1) (column + 1) ≡ total → old +ℚ one ≡ total
rule_at on i column one old total h is so_far =
    ap (λ u. old +ℚ u)
    (is ∙ sym (left_table on i column (get_or on i 0 + 1) (column + 1) h
    ∙ ap₂ ◌+ℚ◌ (single-same (get_or on i 0 + 1) (column + 1))
    (rule_later (drop (i + 1) on) (column + 1) (get_or on i 0 + 1) (column + 1) (omega arith))
    ∙ add-zero_ℚ 1ℚ))
    ∙ so_far

pub rule_end : (on : List ℕ) (i column k j : ℕ) (old total : Fraction) → length on ≤ i
    → old +ℚ rule_table (drop i on) column k j ≡ total → old ≡ total
rule_end on i column k j old total h so_far =
    sym (ap (λ (ds : List ℕ). old +ℚ rule_table ds column k j) (past on i h) ∙ add-zero_ℚ old) ∙ so_far
  where
    past : (xs : List ℕ) (i : ℕ) → length xs ≤ i → drop i xs ≡ []
    past xs i h = grind (arith, common_steps)

-- ---- the list of an adaptive variable
module _ {N : Type 0} (value : N → Fraction) where
  pub list_is : (m : Model N) (k : ℕ) (y : Adaptive N) (ys : List (Adaptive N)) (on : List ℕ) → ys ≡ m.adaptives
      → k < length m.adaptives
      → y ≡ get_or ys k y → on ≡ y.on → on ≡ list_of (robust value m) k
  list_is m k y ys on same h is on_is =
      on_is ∙ sym (list_at value m.adaptives k y h (is ∙ ap (λ (zs : List (Adaptive N)). get_or zs k y) same))

  -- its columns are among the first 600, and so is the variable's
  pub rule_few : (m : Model N) (k : ℕ) → k < length m.adaptives → column_count (robust value m) ≤ most_columns
      → column_of (robust value m) k + 1 + length (list_of (robust value m) k) ≤ most_columns
  rule_few m k h few = by (get_back m.adaptives k h)
    where
      get_back : (ys : List (Adaptive N)) (k : ℕ) → k < length ys → (y : Adaptive N) × (y ≡ get_or ys k y)
      get_back [] k h = absurd (omega arith)
      get_back (y ∷ ys) zero h = (y, refl)
      get_back (y ∷ ys) (suc k) h = get_back ys k (omega arith)

      by : ((y : Adaptive N) × (y ≡ get_or m.adaptives k y))
          → column_of (robust value m) k + 1 + length (list_of (robust value m) k) ≤ most_columns
      by p = omega (
        arith,
        rule_fits value m k p.0 p.0.on (column_of (robust value m) k) h p.1 refl refl few,
        ap length (list_at value m.adaptives k p.0 h p.1),
      )
