-- The sums that make a search's costs and a cut's numbers are the numbers of the programs.
use Rattle.std.proofs.Common.{◌≡◌, ℕ, suc, ◌+◌, ◌<◌, List, length, sym, ap, ◌∙◌, arith, inl, inr}
use Rattle.std.proofs.lemmas.Int.{ints}
use lib.IntN.{pos, ◌+ℤ◌, ◌*ℤ◌}
use lib.Signed.{◌≤ℤ◌}
use Rattle.rob_algebra.specs.Fraction.{Fraction, of_int}
use Rattle.rob_algebra.specs.Integer.{*ℤ_comm, mul-zero}
use Rattle.rob_linear.specs.Vectors.{sum_to, at}
use Rattle.rob_linear.proofs.LinearPrograms.Sums.{sum_ext, sum_zero, sum_split}
use Rattle.rob_meaning.specs.Clearing.{denominator}
use Rattle.rob_meaning.specs.Forms.{matrices, form_rows, form_columns, constant_part, parameter_part}
use Rattle.rob_meaning.specs.Places.{tabulate}
use Rattle.rob_meaning.specs.RobustModel.{RobustModel}
use Rattle.rob_meaning.specs.SetRows.{set_column_count, lift_count}
use Rattle.rob_meaning.specs.Vectors.{scale}
use Rattle.rob_counterpart.specs.Counterpart.{robust_of}
use Rattle.rob_counterpart.specs.Master.{cut_entry}
use Rattle.rob_counterpart.specs.RobustProgram.{entry, number_at, item_entry}
use Rattle.rob_counterpart.specs.WorstCases.{whole_plan}
use Rattle.rob_counterpart.proofs.Pairs.Blocks.{sum_first}
use Rattle.rob_counterpart.proofs.Sets.ModelLemmas.{entry_inside, entry_outside, constant-over, parameters-over}
use Rattle.rob_counterpart.proofs.Pairs.QuotientLemmas.{over, over-one}
use Rattle.rob_counterpart.proofs.Pairs.TabulateLemmas.{tabulate-same}
use Rattle.rob_counterpart.proofs.Proving.WholeCertificates.{constant_at}
use Rattle.rob_runs.specs.Cuts.{Cut, wholes, cuts_of, cut_of_number}
use Rattle.rob_runs.specs.Readings.{cleared_by}
use Rattle.rob_runs.specs.Searches.{IsBasicCut}
use Rattle.rob_runs.specs.Spots.{cost_term, cut_term}
use Rattle.rob_runs.proofs.Clearing.WholeLemmas.{whole_plan-scale}

module _ (m : RobustModel) where
  -- ---- costs
  pub cost_is_number : (i c : ℕ) (z : List Fraction) → c < length m.parameters
      → sum_to (form_columns m) (cost_term m i (suc c) z) ≡ number_at (robust_of m) i c (at (wholes z))
  cost_is_number i c z l =
      sum_ext (form_columns m) (cost_term m i (suc c) z) (λ j. entry (robust_of m) i c j *ℤ at (wholes z) j)
      (λ j jl. ap (λ v. v *ℤ at (wholes z) j) (sym (entry_inside (robust_of m) i c j l)))

  plan-over : (z : List Fraction) → whole_plan m (at (wholes z))
      ≡ tabulate (form_columns m) (λ j. over (at (wholes z) j) (pos 1))
  plan-over z =
      tabulate-same (form_columns m) (λ j. of_int (at (wholes z) j)) (λ j. over (at (wholes z) j) (pos 1))
      (λ j l. sym (over-one (at (wholes z) j)))

  module _ (i : ℕ) (some : i < length (matrices m)) (z : List Fraction) (size : length z ≡ form_columns m) where
    pub constant_is_sum : constant_part m i (scale (cleared_by z) z)
        ≡ of_int (sum_to (form_columns m) (cost_term m i 0 z))
    constant_is_sum =
        ap (constant_part m i) (sym (whole_plan-scale m z size) ∙ plan-over z)
        ∙ constant-over m i some (at (wholes z)) (pos 1) ∙ over-one (constant_at (robust_of m) i (at (wholes z)))

    pub parameters_are_sums : parameter_part m i (scale (cleared_by z) z)
        ≡ tabulate (length m.parameters) (λ c. of_int (sum_to (form_columns m) (cost_term m i (suc c) z)))
    parameters_are_sums =
        ap (parameter_part m i) (sym (whole_plan-scale m z size) ∙ plan-over z)
        ∙ parameters-over m i some (at (wholes z)) (pos 1)
        ∙ tabulate-same (length m.parameters) (λ c. over (number_at (robust_of m) i c (at (wholes z))) (pos 1))
        (λ c. of_int (sum_to (form_columns m) (cost_term m i (suc c) z)))
        (λ c l. over-one (number_at (robust_of m) i c (at (wholes z))) ∙ ap of_int (sym (cost_is_number i c z l)))

  -- ---- cuts
  pub cut_is_entry : (c : Cut) (j : ℕ)
      → sum_to (form_rows m) (cut_term m c j) ≡ item_entry (robust_of m) c.form c.base (at c.vector) j
  cut_is_entry c j =
      let first : sum_to (form_rows m) (cut_term m c j)
      ≡ ((robust_of m).form c.form 0 j *ℤ c.base)
      +ℤ sum_to (length m.parameters) (λ k. (robust_of m).form c.form (suc k) j *ℤ at c.vector k) =
      sum_first (length m.parameters) (cut_term m c j) in
      let inner : sum_to (length m.parameters) (λ k. (robust_of m).form c.form (suc k) j *ℤ at c.vector k)
      ≡ sum_to (length m.parameters) (λ k. at c.vector k *ℤ entry (robust_of m) c.form k j) =
      sum_ext (length m.parameters) (λ k. (robust_of m).form c.form (suc k) j *ℤ at c.vector k)
      (λ k. at c.vector k *ℤ entry (robust_of m) c.form k j)
      (λ k l. *ℤ_comm ((robust_of m).form c.form (suc k) j) (at c.vector k)
      ∙ ap (λ v. at c.vector k *ℤ v) (sym (entry_inside (robust_of m) c.form k j l))) in
      let outer : sum_to (lift_count m.set_lines)
      (λ k. at c.vector (length m.parameters + k) *ℤ entry (robust_of m) c.form (length m.parameters + k) j)
      ≡ pos 0 =
      sum_zero (lift_count m.set_lines)
      (λ k. at c.vector (length m.parameters + k) *ℤ entry (robust_of m) c.form (length m.parameters + k) j)
      (λ k l. ap (λ v. at c.vector (length m.parameters + k) *ℤ v)
      (entry_outside (robust_of m) c.form (length m.parameters + k) j (omega arith))
      ∙ mul-zero (at c.vector (length m.parameters + k))) in
      let whole : sum_to (set_column_count m) (λ k. at c.vector k *ℤ entry (robust_of m) c.form k j)
      ≡ sum_to (length m.parameters) (λ k. at c.vector k *ℤ entry (robust_of m) c.form k j)
      +ℤ sum_to (lift_count m.set_lines)
      (λ k. at c.vector (length m.parameters + k) *ℤ entry (robust_of m) c.form (length m.parameters + k) j) =
      sum_split (length m.parameters) (lift_count m.set_lines) (λ k. at c.vector k *ℤ entry (robust_of m) c.form k j) in
      let swap : (robust_of m).form c.form 0 j *ℤ c.base ≡ c.base *ℤ (robust_of m).form c.form 0 j =
      *ℤ_comm ((robust_of m).form c.form 0 j) c.base in
      omega (arith, ints)

  pub cut_is_master_entry : (cuts : List Cut) (q j : ℕ)
      → sum_to (form_rows m) (cut_term m (cut_of_number cuts q) j) ≡ cut_entry (robust_of m) (cuts_of cuts) q j
  cut_is_master_entry cuts q j = cut_is_entry (cut_of_number cuts q) j

  -- a basic cut's base is not negative
  pub base_nonnegative : (z : List Fraction) (c : Cut) → IsBasicCut m z c → pos 0 ≤ℤ c.base
  base_nonnegative z c (inl b) = let e : c.base ≡ pos (denominator b.scenario) = b.base_is in omega (arith, ints)
  base_nonnegative z c (inr b) = let e : c.base ≡ pos 0 = b.base_is in omega (arith, ints)
