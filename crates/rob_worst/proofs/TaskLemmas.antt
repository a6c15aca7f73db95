-- What a search is set is that of its form and vector.
use Rattle.std.proofs.Common.{◌≡◌, ℕ, ◌+◌, ◌-◌, ◌^◌, ◌<◌, ◌≤◌, List, map, length, sym, ap, ◌∙◌, arith, to_z, w64}
use lib.IntN.{ℤ, pos, nat_abs, neg_ℤ}
use Rattle.rob_algebra.specs.Fraction.{Fraction}
use Rattle.rob_linear.specs.Vectors.{Vector, sum_to, at}
use Rattle.rob_linear.specs.Programs.{with_cost}
use Rattle.rob_meaning.specs.Clearing.{denominator, whole_at}
use Rattle.rob_meaning.specs.Forms.{form_columns}
use Rattle.rob_meaning.specs.Places.{Each, tabulate}
use Rattle.rob_meaning.specs.RobustModel.{RobustModel}
use Rattle.rob_meaning.specs.SetRows.{set_column_count}
use Rattle.rob_meaning.proofs.Lists.EachLemmas.{each_at}
use Rattle.rob_number.proofs.CastLemmas.{natural_seen}
use Rattle.rob_counterpart.specs.Counterpart.{robust_of, set_program}
use Rattle.rob_counterpart.specs.RobustProgram.{number_at}
use Rattle.rob_counterpart.specs.SetPrograms.{HasCost}
use Rattle.rob_counterpart.specs.Splitting.{plus, minus}
use Rattle.rob_counterpart.proofs.Pairs.TabulateLemmas.{length-tabulate}
use Rattle.rob_dualize.proofs.TabulateLemmas.{item-tabulate}
use Rattle.rob_elab.specs.Forms.{IsForms}
use Rattle.rob_elab.specs.declared.forms.Forms.{Forms}
use Rattle.rob_runs.specs.Cuts.{wholes}
use Rattle.rob_runs.specs.Spots.{cost_term}
use Rattle.rob_dualize.specs.SetProgram.{in_pairs}
use Rattle.rob_dualize.proofs.SetProgramLemmas.{at-plus, at-minus, length-in_pairs}
use Rattle.rob_worst.specs.Costs.{part_at, column_part}
use Rattle.rob_worst.specs.Tasks.{FitsSet}
use Rattle.rob_worst.specs.declared.task.Task.{Task}
use Rattle.rob_worst.proofs.CostLemmas.{part_same, column_same}

-- ---- a task fits the set
pub fits_set : (limit columns : ℕ) (forms : Forms) (whole : List ℤ) (task : Task) → task.params ≤ columns
    → task.cost ≡ in_pairs (tabulate columns (column_part forms task.form whole))
    → Each (λ a. nat_abs a ≤ limit) task.cost → nat_abs task.common ≤ limit → nat_abs task.constant ≤ limit
    → FitsSet limit columns task
fits_set limit columns forms whole task p e w c d = record {
  parameters = p;
  numbers = tabulate columns (column_part forms task.form whole);
  count = length-tabulate columns (column_part forms task.form whole);
  costs = e;
  within = each_at (λ a. nat_abs a ≤ limit) task.cost w;
  common_within = c;
  constant_within = d;
}

module _ (limit columns : ℕ) (task : Task) (h : FitsSet limit columns task) where
  pub costs_count : length task.cost ≡ columns + columns
  costs_count = ap length h.costs ∙ length-in_pairs h.numbers ∙ ap (λ n. n + n) h.count

  -- the second cost of a pair is the first one's negation
  pub costs_opposite : (c : ℕ) → at task.cost (minus c) ≡ neg_ℤ (at task.cost (plus c))
  costs_opposite c =
      ap (λ (xs : List ℤ). at xs (minus c)) h.costs ∙ at-minus h.numbers c
      ∙ ap neg_ℤ (sym (ap (λ (xs : List ℤ). at xs (plus c)) h.costs ∙ at-plus h.numbers c))

-- ---- of a model
pub common_seen : (limit n : ℕ) → limit ≤ 2 ^ 62 - 1 → n ≤ limit → to_z w64 n ≡ pos n
common_seen limit n high l = natural_seen n (omega arith)

-- what is cleared by the least common denominator
pub wholes_are : {d : ℕ} {whole cleared : List ℤ} (z : List Fraction) → whole ≡ cleared → cleared ≡ map (whole_at d) z
    → d ≡ denominator z → whole ≡ wholes z
wholes_are z same is least = same ∙ is ∙ ap (λ d. map (whole_at d) z) least

module _ (m : RobustModel) (forms : Forms) (f : IsForms m forms) (i : ℕ) (z : List Fraction) (whole : List ℤ)
    (is : whole ≡ wholes z) where
  pub constant_told : (v : ℤ) → v ≡ part_at forms i 0 whole → v ≡ sum_to (form_columns m) (cost_term m i 0 z)
  constant_told v e = e ∙ ap (part_at forms i 0) is ∙ part_same m forms f i z 0

  module _ (columns : ℕ) (wide : columns ≡ set_column_count m) (cost : List ℤ)
      (e : cost ≡ in_pairs (tabulate columns (column_part forms i whole))) where
    abbrev numbers : Vector
    numbers = λ c. number_at (robust_of m) i c (at (wholes z))

    number_told : (c : ℕ) → c < set_column_count m → at (tabulate columns (column_part forms i whole)) c ≡ numbers c
    number_told c l =
        item-tabulate columns (column_part forms i whole) c (pos 0) (omega arith)
        ∙ ap (λ (xs : List ℤ). column_part forms i xs c) is
        ∙ column_same m forms f i z c

    pub costs_told : HasCost (robust_of m) numbers (with_cost (set_program m) (at cost))
    costs_told = record {
      cost_plus = λ c l. ap (λ (xs : List ℤ). at xs (plus c)) e
          ∙ at-plus (tabulate columns (column_part forms i whole)) c ∙ number_told c l;
      cost_minus = λ c l. ap (λ (xs : List ℤ). at xs (minus c)) e
          ∙ at-minus (tabulate columns (column_part forms i whole)) c ∙ ap neg_ℤ (number_told c l);
    }
