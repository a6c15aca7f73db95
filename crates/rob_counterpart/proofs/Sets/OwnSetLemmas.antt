-- The Farkas weights of the set's program belong to rows of one set: its rows
-- and columns fall into blocks, one for each set.
use Rattle.std.proofs.Common.{◌≡◌, ◌≢◌, ℕ, zero, suc, ◌/◌, ◌%◌, ◌≤◌, length, refl, ap, ◌∙◌, arith, inl, inr, cond}
use Rattle.std.proofs.Math.Nat.{div-lt_iff_lt-mul}
use Rattle.std.proofs.lemmas.Bool.{cases_lt}
use Rattle.std.specs.Prelude.{Bool, true, false, nat_eq}
use lib.IntN.{pos, neg_ℤ}
use Rattle.rob_algebra.specs.Fraction.{Fraction, of_int}
use Rattle.rob_linear.specs.Vectors.{Matrix, Columns}
use Rattle.rob_linear.specs.Programs.{FallsIntoBlocks, LieInOneBlock}
use Rattle.rob_linear.proofs.Meaning.Blocks.{one_block}
use Rattle.rob_meaning.specs.Multipliers.{ShowsEmptyIn}
use Rattle.rob_meaning.specs.Places.{0ℚ, at, tabulate}
use Rattle.rob_meaning.specs.RobustModel.{RobustModel}
use Rattle.rob_meaning.specs.SetRows.{set_rows, set_column_count, set_of_set_row, set_of_set_column}
use Rattle.rob_meaning.specs.WellFormed.{IsModel}
use Rattle.rob_meaning.proofs.Lists.ListLemmas.{at-tabulate}
use Rattle.rob_meaning.proofs.Conditions.OwnRowLemmas.{own_number, sets_in}
use Rattle.rob_counterpart.specs.Counterpart.{set_program}
use Rattle.rob_counterpart.specs.Endings.{slack_entries, InfeasibleEnding}
use Rattle.rob_counterpart.specs.ReadCertificates.{weight_of, weights_read}
use Rattle.rob_counterpart.specs.Splitting.{signed_entry}
use Rattle.rob_counterpart.proofs.Sets.ScenarioLemmas.{set_weights}

pub signed_zero : (k : ℕ) → signed_entry k (pos 0) ≡ pos 0
signed_zero k = same (nat_eq (k % 2) 0)
  where
    same : (b : Bool) → cond b (pos 0) (neg_ℤ (pos 0)) ≡ pos 0
    same true = refl
    same false = refl

at-past : (n : ℕ) (f : ℕ → Fraction) (i : ℕ) → n ≤ i → at (tabulate n f) i ≡ 0ℚ
at-past zero f i h = refl
at-past (suc n) f zero h = absurd (omega arith)
at-past (suc n) f (suc i) h = at-past n (λ k. f (suc k)) i (omega arith)

module _ (m : RobustModel) (model : IsModel m) where
  -- a set column and its opposite stand in the block of its set
  set_blocks : FallsIntoBlocks (set_program m) (set_of_set_row m) (λ k. set_of_set_column m (k / 2))
  set_blocks i k il kl other =
      ap (signed_entry k)
      (own_number m model i (k / 2) il
      ((div-lt_iff_lt-mul {k = 2} {x = k} {y = set_column_count m} (omega arith)).1 (omega arith)) other)
      ∙ signed_zero k

  module _ (own : Columns) (rows : Matrix) (en : InfeasibleEnding (set_program m) own rows)
      (block : LieInOneBlock (set_program m) (set_of_set_row m) (slack_entries (set_program m) rows)) where
    in_block : (i : ℕ) → at (weights_read m rows) i ≢ 0ℚ → set_of_set_row m i ≡ set_of_set_row m block.0
    in_block i some = elim (cases_lt i (length (set_rows m))) [
      | inl il ↦
          block.3 i il
          (λ e. some (at-tabulate (length (set_rows m)) (weight_of (set_program m) rows) i il ∙ ap of_int e))
      | inr past ↦ absurd (some (at-past (length (set_rows m)) (weight_of (set_program m) rows) i (omega arith)))
    ]

    shows_in : ShowsEmptyIn m (set_of_set_row m block.0) (weights_read m rows)
    shows_in = record { is_set = sets_in m model block.0 block.1; shows = set_weights m own rows en; own = in_block }

  pub weights_in : (own : Columns) (rows : Matrix) → InfeasibleEnding (set_program m) own rows →
      (S : ℕ) × ShowsEmptyIn m S (weights_read m rows)
  weights_in own rows en =
      let block : LieInOneBlock (set_program m) (set_of_set_row m) (slack_entries (set_program m) rows) =
      one_block (set_program m) own rows (set_of_set_row m) (λ k. set_of_set_column m (k / 2)) en.basis en.ends
      set_blocks in
      (set_of_set_row m block.0, shows_in own rows en block)
