use Rattle.rob_linear.proofs.RowForms.Multiples.{combined_clears, factors_clear, zero_clears, divided_parallel}
use Rattle.rob_linear.proofs.multiple.ways_to_make_rows.Goals as goal

pub returns : goal.returns
returns c = record {
  combined = combined_clears;
  factors = factors_clear;
  stays = zero_clears;
  divided = divided_parallel;
}
