use Rattle.rob_linear.proofs.Bases.Solutions.{tags_in}
use Rattle.rob_linear.proofs.RowForms.Multiples.{multiple_rows_exist, rows_parallel, multiples_basis, multiple_parallel}
use Rattle.rob_linear.proofs.multiple.rows_up_to_factors.Goals as goal

pub returns : goal.returns
returns c = record {
  exist = multiple_rows_exist;
  parallel = rows_parallel;
  exact = multiples_basis;
  kept = λ S own i r s g. multiple_parallel S own i r s (tags_in S g);
}
