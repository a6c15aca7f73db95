use Rattle.rob_linear.proofs.Bases.Unique.{rows_equal, row_unique}
use Rattle.rob_linear.proofs.Bases.Square.{basis_is_back}
use Rattle.rob_linear.proofs.Bases.Solutions.{meets_spanned}
use Rattle.rob_linear.proofs.basis.rows_of_a_basis.Goals as goal

pub returns : goal.returns
returns c = record {
  one = rows_equal;
  multiple = row_unique;
  solutions = λ S own rows s z b sol i il. meets_spanned S (rows i) s z (b.rows_of i il).spanned sol;
  no_others = basis_is_back;
}
