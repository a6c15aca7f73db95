use Rattle.rob_linear.proofs.Bases.Pivots.{pivot_is_basis}
use Rattle.rob_linear.proofs.Bases.Primitive.{pivot_exists}
use Rattle.rob_linear.proofs.Bases.Solutions.{tags_in}
use Rattle.rob_linear.proofs.pivot.pivots.Goals as goal

pub returns : goal.returns
returns c = record {
  rows = λ S own own' rows rows' e col g. pivot_is_basis S own own' rows rows' e col (tags_in S g);
  exists = pivot_exists;
}
