use Rattle.rob_pieces.proofs.PieceLemmas.{one_piece_value, piece_not_both, piece_not_infeasible, piece_not_unbounded}
use Rattle.rob_pieces.proofs.policies.piece_status_laws.Goals as goal

pub returns : goal.returns
returns c = record {
  one_value = one_piece_value;
  not_infeasible = piece_not_infeasible;
  not_unbounded = piece_not_unbounded;
  not_both = piece_not_both;
}
