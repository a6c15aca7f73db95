use Rattle.rob_pieces.proofs.PieceLemmas.{bound_piece, infeasible_agree, never_worse, optimal_agree, piece_bound, plan_is_piece, unbounded_agree}
use Rattle.rob_pieces.proofs.policies.piece_laws.Goals as goal

pub returns : goal.returns
returns c = record {
  plan = λ m cuts piece tau model alone are h. piece_bound m model alone cuts are piece tau h;
  piece = λ m cuts all tau model alone are h. bound_piece m model alone cuts are all tau h;
  optimal = λ m cuts v model alone are. optimal_agree m model alone cuts are v;
  infeasible = λ m cuts model alone are. infeasible_agree m model alone cuts are;
  unbounded = λ m cuts model alone are. unbounded_agree m model alone cuts are;
  whole = plan_is_piece;
  never_worse = never_worse;
}
