use Rattle.rob_bounds.proofs.Powers.{bound_found, bound_over}
use Rattle.rob_bounds.proofs.narrow.bounds_within_a_limit.Goals as goal

pub returns : goal.returns
returns c = record {
  found = bound_found;
  over = bound_over;
}
