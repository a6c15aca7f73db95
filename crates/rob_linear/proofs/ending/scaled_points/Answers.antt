use Rattle.rob_linear.proofs.LinearPrograms.Scaling.{cleared, feasible_scaled, scaled_feasible}
use Rattle.rob_linear.proofs.ending.scaled_points.Goals as goal

pub returns : goal.returns
returns c = record {
  cleared = cleared;
  admitted = feasible_scaled;
  feasible = scaled_feasible;
}
