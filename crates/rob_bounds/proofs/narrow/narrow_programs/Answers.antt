use Rattle.rob_bounds.proofs.NarrowPaths.{narrow_path, narrow_path_from}
use Rattle.rob_bounds.proofs.narrow.narrow_programs.Goals as goal

pub returns : goal.returns
returns c = record {
  path = narrow_path;
  path_from = narrow_path_from;
}
