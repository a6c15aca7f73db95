use Rattle.rob_narrow.proofs.Numbers.{narrow_of, narrow_path_of}
use Rattle.rob_narrow.proofs.laws.narrow_law.Goals as goal

pub returns : goal.returns
returns c = record {
  narrow = narrow_of;
  path = narrow_path_of;
}
