use Rattle.rob_linear.proofs.BasisPaths.Paths.{path_stands, path_rises, no_return, turns_bounded, path_unique, end_unique}
use Rattle.rob_linear.proofs.BasisPaths.Starts.{system_tagged}
use Rattle.rob_linear.specs.Programs.{system_of}
use Rattle.rob_linear.proofs.path.path_from_a_basis.Goals as goal

pub returns : goal.returns
returns c = record {
  stands = path_stands;
  rises = path_rises;
  no_return = no_return;
  bounded = turns_bounded;
  one = path_unique;
  last = λ P start basis basis' l k.
      end_unique (system_of P) start l.reached.turns k.reached.turns basis basis' (system_tagged P) l.reached.turned
      l.ends k.reached.turned k.ends;
}
