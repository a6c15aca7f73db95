use Rattle.rob_top.proofs.Relations.PieceLawLemmas.{infeasible_too, no_worse, one_emptiness, unbounded_too}
use Rattle.rob_top.proofs.laws.cells_laws.Goals as goal

pub returns : goal.returns
returns c = record {
  no_worse = no_worse;
  infeasible_too = infeasible_too;
  unbounded_too = unbounded_too;
  one_emptiness = one_emptiness;
}
