use Rattle.rob_check.proofs.CoverLaws.{covering_judged}
use Rattle.rob_check.proofs.JudgeLemmas.{inside_judged, items_judged}
use Rattle.rob_check.proofs.NarrowLemmas.{narrow_decided}
use Rattle.rob_check.proofs.ProofLaws.{proves_judged}
use Rattle.rob_check.proofs.SumLaws.{optimal_sums, infeasible_sums}
use Rattle.rob_check.proofs.laws.check_laws.Goals as goal

pub returns : goal.returns
returns c = record {
  inside = λ limit m u model. inside_judged limit m model u;
  items = items_judged;
  optimal = optimal_sums;
  infeasible = infeasible_sums;
  covered = covering_judged;
  proves = λ limit m cert model shape. proves_judged limit m model cert shape;
  none_wide = λ limit m cert model shape narrow. narrow_decided limit m model cert shape narrow;
}
