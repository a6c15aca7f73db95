use Rattle.rob_gen.proofs.GeneratedLemmas.{admitted}
use Rattle.rob_top.proofs.Relations.GeneratedWholes.{generated_written}
use Rattle.rob_top.proofs.Relations.OneSummary.{one_summary}
use Rattle.rob_top.proofs.ByHand.WorkedCompared.{first_is_printed, number_is_compared}
use Rattle.rob_top.proofs.laws.compared_models.Goals as goal

pub returns : goal.returns
returns c = record {
  admitted = admitted;
  written = λ n limit enough. generated_written limit enough n;
  answered = number_is_compared;
  one_summary = one_summary;
  first = first_is_printed;
}
