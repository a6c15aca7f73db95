use Rattle.rob_round_trip.proofs.WithoutSets.QuietLines.{lines_are_quiet}
use Rattle.rob_round_trip.proofs.WithoutSets.QuietTexts.{quiet_statements}
use Rattle.rob_round_trip.proofs.WithoutSets.SetlessTexts.{lines_are_alone, model_alone, one_set}
use Rattle.rob_round_trip.proofs.laws.without_sets.Goals as goal

pub returns : goal.returns
returns c =
    record {
      statements = quiet_statements;
      model = model_alone;
      plain = one_set;
      lines = lines_are_alone;
      no_over = lines_are_quiet;
    }
