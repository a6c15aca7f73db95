use Rattle.rob_top.proofs.Coming.WorstAnswerLemmas.{proved_keeps}
use Rattle.rob_top.proofs.laws.check_then_worst.Goals as goal

pub returns : goal.returns
returns c = record {
  kept = λ checking searching text shown accepted searched same alike.
      proved_keeps searching shown searched accepted.m accepted.c same alike accepted.proves;
}
