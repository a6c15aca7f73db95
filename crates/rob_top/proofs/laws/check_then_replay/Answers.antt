use Rattle.rob_top.proofs.Coming.ReplayAnswerLemmas.{proved_shows}
use Rattle.rob_top.proofs.laws.check_then_replay.Goals as goal

pub returns : goal.returns
returns c = record {
  shown = λ checking replaying text shown accepted replayed same alike.
      proved_shows replaying shown replayed accepted.m accepted.c same alike accepted.proves;
}
