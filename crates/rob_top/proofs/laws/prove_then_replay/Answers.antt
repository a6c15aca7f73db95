use Rattle.rob_top.proofs.Relations.ProvedReplays.{refused_says, shows_value}
use Rattle.rob_top.proofs.laws.prove_then_replay.Goals as goal

pub returns : goal.returns
returns c = record {
  shown = λ proving replaying status text shown solved is_prove known line width file replayed.
      shows_value proving replaying status text solved is_prove known line width file shown replayed;
  refused = λ proving replaying status text shown solved is_prove known line width file rule number means.
      refused_says proving replaying status text solved is_prove known line width file rule number shown means;
}
