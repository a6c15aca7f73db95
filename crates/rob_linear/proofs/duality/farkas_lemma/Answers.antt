use Rattle.rob_linear.proofs.Meaning.Fundamental.{farkas_lemma}
use Rattle.rob_linear.proofs.duality.farkas_lemma.Goals as goal

pub returns : goal.returns
returns c = record { weights = farkas_lemma }
