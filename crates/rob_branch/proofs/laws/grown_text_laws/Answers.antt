use Rattle.rob_branch.proofs.GrownTextLemmas as texts
use Rattle.rob_branch.proofs.laws.grown_text_laws.Goals as goal

pub returns : goal.returns
returns c = record { read_again = texts.read_again }
