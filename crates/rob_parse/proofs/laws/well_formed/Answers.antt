use Rattle.rob_parse.proofs.Building.PlacedLemmas.{well_formed}
use Rattle.rob_parse.proofs.laws.well_formed.Goals as goal

pub returns : goal.returns
returns c = record { model = λ limit text m low read. well_formed limit text m read low }
