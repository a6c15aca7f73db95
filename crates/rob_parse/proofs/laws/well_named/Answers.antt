use Rattle.rob_parse.proofs.Names.WellNamed.{well_named, well_spelled}
use Rattle.rob_parse.proofs.laws.well_named.Goals as goal

pub returns : goal.returns
returns c = record { names = well_named; spelled = well_spelled }
