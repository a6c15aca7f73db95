use Rattle.std.proofs.Common.{ap}
use Rattle.rob_counterpart.specs.Reform.{reform}
use Rattle.rob_dualize.proofs.Soundness.{wholes_are}
use Rattle.rob_dualize.proofs.laws.counterpart_laws.Goals as goal

pub returns : goal.returns
returns c = record { told = λ m forms set f st. ap reform (wholes_are m forms set f st) }
