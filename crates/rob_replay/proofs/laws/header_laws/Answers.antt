use Rattle.rob_replay.proofs.HeaderLaws.{header_is}
use Rattle.rob_replay.proofs.laws.header_laws.Goals as goal

pub returns : goal.returns
returns c = record { header = header_is }
