use Rattle.rob_replay.proofs.OneFileLemmas.{one_file, some_file}
use Rattle.rob_replay.proofs.laws.file_laws.Goals as goal

pub returns : goal.returns
returns c = record { some = some_file; one = one_file }
