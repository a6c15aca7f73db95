use Rattle.rob_index.proofs.LinesRead.PlainFaults.{is_statement, plain_faultless}
use Rattle.rob_index.proofs.judging.plain_line.Goals as goal

pub returns : goal.returns
returns c = record { faultless = plain_faultless; statement = is_statement }
