use Rattle.rob_words.proofs.Spellings.{line-bytes, one_line}
use Rattle.rob_words.proofs.laws.command_lines.Goals as goal

pub returns : goal.returns
returns c = record { one = one_line; bytes = line-bytes }
