use Rattle.rob_lex.proofs.OneReading.{some_reading, one_list, one_rule, not_both}
use Rattle.rob_lex.proofs.laws.one_reading.Goals as goal

pub returns : goal.returns
returns c = record { some = some_reading; list = one_list; rule = one_rule; not_both = not_both }
