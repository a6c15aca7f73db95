use Rattle.rob_rules.proofs.Joining.OneText.{some_text, one_text, one_break, never}
use Rattle.rob_rules.proofs.laws.one_text.Goals as goal

pub returns : goal.returns
returns c = record { some = some_text; statements = one_text; rule = one_break; not_both = never }
