use Rattle.rob_parse.proofs.Names.ExpandedNames.{ref_spelled}
use Rattle.rob_parse.proofs.laws.expanded_names.Goals as goal

pub returns : goal.returns
returns c = record { spelled = ref_spelled }
