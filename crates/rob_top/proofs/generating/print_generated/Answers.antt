use Rattle.std.proofs.Common.{ap}
use Rattle.rob_top.proofs.generating.print_generated.Goals as goal
use Rattle.rob_words.specs.Verbs.{own_of}

pub told_number-requires-clause-numbered : goal.told_number-requires-clause-numbered
told_number-requires-clause-numbered g c = ap own_of c.requires.is_text
