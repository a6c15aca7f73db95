use Rattle.std.proofs.Common.{ap}
use Rattle.rob_top.proofs.Meaning.ComparedLemmas.{compared_answers}
use Rattle.rob_top.proofs.Meaning.GeneratedLemmas.{generated_answers}
use Rattle.rob_top.proofs.generating.on_number.Goals as goal
use Rattle.rob_words.specs.Answers.{line_of}
use Rattle.rob_words.specs.Verbs.{own_of}

pub returns-in-Text-clause-answers : goal.returns-in-Text-clause-answers
returns-in-Text-clause-answers g c =
    generated_answers (line_of c.args.line.now) _ c.print_generated.result c.in-Text.is
    c.print_generated.ensures.generated

pub told_number-requires-clause-numbered : goal.told_number-requires-clause-numbered
told_number-requires-clause-numbered g c = ap own_of c.in-Gen.is

pub returns-in-Gen-clause-answers : goal.returns-in-Gen-clause-answers
returns-in-Gen-clause-answers g c =
    compared_answers (line_of c.args.line.now) c.told_number.result c.in-Gen.is c.told_number.ensures.number _
    c.compare_routes.result c.compare_routes.ensures.compared
