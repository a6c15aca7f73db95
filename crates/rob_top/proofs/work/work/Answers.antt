use Rattle.std.proofs.Common.{ap, arith, length, sym}
use Rattle.rob_model.specs.View.{robust}
use Rattle.rob_top.proofs.Meaning.WorkLemmas.{model_answers, unread_answers}
use Rattle.rob_top.proofs.work.work.Goals as goal
use Rattle.rob_words.specs.Answers.{line_of}

pub read_model-requires : goal.read_model-requires
read_model-requires g c = omega (arith, ap length c.as_slice.ensures.value, c.requires.short.model)

pub returns-in-Ok-clause-answers : goal.returns-in-Ok-clause-answers
returns-in-Ok-clause-answers g c =
    model_answers g.N.Exact.limit _ _ _ (line_of c.args.line.now) c.args.texts.now _
    (robust g.N.Exact.value c.in-Ok.model) c.on_model.result c.requires.on_model c.as_slice.ensures.value
    c.in-Ok.ensures.read (sym c.read_model.ensures.counted.wides) c.on_model.ensures.answers

pub returns-in-Err-clause-answers : goal.returns-in-Err-clause-answers
returns-in-Err-clause-answers g c =
    unread_answers g.N.Exact.limit _ (line_of c.args.line.now) c.args.texts.now _ c.in-Err.error c.not_read.result
    c.requires.on_model c.as_slice.ensures.value c.in-Err.ensures.cause c.not_read.ensures.unread
