use Rattle.rob_model.specs.View.{robust}
use Rattle.rob_top.proofs.Meaning.WorkLemmas.{refused_answers, refused_of, whole_answers}
use Rattle.rob_top.proofs.work.elaborated.Goals as goal
use Rattle.rob_words.specs.Answers.{line_of}

pub not_elaborated-requires-clause-named : goal.not_elaborated-requires-clause-named
not_elaborated-requires-clause-named g c =
    refused_of g.N.Exact.limit (robust g.N.Exact.value c.args.model.now) c.in-Err.error c.in-Err.ensures.cause

pub returns-in-Ok-clause-answers : goal.returns-in-Ok-clause-answers
returns-in-Ok-clause-answers g c =
    whole_answers _ _ _ _ _ (line_of c.args.line.now) c.args.texts.now c.on_forms.result c.written.ensures.counted.wides
    c.in-Ok.ensures.written c.on_forms.ensures.answers

pub returns-in-Err-clause-answers : goal.returns-in-Err-clause-answers
returns-in-Err-clause-answers g c =
    refused_answers _ _ _ _ (line_of c.args.line.now) c.args.texts.now c.in-Err.error c.not_elaborated.result
    c.requires.elaborates c.in-Err.ensures.cause c.in-Err.ensures.rose c.not_elaborated.ensures.refused
