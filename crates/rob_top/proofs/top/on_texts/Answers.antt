use Rattle.std.proofs.Common.{◌∙◌, sym}
use Rattle.rob_top.proofs.Ending.FetchedAnswers.{number_answers_line}
use Rattle.rob_top.proofs.top.on_texts.Goals as goal
use Rattle.rob_words.specs.Answers.{line_of}

pub on_number-requires-clause-on_number : goal.on_number-requires-clause-on_number
on_number-requires-clause-on_number g c = sym c.reads_model.ensures.reads ∙ c.if-reads_model.false

pub returns-then-reads_model-clause-means : goal.returns-then-reads_model-clause-means
returns-then-reads_model-clause-means g c = c.work_at.ensures.means

pub returns-else-reads_model-clause-means : goal.returns-else-reads_model-clause-means
returns-else-reads_model-clause-means g c =
    number_answers_line (line_of c.args.line.now) c.args.texts.now _ c.on_number.result c.on_number.ensures.answers
