use Rattle.std.proofs.Common.{subst}
use Rattle.rob_top.proofs.Ending.FetchedAnswers.{absence_answers, texts_answer}
use Rattle.rob_top.specs.Work.{IsShortFetch}
use Rattle.rob_top.specs.declared.files.Files.{Files}
use Rattle.rob_top.proofs.top.on_line.Goals as goal

pub on_texts-requires-clause-short : goal.on_texts-requires-clause-short
on_texts-requires-clause-short g c =
    subst (λ (files : Files). IsShortFetch files) c.in-Texts.is c.in_ok-files.ensures.short

pub returns-in-Texts-clause-means : goal.returns-in-Texts-clause-means
returns-in-Texts-clause-means g c =
    texts_answer c.args.line.now _ _ _ c.in_ok-files.files c.in-Texts.texts c.on_texts.result c.in-Texts.is
    c.in_ok-files.ensures.fetched c.on_texts.ensures.means

pub returns-in-Answer-clause-means : goal.returns-in-Answer-clause-means
returns-in-Answer-clause-means g c =
    absence_answers c.args.line.now _ _ _ c.in_ok-files.files c.in-Answer.reply c.in-Answer.is
    c.in_ok-files.ensures.fetched
