use Rattle.rob_top.proofs.Meaning.WorkLemmas.{width_answers}
use Rattle.rob_words.specs.declared.width.Width.TheVariants.{Eight, Sixteen, ThirtyTwo, SixtyTwo}
use Rattle.rob_top.proofs.work.work_at.Goals as goal
use Rattle.rob_words.specs.Answers.{line_of}

pub returns-in-Eight-clause-means : goal.returns-in-Eight-clause-means
returns-in-Eight-clause-means g c =
    width_answers (line_of c.args.line.now) Eight (g.L.Ledger.wides c.args.ledger.now)
    (g.L.Ledger.wides c.work.new.ledger) c.args.texts.now c.work.result c.in-Eight.is c.work.ensures.answers

pub returns-in-Sixteen-clause-means : goal.returns-in-Sixteen-clause-means
returns-in-Sixteen-clause-means g c =
    width_answers (line_of c.args.line.now) Sixteen (g.L.Ledger.wides c.args.ledger.now)
    (g.L.Ledger.wides c.work-in-Sixteen.new.ledger) c.args.texts.now c.work-in-Sixteen.result c.in-Sixteen.is
    c.work-in-Sixteen.ensures.answers

pub returns-in-ThirtyTwo-clause-means : goal.returns-in-ThirtyTwo-clause-means
returns-in-ThirtyTwo-clause-means g c =
    width_answers (line_of c.args.line.now) ThirtyTwo (g.L.Ledger.wides c.args.ledger.now)
    (g.L.Ledger.wides c.work-in-ThirtyTwo.new.ledger) c.args.texts.now c.work-in-ThirtyTwo.result c.in-ThirtyTwo.is
    c.work-in-ThirtyTwo.ensures.answers

pub returns-in-SixtyTwo-clause-means : goal.returns-in-SixtyTwo-clause-means
returns-in-SixtyTwo-clause-means g c =
    width_answers (line_of c.args.line.now) SixtyTwo (g.L.Ledger.wides c.args.ledger.now)
    (g.L.Ledger.wides c.work-in-SixtyTwo.new.ledger) c.args.texts.now c.work-in-SixtyTwo.result c.in-SixtyTwo.is
    c.work-in-SixtyTwo.ensures.answers
