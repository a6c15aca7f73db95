use Rattle.std.proofs.Common.{sym, ◌∙◌}
use Rattle.rob_model.specs.View.{robust}
use Rattle.rob_top.proofs.Meaning.TreeCheckLemmas.{kept_answers, ranges_answers}
use Rattle.rob_top.proofs.tree_checking.on_numbers.Goals as goal

pub returns-in-Some-clause-answers : goal.returns-in-Some-clause-answers
returns-in-Some-clause-answers g c =
    ranges_answers g.N.Exact.limit (robust g.N.Exact.value c.args.model.now) _ c.args.numbers.now c.args.text.now
    c.in-Some.rule c.broken_words.result
    (sym c.whole_rule.ensures.rule ∙ c.in-Some.is) c.broken_words.ensures.fault

pub returns-in-None-clause-answers : goal.returns-in-None-clause-answers
returns-in-None-clause-answers g c =
    kept_answers g.N.Exact.limit (robust g.N.Exact.value c.args.model.now) _ c.args.numbers.now
    c.args.text.now c.on_text.result
    (sym c.whole_rule.ensures.rule ∙ c.in-None.is) c.on_text.ensures.answers
