use Rattle.std.proofs.Common.{map, refl, string_bytes}
use Rattle.rob_model.specs.View.{robust}
use Rattle.rob_words.specs.declared.verb.Own.TheVariants as own
use Rattle.rob_words.specs.declared.verb.Verb.TheVariants as verbs
use Rattle.rob_top.proofs.Meaning.SweepingLemmas.{limit_told, no_line_answers}
use Rattle.rob_top.proofs.sweeping.limit_words.Goals as goal

pub returns-in-Some-limit_of-clause-answers : goal.returns-in-Some-limit_of-clause-answers
returns-in-Some-limit_of-clause-answers g c =
    limit_told g.N.Exact.limit (robust g.N.Exact.value c.args.model.now) _ _ (map string_bytes c.args.words.now)
    c.own_word-number.result.now c.own_word-word.result.now c.in-Some.n
    (g.N.Exact.value c.in-Some-limit_of.limit) c.limited.result c.own_word-number.ensures.word
    c.own_word-word.ensures.word c.in-Some.ensures.statement.1
    c.in-Some-limit_of.ensures.limit.1 c.limited.ensures.limited

pub returns-in-None-clause-answers : goal.returns-in-None-clause-answers
returns-in-None-clause-answers g c =
    no_line_answers g.N.Exact.limit _ (robust g.N.Exact.value c.args.model.now) verbs.SweepText own.Limit refl
    (map string_bytes c.args.words.now) c.own_word-word.result.now c.own_word-word.ensures.word
    c.no_line-in-None.result c.in-None.ensures.limit c.no_line-in-None.ensures.fault

pub returns-in_default-clause-answers : goal.returns-in_default-clause-answers
returns-in_default-clause-answers g c =
    no_line_answers g.N.Exact.limit _ (robust g.N.Exact.value c.args.model.now) verbs.SweepText own.Statement refl
    (map string_bytes c.args.words.now) c.own_word-number.result.now c.own_word-number.ensures.word c.no_line.result
    c.in_default.ensures.statement c.no_line.ensures.fault
