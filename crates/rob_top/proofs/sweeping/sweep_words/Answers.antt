use Rattle.std.proofs.Common.{◌∙◌, ◌≡◌, ◌≤◌, ap, length, map, refl, string_bytes}
use Rattle.std.proofs.lemmas.Option.{MatchOption-at_some, MatchOption-at_none}
use Rattle.rob_top.specs.Swept.{limit_value}
use Rattle.rob_words.specs.Limits.{IsLimitList}
use Rattle.rob_words.specs.Names.{parts_of}
use Rattle.rob_model.specs.View.{robust}
use Rattle.rob_words.specs.declared.verb.Own.TheVariants as own
use Rattle.rob_words.specs.declared.verb.Verb.TheVariants as verbs
use Rattle.rob_top.proofs.Meaning.SweepingLemmas.{no_line_answers, sweep_told}
use Rattle.rob_top.proofs.sweeping.sweep_words.Goals as goal

pub returns-in-Some-told-clause-answers : goal.returns-in-Some-told-clause-answers
returns-in-Some-told-clause-answers g c =
    sweep_told g.N.Exact.limit (robust g.N.Exact.value c.args.model.now) (g.L.Ledger.wides c.args.ledger.now)
    (g.L.Ledger.wides c.limits_of.new.ledger) (g.L.Ledger.wides c.at_limits.new.ledger)
    (map string_bytes c.args.words.now) c.own_word-number.result.now c.own_word-limits.result.now c.in-Some.n
    (map g.N.Exact.value c.items.result.now)
    c.at_limits.result c.own_word-number.ensures.word c.own_word-limits.ensures.word
    c.in-Some.ensures.statement.1 (ap (map g.N.Exact.value) c.items.ensures.list
    ∙ (MatchOption-at_some (IsLimitList g.N.Exact.limit c.own_word-limits.result.now → ⊥)
    (λ limits. (map g.N.Exact.value limits ≡ map limit_value (parts_of c.own_word-limits.result.now))
    × (length limits ≤ 20))
    c.in-Some-told.limits c.in-Some-told.is c.in_ok-told.ensures.limits).0)
    c.limits_of.ensures.counted
    c.at_limits.ensures.answers

pub returns-in-None-clause-answers : goal.returns-in-None-clause-answers
returns-in-None-clause-answers g c =
    no_line_answers g.N.Exact.limit _ (robust g.N.Exact.value c.args.model.now) verbs.Sweep own.Limits refl
    (map string_bytes c.args.words.now) c.own_word-limits.result.now c.own_word-limits.ensures.word
    c.no_line-in-None.result
    (MatchOption-at_none (IsLimitList g.N.Exact.limit c.own_word-limits.result.now → ⊥)
    (λ limits. (map g.N.Exact.value limits ≡ map limit_value (parts_of c.own_word-limits.result.now))
    × (length limits ≤ 20))
    c.in-None.is c.in_ok-told.ensures.limits)
    c.no_line-in-None.ensures.fault

pub returns-in_default-clause-answers : goal.returns-in_default-clause-answers
returns-in_default-clause-answers g c =
    no_line_answers g.N.Exact.limit _ (robust g.N.Exact.value c.args.model.now) verbs.Sweep own.Statement refl
    (map string_bytes c.args.words.now) c.own_word-number.result.now c.own_word-number.ensures.word c.no_line.result
    c.in_default.ensures.statement c.no_line.ensures.fault
