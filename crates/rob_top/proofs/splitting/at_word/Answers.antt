use Rattle.std.proofs.Common.{map, sym, ◌∙◌}
use Rattle.std.proofs.lemmas.Option.{MatchOption-at_some, MatchOption-at_none}
use Rattle.rob_cells.specs.View.{cut_of}
use Rattle.rob_cells.proofs.RuleLemmas.{no_items}
use Rattle.rob_model.specs.View.{robust}
use Rattle.rob_words.specs.Names.{parts_of}
use Rattle.rob_top.proofs.Telling.CutTellingLemmas.{AreTold, NoneTold, are_moved, cuts_inside, some_item}
use Rattle.rob_top.proofs.Meaning.SplittingLemmas.{cuts_answers, named_answers, unknown_answers}
use Rattle.rob_top.proofs.splitting.at_word.Goals as goal

pub returns-then-not-is_empty-clause-answers : goal.returns-then-not-is_empty-clause-answers
returns-then-not-is_empty-clause-answers g c =
    named_answers g.N.Exact.limit (robust g.N.Exact.value c.args.model.now) c.args.verb
    c.requires.splits _ c.args.word.now
    c.broken_words.result (λ e. some_item c.items.result.now c.if-not-is_empty.ensures (c.items.ensures.list ∙ e))
    c.broken_words.ensures.fault

pub at_cuts-requires-clause-cuts : goal.at_cuts-requires-clause-cuts
at_cuts-requires-clause-cuts g c =
    let m = robust g.N.Exact.value c.args.model.now in
    let f = cut_of g.N.Exact.value in
    cuts_inside m (parts_of c.args.word.now) (map f c.items-in-Some.result.now)
    (are_moved f m g.N.Exact.limit c.args.word.now c.items-in-Some.result.now c.in-Some.cuts
    c.items-in-Some.ensures.list
    (MatchOption-at_some (NoneTold f m g.N.Exact.limit c.args.word.now) (AreTold f m g.N.Exact.limit c.args.word.now)
    c.in-Some.cuts c.in-Some.is c.in_ok-found.ensures.cuts).0)

pub returns-in-Some-clause-answers : goal.returns-in-Some-clause-answers
returns-in-Some-clause-answers g c =
    let m = robust g.N.Exact.value c.args.model.now in
    let f = cut_of g.N.Exact.value in
    cuts_answers g.N.Exact.limit m c.args.verb c.requires.splits (g.L.Ledger.wides c.args.ledger.now)
    (g.L.Ledger.wides c.cuts_of.new.ledger) (g.L.Ledger.wides c.at_cuts.new.ledger) c.args.word.now
    (map f c.items-in-Some.result.now) c.at_cuts.result
    (sym c.items.ensures.list ∙ no_items c.items.result.now c.if-not-is_empty.ensures)
    (are_moved f m g.N.Exact.limit c.args.word.now c.items-in-Some.result.now c.in-Some.cuts
    c.items-in-Some.ensures.list
    (MatchOption-at_some (NoneTold f m g.N.Exact.limit c.args.word.now) (AreTold f m g.N.Exact.limit c.args.word.now)
    c.in-Some.cuts c.in-Some.is c.in_ok-found.ensures.cuts).0)
    c.cuts_of.ensures.counted c.at_cuts.ensures.answers

pub returns-in-None-clause-answers : goal.returns-in-None-clause-answers
returns-in-None-clause-answers g c =
    let m = robust g.N.Exact.value c.args.model.now in
    let f = cut_of g.N.Exact.value in
    unknown_answers g.N.Exact.limit m c.args.verb c.requires.splits _ c.args.word.now c.broken_words-in-None.result
    (sym c.items.ensures.list ∙ no_items c.items.result.now c.if-not-is_empty.ensures)
    (MatchOption-at_none (NoneTold f m g.N.Exact.limit c.args.word.now) (AreTold f m g.N.Exact.limit c.args.word.now)
    c.in-None.is c.in_ok-found.ensures.cuts)
    c.broken_words-in-None.ensures.fault
