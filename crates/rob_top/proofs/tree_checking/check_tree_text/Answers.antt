use Rattle.rob_model.specs.View.{robust}
use Rattle.rob_top.proofs.Meaning.BranchingLemmas.{nobody_found, numbers_found}
use Rattle.rob_top.proofs.Meaning.TreeCheckLemmas.{nameless_answers, numbers_answers}
use Rattle.rob_top.proofs.tree_checking.check_tree_text.Goals as goal

pub on_numbers-requires-clause-kept : goal.on_numbers-requires-clause-kept
on_numbers-requires-clause-kept g c =
    (numbers_found (robust g.N.Exact.value c.args.model.now) c.args.names.now c.in_ok-found.found c.in-Some.numbers
    c.items.result.now c.in-Some.is
    c.items.ensures.list c.in_ok-found.ensures.numbers).kept

pub returns-in-Some-clause-answers : goal.returns-in-Some-clause-answers
returns-in-Some-clause-answers g c =
    numbers_answers g.N.Exact.limit (robust g.N.Exact.value c.args.model.now) _ c.args.names.now
    c.items.result.now c.args.text.now
    c.on_numbers.result
    (numbers_found (robust g.N.Exact.value c.args.model.now) c.args.names.now c.in_ok-found.found c.in-Some.numbers
    c.items.result.now c.in-Some.is
    c.items.ensures.list c.in_ok-found.ensures.numbers)
    c.on_numbers.ensures.answers

pub returns-in-None-clause-answers : goal.returns-in-None-clause-answers
returns-in-None-clause-answers g c =
    nameless_answers g.N.Exact.limit (robust g.N.Exact.value c.args.model.now) _ c.args.names.now
    c.args.text.now c.broken_words.result
    (nobody_found (robust g.N.Exact.value c.args.model.now) c.args.names.now c.in_ok-found.found c.in-None.is
    c.in_ok-found.ensures.numbers)
    c.broken_words.ensures.fault
