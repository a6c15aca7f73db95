use Rattle.rob_model.specs.View.{robust}
use Rattle.rob_top.proofs.Meaning.BranchingLemmas.{no_variables_answer, nobody_found, numbers_found, variables_answer}
use Rattle.rob_top.proofs.branching.branch_text.Goals as goal

pub on_variables-requires-clause-kept : goal.on_variables-requires-clause-kept
on_variables-requires-clause-kept g c =
    (numbers_found (robust g.N.Exact.value c.args.model.now) c.args.names.now c.in_ok-found.found c.in-Some.numbers
    c.items.result.now c.in-Some.is
    c.items.ensures.list c.in_ok-found.ensures.numbers).kept

pub returns-in-Some-clause-answers : goal.returns-in-Some-clause-answers
returns-in-Some-clause-answers g c =
    variables_answer g.N.Exact.limit (robust g.N.Exact.value c.args.model.now) _ c.args.verb c.args.names.now
    c.items.result.now c.on_variables.result
    (numbers_found (robust g.N.Exact.value c.args.model.now) c.args.names.now c.in_ok-found.found c.in-Some.numbers
    c.items.result.now c.in-Some.is
    c.items.ensures.list c.in_ok-found.ensures.numbers)
    c.on_variables.ensures.answers

pub returns-in-None-clause-answers : goal.returns-in-None-clause-answers
returns-in-None-clause-answers g c =
    no_variables_answer g.N.Exact.limit (robust g.N.Exact.value c.args.model.now) _ c.args.verb c.args.names.now
    c.broken_words.result c.requires.branches
    (nobody_found (robust g.N.Exact.value c.args.model.now) c.args.names.now c.in_ok-found.found c.in-None.is
    c.in_ok-found.ensures.numbers)
    c.broken_words.ensures.fault
