use Rattle.rob_model.specs.View.{robust}
use Rattle.rob_tree.specs.View.{tree_of}
use Rattle.rob_top.proofs.Meaning.TreeCheckLemmas.{rule_answers, tree_answers}
use Rattle.rob_top.proofs.tree_checking.on_text.Goals as goal

pub on_tree-requires-clause-shape : goal.on_tree-requires-clause-shape
on_tree-requires-clause-shape g c = c.in-Ok.ensures.read.text_is.shape

pub returns-in-Ok-clause-answers : goal.returns-in-Ok-clause-answers
returns-in-Ok-clause-answers g c =
    tree_answers g.N.Exact.limit (robust g.N.Exact.value c.args.model.now) c.args.numbers.now
    (tree_of g.N.Exact.value c.in-Ok.tree) _ _ _ c.args.text.now c.on_tree.result c.read_tree.ensures.counted.wides
    c.in-Ok.ensures.read.text_is c.in-Ok.ensures.read.fits c.on_tree.ensures.answers

pub returns-in-Err-Rule-clause-answers : goal.returns-in-Err-Rule-clause-answers
returns-in-Err-Rule-clause-answers g c =
    rule_answers g.N.Exact.limit (robust g.N.Exact.value c.args.model.now) _ c.args.numbers.now c.args.text.now
    c.in-Err-Rule.rule c.in-Err-Rule.number c.broken_rule.result
    (rw c.in-Err-Rule.field-0-is at c.in-Err-Rule.ensures.fault) c.broken_rule.ensures.fault
