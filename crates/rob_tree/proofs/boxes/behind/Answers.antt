use Rattle.std.proofs.Common.{◌<◌, length, map, sym, subst, ◌∙◌, ap}
use Rattle.rob_model.specs.View.{variable_of}
use Rattle.rob_reach.specs.Boxes.{change_at, tightened}
use Rattle.rob_tree.proofs.BoxShapes.BoxLemmas.{column_in, valid_behind}
use Rattle.rob_tree.specs.View.{branch_of}
use Rattle.rob_tree.proofs.boxes.behind.Goals as goal

pub changed-requires-clause-inside : goal.changed-requires-clause-inside
changed-requires-clause-inside g c =
    subst (λ vars. c.args.branch.column < length vars) (sym c.items.ensures.list)
    (column_in g.N.Exact.value c.args.model.now.vars c.args.branch.column c.requires.bounded)

pub returns-clause-valid : goal.returns-clause-valid
returns-clause-valid g c =
    let b = branch_of c.args.branch in
    valid_behind g.N.Exact.value c.args.model.now _ _ b c.in_ok-copy.ensures.equal
    (c.in_ok-copy-2.ensures.changed
    ∙ ap (λ vars. change_at (tightened b.is_upper b.bound) b.variable (map (variable_of g.N.Exact.value) vars))
    c.items.ensures.list) c.requires.bounded c.requires.valid
