use Rattle.std.proofs.Common.{◌+◌, ◌++◌, ap, ◌∙◌}
use Rattle.rob_model.specs.View.{variable_of}
use Rattle.rob_reach.specs.Boxes.{tightened}
use Rattle.rob_tree.proofs.BoxShapes.BoxLemmas.{changed_at, rest_of}
use Rattle.rob_tree.proofs.boxes.changed.Goals as goal

pub returns : goal.returns
returns g c =
    record {
      changed = changed_at (variable_of g.N.Exact.value) (tightened c.args.branch.at_most c.args.branch.k)
          c.args.vars.now c.args.branch.column
          c.index-vars-column.result c.in_ok-tightened.field-0 c.requires.inside c.index-vars-column.is
          c.in_ok-tightened.ensures.tightened
          c.new-list.ensures.empty c.in_ok-append_vars.ensures.appended c.in_ok-push.ensures.appended
          (c.in_ok-append_vars-2.ensures.appended
          ∙ ap (λ l. c.push.new.self ++ l) (rest_of c.args.vars.now (c.args.branch.column + 1)));
    }
