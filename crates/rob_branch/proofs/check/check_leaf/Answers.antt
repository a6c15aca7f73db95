use Rattle.std.proofs.Common.{map}
use Rattle.rob_tree.specs.View.{branch_of}
use Rattle.rob_branch.proofs.LeafLemmas.{leaf_fails, leaf_wide}
use Rattle.rob_branch.proofs.check.check_leaf.Goals as goal

pub returns-in-Fails-clause-stopped : goal.returns-in-Fails-clause-stopped
returns-in-Fails-clause-stopped g c =
    leaf_fails _ _ _ _ (map branch_of c.args.area.path.now) _ c.args.number c.in-Fails.fault c.in-Fails.ensures.judged

pub returns-in-Wide-clause-stopped : goal.returns-in-Wide-clause-stopped
returns-in-Wide-clause-stopped g c =
    leaf_wide _ _ _ _ c.args.area.path.now _ c.args.number c.in-Wide.spot c.too_wide.result c.in-Wide.ensures.judged
    c.too_wide.ensures.told
