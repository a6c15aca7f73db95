use Rattle.rob_syntax.specs.Seen.{seen_tree}
use Rattle.rob_expand.proofs.Values.TreesLemmas.{both_trees, placed_within}
use Rattle.rob_expand.proofs.Values.PlaceLemmas.{placed_as}
use Rattle.rob_expand.proofs.lines.two_trees.Goals as goal

pub returns : goal.returns
returns c = record {
  trees =
      let names = c.args.names.now in
      let scope = c.in_ok-scope.scope in
      let own = c.in_ok-scope.ensures in
      let left = seen_tree c.args.sides.now.left in
      let right = seen_tree c.args.sides.now.right in
      both_trees names c.new-trees.result c.push.new.self c.push-2.new.self c.in_ok-left.left c.in_ok-right.right left
      right c.new-trees.ensures.empty c.in_ok-push.ensures.appended c.in_ok-push-2.ensures.appended
      (placed_within scope.bound scope.names names c.in_ok-left.left left own.bound own.names
      c.in_ok-left.ensures.placed)
      (placed_within scope.bound scope.names names c.in_ok-right.right right own.bound own.names
      (placed_as scope c.in_ok-right.right right c.in_ok-left.ensures.around c.in_ok-right.ensures.placed));
}
