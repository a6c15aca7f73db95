use Rattle.std.proofs.Common.{ℕ, ◌+◌, List, [], refl, ap, ◌∙◌}
use Rattle.std.specs.Option.{option_map}
use Rattle.rob_index.specs.Fast.{names_in, nest_of}
use Rattle.rob_syntax.specs.declared.syntax.Range.{Range}
use Rattle.rob_syntax.specs.Seen.{seen_over, seen_ranges, seen_tree}
use Rattle.rob_expand.specs.Placing.{placed_name}
use Rattle.rob_expand.proofs.Counting.PartsLemmas.{parts_are}
use Rattle.rob_expand.proofs.Values.TreesLemmas.{one_tree, placed_within}
use Rattle.rob_expand.proofs.lines.goal.Goals as goal

pub returns : goal.returns
returns c = record {
  parts =
      let ends =
      c.in_ok-nest.ensures.ends ∙ ap (λ (rs : List Range). nest_of [] (seen_ranges rs)) c.items.ensures.list in
      let own =
      c.in_ok-nest.ensures.names ∙ ap (λ (rs : List Range). names_in [] (seen_ranges rs)) c.items.ensures.list in
      let names = c.in_ok-nest.nest.names in
      let scope = c.in_ok-scope.scope in
      let shown = c.in_ok-scope.ensures.names ∙ c.items-2.ensures.list in
      let placed =
      placed_within scope.bound scope.names names c.in_ok-tree.tree (seen_tree c.args.target.now.objective)
      c.in_ok-scope.ensures.bound shown c.in_ok-tree.ensures.placed in
      let trees =
      one_tree names c.new-trees.result c.push.new.self c.in_ok-tree.tree (seen_tree c.args.target.now.objective)
      c.new-trees.ensures.empty c.in_ok-push.ensures.appended placed in
      let over =
      c.in_ok-over.ensures.named
      ∙ ap (λ (ns : List ℕ). option_map (placed_name ns) (seen_over c.args.target.now.over)) c.items-3.ensures.list in
      parts_are c.args.limit _ _ names _ _ _ _ _ _ ends own refl
      (ap (λ (n : ℕ). 2 + n) (c.over_tokens-tokens.ensures.tokens c.args.limit)) refl trees
      c.new-items.ensures.empty over;
}
