use Rattle.std.proofs.Common.{ℕ, ◌+◌, List, [], ◌∷◌, refl, ap, ◌∙◌}
use Rattle.std.specs.Prelude.{Some}
use Rattle.std.specs.Option.{option_map}
use Rattle.rob_index.specs.Fast.{names_in, nest_of}
use Rattle.rob_syntax.specs.declared.syntax.Range.{Range}
use Rattle.rob_syntax.specs.Seen.{seen_over, seen_ranges, seen_ref, seen_tree}
use Rattle.rob_settings.specs.declared.item.Named.{Named}
use Rattle.rob_expand.specs.Placing.{placed_name}
use Rattle.rob_expand.proofs.Counting.PartsLemmas.{parts_are}
use Rattle.rob_expand.proofs.Values.TreesLemmas.{trees_within}
use Rattle.rob_expand.proofs.lines.row.Goals as goal

pub returns : goal.returns
returns c = record {
  parts =
      let ends =
      c.in_ok-nest.ensures.ends ∙ ap (λ (rs : List Range). nest_of [] (seen_ranges rs)) c.items.ensures.list in
      let bound =
      c.in_ok-nest.ensures.names ∙ ap (λ (rs : List Range). names_in [] (seen_ranges rs)) c.items.ensures.list in
      let head =
      ap (λ (n : Named). Some n)
      (c.in_ok-head.ensures.named
      ∙ ap (λ (ns : List ℕ). placed_name ns (seen_ref c.args.name.now)) c.items-2.ensures.list) in
      let pair = seen_tree c.args.sides.now.item.left ∷ seen_tree c.args.sides.now.item.right ∷ [] in
      let names = c.in_ok-nest.nest.names in
      let trees =
      trees_within names c.items-3.result.now c.in_ok-trees.trees pair c.items-3.ensures.list
      c.in_ok-trees.ensures.trees in
      let over =
      c.in_ok-over.ensures.named
      ∙ ap (λ (ns : List ℕ). option_map (placed_name ns) (seen_over c.args.sides.now.item.over)) c.items-4.ensures.list
      in
      parts_are c.args.limit _ _ names _ _ _ _ _ _ ends bound refl
      (ap (λ (n : ℕ). 5 + n) (c.over_tokens-tokens.ensures.tokens c.args.limit)) head trees
      c.new-items.ensures.empty over;
}
