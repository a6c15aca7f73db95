use Rattle.std.proofs.Common.{◌+◌, List, [], map, refl, ap, ◌∙◌}
use Rattle.rob_syntax.specs.declared.syntax.Ranged.{Ranged}
use Rattle.rob_syntax.specs.declared.syntax.Share.{Share}
use Rattle.rob_syntax.specs.Seen.{seen_ranged, seen_share}
use Rattle.rob_expand.specs.Statements.{member_item}
use Rattle.rob_expand.proofs.Counting.PartsLemmas.{parts_are}
use Rattle.rob_expand.proofs.Values.TreesLemmas.{no_trees}
use Rattle.rob_expand.proofs.lines.budget.Goals as goal

pub returns : goal.returns
returns c = record {
  parts =
      let number = c.number_tokens-number.ensures.tokens in
      let tokens = c.over_tokens-tokens.ensures.tokens c.args.limit in
      let items =
      c.in_ok-items.ensures.items
      ∙ ap (λ (ms : List (Ranged Share)). map (member_item c.args.limit []) (map (seen_ranged seen_share) ms))
      c.items.ensures.list in
      parts_are c.args.limit [] _ [] _ _ _ _ _ _ c.new-ranges.ensures.empty refl refl (λ i. 3 + (number i + tokens i))
      refl
      (no_trees [] c.new-trees.result c.new-trees.ensures.empty) items c.in_ok-over.ensures.named;
}
