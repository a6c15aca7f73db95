use Rattle.std.proofs.Common.{ℕ, ◌+◌, List, [], refl, ap, ◌∙◌}
use Rattle.std.specs.Prelude.{Some}
use Rattle.rob_index.specs.Fast.{names_in, nest_of}
use Rattle.rob_syntax.specs.declared.syntax.Range.{Range}
use Rattle.rob_syntax.specs.Seen.{seen_ranges, seen_ref}
use Rattle.rob_settings.specs.declared.item.Named.{Named}
use Rattle.rob_expand.specs.Placing.{placed_name}
use Rattle.rob_expand.proofs.Counting.PartsLemmas.{parts_are}
use Rattle.rob_expand.proofs.Values.TreesLemmas.{no_trees}
use Rattle.rob_expand.proofs.lines.declaration.Goals as goal

pub returns : goal.returns
returns c = record {
  parts =
      let ends =
      c.in_ok-nest.ensures.ends ∙ ap (λ (rs : List Range). nest_of [] (seen_ranges rs)) c.items.ensures.list in
      let bound =
      c.in_ok-nest.ensures.names ∙ ap (λ (rs : List Range). names_in [] (seen_ranges rs)) c.items.ensures.list in
      let head =
      ap (λ (n : Named). Some n)
      (c.in_ok-head.ensures.named
      ∙ ap (λ (ns : List ℕ). placed_name ns (seen_ref c.args.entry.now.name)) c.items-2.ensures.list) in
      parts_are c.args.limit _ _ c.in_ok-nest.nest.names _ _ _ _ _ _ ends bound refl
      (ap (λ (n : ℕ). 3 + n) c.bounds_tokens-bounds.ensures.tokens) head
      (no_trees c.in_ok-nest.nest.names c.new-trees.result c.new-trees.ensures.empty) c.new-items.ensures.empty refl;
}
