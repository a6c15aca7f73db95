-- What the code has made of a statement's ranges and of its line, as one fact.
use Rattle.std.proofs.Common.{◌≡◌, ℕ, List, [], ap, ◌∙◌}
use Rattle.std.specs.Prelude.{Option}
use Rattle.std.specs.Option.{option_map}
use Rattle.rob_index.specs.Statements.{Range, Ref, Tree}
use Rattle.rob_index.specs.Forms.{Ends}
use Rattle.rob_index.specs.Fast.{names_in, nest_of}
use Rattle.rob_settings.specs.declared.item.Item.{Item}
use Rattle.rob_expand.specs.declared.line.Line.{Line}
use Rattle.rob_expand.specs.Placing.{placed_name}
use Rattle.rob_expand.specs.Scopes.{IsPlaced, Pairwise}
use Rattle.rob_expand.specs.Statements.{IsParts}
use Rattle.rob_expand.proofs.Values.TreesLemmas.{trees_within}

-- with the names that the ranges bind, whatever the code calls them
pub parts_are : (limit : ℕ) (rs : List Range) (ranges : List Ends) (names : List ℕ) (line : Line) (base : ℕ)
    (head : Option Ref) (trees : List Tree) (items : List Item) (over : Option Ref)
    → ranges ≡ nest_of [] rs → names ≡ names_in [] rs → line.limit ≡ limit → line.base ≡ base
    → line.head ≡ option_map (placed_name names) head
    → Pairwise (IsPlaced [] names) line.trees trees → line.items ≡ items
    → line.over ≡ option_map (placed_name names) over → IsParts limit rs base head trees items over ranges line
parts_are limit rs ranges names line base head trees items over ends bound a b c d e f = record {
  ranges_are = ends;
  limit_is = a;
  base_is = b;
  head_is = c ∙ ap (λ (ns : List ℕ). option_map (placed_name ns) head) bound;
  trees_are = trees_within (names_in [] rs) names line.trees trees bound d;
  items_are = e;
  over_is = f ∙ ap (λ (ns : List ℕ). option_map (placed_name ns) over) bound;
}
