-- What is made of placed expressions in a setting, a name being the number of its word among `words`.
use Rattle.std.specs.Prelude.{ℕ, ℤ, List, [], ◌∷◌, map, unwrap_or}
use Rattle.std.specs.Option.{option_map}
use Rattle.std.specs.List.{flat_map}
use Rattle.rob_index.specs.Statements as stated
use Rattle.rob_index.specs.Statements.{Name}
use Rattle.rob_index.specs.Expansion.{added, zero_numeral}
use Rattle.rob_syntax.specs.declared.syntax.Budget.{Budget}
use Rattle.rob_syntax.specs.declared.syntax.Member.{Member}
use Rattle.rob_syntax.specs.declared.syntax.Rel.{Rel}
use Rattle.rob_syntax.specs.declared.syntax.Relation.{Relation}
use Rattle.rob_syntax.specs.declared.syntax.Shares.{Shares}
use Rattle.rob_syntax.specs.declared.syntax.Spread.{Spread}
use Rattle.rob_syntax.specs.declared.syntax.Summand.{Summand}
use Rattle.rob_syntax.specs.declared.syntax.Syntax.{Syntax}
use Rattle.rob_syntax.specs.declared.syntax.Syntax.TheVariants as syntax
use Rattle.rob_syntax.specs.Numbered.{own_numeral, numbered_parts, numbered_factors, numbered_member, numbered_over, numbered_relation}
use Rattle.rob_syntax.specs.Seen.{seen_numeral, seen_ranged, seen_rel, seen_share}
use Rattle.rob_syntax.specs.Symbols.{number_of}
use Rattle.rob_settings.specs.declared.item.Item.{Item}
use Rattle.rob_expand.specs.declared.line.Line.{Line}
use Rattle.rob_settings.specs.declared.item.Named.{Named}
use Rattle.rob_expand.specs.declared.placed.Part.{Part}
use Rattle.rob_expand.specs.declared.placed.Placed.{Placed as Code}
use Rattle.rob_expand.specs.Growing.{item_names, named_at, over_at, printed, printed_at}
use Rattle.rob_expand.specs.Instances.{each_at, member_at}
use Rattle.rob_expand.specs.Placed.{Placed, placed_of, part_of, parts_of, factors_of}
use Rattle.rob_expand.specs.Standing.{parts_at, factors_at}

-- the number 0
abbrev pub number_zero : Syntax
number_zero = syntax.Number (own_numeral zero_numeral)

-- all added: none is the number 0, one is itself
abbrev pub summed_of : List Summand → Syntax
summed_of [] = number_zero
summed_of (x ∷ []) = x.inner
summed_of (x ∷ y ∷ xs) = syntax.Sum (x ∷ y ∷ xs)

module _ (own : List Name) where
  -- the first of some expressions, or the number 0
  abbrev pub first_at : List Placed → List ℤ → stated.Plain
  first_at [] vs = stated.number zero_numeral
  first_at (p ∷ ps) vs = printed_at own p vs

  -- the second, or the number 0
  abbrev pub second_at : List Placed → List ℤ → stated.Plain
  second_at [] vs = stated.number zero_numeral
  second_at (p ∷ ps) vs = first_at ps vs

module _ (own words : List Name) where
  -- the parts of a sum
  abbrev pub made_parts : List ℤ → List Part → List Summand
  made_parts vs ps = numbered_parts words (parts_at own printed (parts_of (map part_of ps)) vs)

  -- the factors of a product
  abbrev pub made_factors : List ℤ → List Code → List Syntax
  made_factors vs fs = numbered_factors words (factors_at own printed (factors_of (map placed_of fs)) vs)

  -- an expression at each of these values
  abbrev pub made_each : Placed → List ℤ → List ℤ → List Summand
  made_each p vs ws = numbered_parts words (added (map (λ v. printed_at own p (v ∷ vs)) ws))

  -- a name with its spread, as a member
  abbrev pub entry_at : Named → Spread → List ℤ → Member
  entry_at name spread vs = record { name = number_of words (named_at own name vs); spread = spread }

  -- ---- what a line has
  -- the number of the name that it declares, or 0
  abbrev pub head_in : Line → List ℤ → ℕ
  head_in line vs = unwrap_or (option_map (number_of words) (over_at own line.head vs)) 0

  -- its two expressions with a relation between them
  abbrev pub relation_in : Rel → Line → List ℤ → Relation
  relation_in rel line vs =
      numbered_relation words (first_at own (map placed_of line.trees) vs) (seen_rel rel)
      (second_at own (map placed_of line.trees) vs) (over_at own line.over vs)

  -- the numbers of the names of its items
  abbrev pub numbers_in : List Item → List ℤ → List ℕ
  numbers_in xs vs = map (number_of words) (flat_map (λ (x : Item). item_names own x vs) xs)

  -- the members of a budget
  abbrev pub members_in : Shares → List ℤ → List stated.Member
  members_in b vs = each_at own printed (member_at own printed) [] (map (seen_ranged seen_share) b.members) vs

  -- a budget, with the name behind its `over`
  abbrev pub budget_in : Shares → Line → List ℤ → Budget
  budget_in b line vs = record {
    limit = own_numeral (seen_numeral b.limit);
    members = map (numbered_member words) (members_in b vs);
    over = numbered_over words (over_at own line.over vs);
  }
