-- The names of a line's expressions, items and sets in a setting, and the words that grow by them.
use Rattle.std.specs.Prelude.{◌≡◌, ℕ, ℤ, pos, nat_abs, int_lt, ◌||◌, ◌&&◌, Bool, true, false, List, [], ◌∷◌, ◌++◌, map, option_to_list, Option, if◌then◌else◌}
use Rattle.std.specs.Fmt.{decimal}
use Rattle.std.specs.Option.{option_map}
use Rattle.std.specs.List.{flat_map}
use Rattle.rob_index.specs.Statements.{Name, Plain, Statement}
use Rattle.rob_index.specs.Statements as stated
use Rattle.rob_index.specs.Forms.{Form, value_of, extensions}
use Rattle.rob_index.specs.Rules.{greatest_index, has_no_member, is_long_name}
use Rattle.rob_syntax.specs.Symbols.{add_word}
use Rattle.rob_syntax.specs.Plain.{is_nothing}
use Rattle.rob_settings.specs.declared.item.Item.{Item}
use Rattle.rob_expand.specs.declared.line.Line.{Line}
use Rattle.rob_expand.specs.declared.name.Refusal.{Refusal}
use Rattle.rob_expand.specs.declared.name.Refusal.TheVariants.{NoStatement, Memory}
use Rattle.rob_settings.specs.declared.item.Named.{Named}
use Rattle.rob_expand.specs.declared.placed.Part.{Part}
use Rattle.rob_expand.specs.declared.placed.Placed.{Placed as Code}
use Rattle.rob_expand.specs.Names.{tree_names, part_names, factor_names}
use Rattle.rob_expand.specs.Placed.{Placed, placed_of, part_of, parts_of, factors_of}
use Rattle.rob_expand.specs.Standing.{name_at, plain_at, parts_at, factors_at}

-- a refusal's cause: a plain statement is none; want of memory has no cause
abbrev pub HasRefusal : Bool → Refusal → Type 0
HasRefusal none NoStatement = none ≡ true
HasRefusal none Memory = Unit {0}

-- what is printed for an index: its value, where it is within bounds
abbrev pub printed : ℤ → ℕ
printed z = if int_lt z (pos 0) || int_lt (pos greatest_index) z then 0 else nat_abs z

-- an index behind `_`
abbrev pub index_bytes : List ℤ → Form → List ℕ
index_bytes vs f = 95 ∷ decimal (printed (value_of f vs))

-- a name behind the words, unless it is among them or too long
abbrev pub add_name : List Name → Name → List Name
add_name words n = if is_long_name n then words else add_word words n

module _ (own : List Name) where
  -- a placed name
  abbrev pub named_at : Named → List ℤ → Name
  named_at n vs = name_at own printed n.word n.indices vs

  -- a placed expression
  abbrev pub printed_at : Placed → List ℤ → Plain
  printed_at p vs = plain_at own printed p vs

  -- the names of the parts of a sum
  abbrev pub parts_names : List ℤ → List Part → List Name
  parts_names vs ps = part_names (parts_at own printed (parts_of (map part_of ps)) vs)

  -- of the factors of a product
  abbrev pub factors_names : List ℤ → List Code → List Name
  factors_names vs fs = factor_names (factors_at own printed (factors_of (map placed_of fs)) vs)

  -- of an expression at each of these values
  abbrev pub each_names : Placed → List ℤ → List ℤ → List Name
  each_names p vs ws = flat_map (λ v. tree_names (printed_at p (v ∷ vs))) ws

  -- a placed name that may be missing
  abbrev pub over_at : Option Named → List ℤ → Option Name
  over_at o vs = option_map (λ (n : Named). named_at n vs) o

  -- the names of an item, one for each setting of its ranges
  abbrev pub item_names : Item → List ℤ → List Name
  item_names x vs = map (named_at x.name) (extensions x.ranges vs)

  -- the names of a line: that which it declares, those of its expressions, those of its list, and that of its set
  abbrev pub line_names : Line → List ℤ → List Name
  line_names line vs =
      option_to_list (over_at line.head vs)
      ++ (flat_map (λ p. tree_names (printed_at (placed_of p) vs)) line.trees
      ++ (flat_map (λ x. item_names x vs) line.items ++ option_to_list (over_at line.over vs)))

-- a budget without a member
abbrev pub lacks_members : Statement → Bool
lacks_members (stated.budget n ms o) = has_no_member ms
lacks_members _ = false

-- none of the items has a setting
abbrev pub is_bare : List Item → List ℤ → Bool
is_bare [] vs = true
is_bare (x ∷ xs) vs = is_nothing (extensions x.ranges vs) && is_bare xs vs
