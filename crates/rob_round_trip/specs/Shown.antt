-- A statement of the reader as a plain statement of rob_index: each name is the bytes of its word.
use Rattle.std.specs.Prelude.{◌≡◌, ℕ, List, map, Option, Some, None}
use Rattle.std.specs.Option.{option_map}
use Rattle.rob_index.specs.Statements as plain
use Rattle.rob_parse.specs.Written.{word_of}
use Rattle.rob_syntax.specs.Trees.{Tree, number, name, sum, product, Summands, no_summands, summand, Operands, no_operands, operand, tree_of}
use Rattle.rob_syntax.specs.Seen.{seen_numeral, seen_signed, seen_bounds, seen_rel, seen_sense}
use Rattle.rob_syntax.specs.Symbols.{number_of}
use Rattle.rob_syntax.specs.declared.symbol.Symbol.{Symbol}
use Rattle.rob_syntax.specs.declared.symbol.Symbol.TheVariants.{Name}
use Rattle.rob_syntax.specs.declared.syntax.Member.{Member}
use Rattle.rob_syntax.specs.declared.syntax.Relation.{Relation}
use Rattle.rob_syntax.specs.declared.syntax.Statement.{Statement}
use Rattle.rob_syntax.specs.declared.syntax.Statement.TheVariants as parsed

module _ (words : List (List ℕ)) where
  abbrev mutual
    -- an expression
    pub shown_tree : Tree → plain.Plain
    shown_tree (number n) = plain.number (seen_numeral n)
    shown_tree (name k) = plain.name (word_of words k)
    shown_tree (sum ts) = plain.sum (shown_parts ts)
    shown_tree (product fs) = plain.product (shown_factors fs)

    pub shown_parts : Summands → plain.Parts
    shown_parts no_summands = plain.no_parts
    shown_parts (summand minus t ts) = plain.part minus (shown_tree t) (shown_parts ts)

    pub shown_factors : Operands → plain.Factors
    shown_factors no_operands = plain.no_factors
    shown_factors (operand f fs) = plain.factor (shown_tree f) (shown_factors fs)

  -- the name behind `over`, if one stands there
  abbrev pub shown_over : Option ℕ → Option plain.Name
  shown_over None = None
  shown_over (Some k) = Some (word_of words k)

  -- a member of a budget
  abbrev pub shown_member : Member → plain.Member
  shown_member m = record {
    name = word_of words m.name;
    centre = seen_signed m.spread.centre;
    deviation = seen_numeral m.spread.deviation;
  }

  -- two expressions and their relation, behind what a statement on the set and a row have in front
  abbrev pub shown_relation : (plain.Plain → plain.Rel → plain.Plain → Option plain.Name → plain.Statement)
      → Relation → plain.Statement
  shown_relation make r =
      make (shown_tree (tree_of r.left)) (seen_rel r.rel) (shown_tree (tree_of r.right)) (shown_over r.over)

  -- a statement
  abbrev pub shown : Statement → plain.Statement
  shown (parsed.Uncertain d) = plain.uncertain (word_of words d.name) (option_map seen_bounds d.bounds)
  shown (parsed.Over k) = plain.over (word_of words k)
  shown (parsed.Set r) = shown_relation plain.set r
  shown (parsed.Budget b) = plain.budget (seen_numeral b.limit) (map shown_member b.members) (shown_over b.over)
  shown (parsed.Var d) = plain.variable (word_of words d.name) (option_map seen_bounds d.bounds)
  shown (parsed.Adaptive p) =
      plain.adaptive (word_of words p.name) (map (word_of words) p.on) (option_map seen_bounds p.bounds)
  shown (parsed.Goal g) = plain.goal (seen_sense g.sense) (shown_tree (tree_of g.objective)) (shown_over g.over)
  shown (parsed.Row r) = shown_relation (plain.row (word_of words r.name)) r.relation

-- the symbol, where it is a name, is found again by the word of its number
abbrev pub IsFoundAgain : List (List ℕ) → Symbol → Type 0
IsFoundAgain words (Name k) = number_of words (word_of words k) ≡ k
IsFoundAgain words _ = Unit {0}
