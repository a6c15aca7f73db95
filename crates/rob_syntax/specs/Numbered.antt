-- Plain statements whose names are bytes, as the code has them: a name is the number of its word.
use Rattle.std.specs.Prelude.{ℕ, List, [], ◌∷◌, map, Option}
use Rattle.std.specs.Option.{option_map}
use Rattle.rob_index.specs.Statements as stated
use Rattle.rob_index.specs.Statements.{Name}
use Rattle.rob_syntax.specs.declared.syntax.Numeral.{Numeral}
use Rattle.rob_syntax.specs.declared.syntax.Signed.{Signed}
use Rattle.rob_syntax.specs.declared.syntax.Bounds.{Bounds}
use Rattle.rob_syntax.specs.declared.syntax.Bounds.TheVariants.{Between, AtLeast, AtMost}
use Rattle.rob_syntax.specs.declared.syntax.Rel.{Rel}
use Rattle.rob_syntax.specs.declared.syntax.Rel.TheVariants as rel
use Rattle.rob_syntax.specs.declared.syntax.Sense.{Sense}
use Rattle.rob_syntax.specs.declared.syntax.Sense.TheVariants as sense
use Rattle.rob_syntax.specs.declared.syntax.Syntax.{Syntax}
use Rattle.rob_syntax.specs.declared.syntax.Syntax.TheVariants as syntax
use Rattle.rob_syntax.specs.declared.syntax.Summand.{Summand}
use Rattle.rob_syntax.specs.declared.syntax.Member.{Member}
use Rattle.rob_syntax.specs.declared.syntax.Relation.{Relation}
use Rattle.rob_syntax.specs.declared.syntax.Statement.{Statement}
use Rattle.rob_syntax.specs.declared.syntax.Statement.TheVariants as parsed
use Rattle.rob_syntax.specs.Symbols.{number_of}

-- a number as it is written
abbrev pub own_numeral : stated.Numeral → Numeral
own_numeral n = record { numerator = n.numerator; divisor = n.divisor }

-- a number with its sign
abbrev pub own_signed : stated.Signed → Signed
own_signed s = record { minus = s.minus; number = own_numeral s.number }

-- bounds
abbrev pub own_bounds : stated.Bounds → Bounds
own_bounds (stated.between a b) = Between (record { lower = own_signed a; upper = own_signed b })
own_bounds (stated.at_least a) = AtLeast (own_signed a)
own_bounds (stated.at_most b) = AtMost (own_signed b)

-- a relation
abbrev pub own_rel : stated.Rel → Rel
own_rel stated.at_most = rel.AtMost
own_rel stated.at_least = rel.AtLeast
own_rel stated.equal = rel.Equal

-- the sense of a goal
abbrev pub own_sense : stated.Sense → Sense
own_sense stated.minimise = sense.Minimise
own_sense stated.maximise = sense.Maximise

module _ (words : List Name) where
  abbrev mutual
    -- an expression
    pub numbered_tree : stated.Plain → Syntax
    numbered_tree (stated.number n) = syntax.Number (own_numeral n)
    numbered_tree (stated.name n) = syntax.Name (number_of words n)
    numbered_tree (stated.sum ps) = syntax.Sum (numbered_parts ps)
    numbered_tree (stated.product ps) = syntax.Product (numbered_factors ps)

    -- the parts of a sum
    pub numbered_parts : stated.Parts → List Summand
    numbered_parts stated.no_parts = []
    numbered_parts (stated.part minus p ps) = record { minus = minus; inner = numbered_tree p } ∷ numbered_parts ps

    -- the factors of a product
    pub numbered_factors : stated.Factors → List Syntax
    numbered_factors stated.no_factors = []
    numbered_factors (stated.factor p ps) = numbered_tree p ∷ numbered_factors ps

  -- the set behind `over`
  abbrev pub numbered_over : Option Name → Option ℕ
  numbered_over over = option_map (number_of words) over

  -- a member of a budget
  abbrev pub numbered_member : stated.Member → Member
  numbered_member m = record {
    name = number_of words m.name;
    spread = record { centre = own_signed m.centre; deviation = own_numeral m.deviation };
  }

  -- both sides of a relation, and its set
  abbrev pub numbered_relation : stated.Plain → stated.Rel → stated.Plain → Option Name → Relation
  numbered_relation l r p o = record {
    left = numbered_tree l;
    rel = own_rel r;
    right = numbered_tree p;
    over = numbered_over o;
  }

  -- a statement
  abbrev pub numbered : stated.Statement → Statement
  numbered (stated.uncertain n b) =
      parsed.Uncertain (record { name = number_of words n; bounds = option_map own_bounds b })
  numbered (stated.over n) = parsed.Over (number_of words n)
  numbered (stated.set l r p o) = parsed.Set (numbered_relation l r p o)
  numbered (stated.budget n ms o) =
      parsed.Budget (record { limit = own_numeral n; members = map numbered_member ms; over = numbered_over o })
  numbered (stated.variable n b) = parsed.Var (record { name = number_of words n; bounds = option_map own_bounds b })
  numbered (stated.adaptive n on b) =
      parsed.Adaptive
      (record { name = number_of words n; on = map (number_of words) on; bounds = option_map own_bounds b })
  numbered (stated.goal s e o) =
      parsed.Goal (record { sense = own_sense s; objective = numbered_tree e; over = numbered_over o })
  numbered (stated.row n l r p o) =
      parsed.Row (record { name = number_of words n; relation = numbered_relation l r p o })
