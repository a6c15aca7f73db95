-- How statements are written: the words of a line, kind by kind, and what ends a line that answers to a set.
use Rattle.std.specs.Prelude.{ℕ, zero, suc, ◌++◌, true, List, [], ◌∷◌, map, Option, Some, None}
use Rattle.rob_algebra.specs.Fraction.{Fraction}
use Rattle.rob_meaning.specs.Expressions.{Expression}
use Rattle.rob_meaning.specs.Names.{Name}
use Rattle.rob_meaning.specs.RobustModel.{Relation, at_most, at_least, equal, Sense, minimise, maximise, Parameter, Variable, AdaptiveVariable, Member, SetLine, line, budget, Row}
use Rattle.rob_syntax.specs.declared.symbol.Keyword.TheVariants as word
use Rattle.rob_syntax.specs.declared.symbol.Mark.TheVariants as mark
use Rattle.rob_write.specs.Pages.{Written, name, keyword, sign}
use Rattle.rob_write.specs.ExpressionWords.{number_words, listed, Naming, name_at, expression_words}

-- ---- statements
abbrev pub relation_word : Relation → Written
relation_word at_most = sign mark.AtMost
relation_word at_least = sign mark.AtLeast
relation_word equal = sign mark.Equal

-- bounds behind a name
abbrev pub bound_words : Option Fraction → Option Fraction → List Written
bound_words None None = []
bound_words (Some l) None = sign mark.AtLeast ∷ number_words l
bound_words None (Some u) = sign mark.AtMost ∷ number_words u
bound_words (Some l) (Some u) =
    keyword word.In
    ∷ (sign mark.OpenBracket
    ∷ (number_words l ++ sign mark.Comma ∷ (number_words u ++ sign mark.CloseBracket ∷ [])))

-- the line of a parameter
abbrev pub parameter_words : Parameter → List Written
parameter_words p = keyword word.Uncertain ∷ (name p.name ∷ bound_words p.lower p.upper)

-- the line of a variable
abbrev pub variable_words : Variable → List Written
variable_words x = keyword word.Var ∷ (name x.name ∷ bound_words x.lower x.upper)

module _ (names : Naming) where
  -- a member of a budget: its parameter, centre and deviation
  abbrev pub member_words : Member → List Written
  member_words h =
      name_at names.parameters h.parameter
      ∷ (keyword word.At ∷ (number_words h.centre ++ keyword word.By ∷ number_words h.deviation))

  -- two sides and the relation between them
  abbrev pub comparison_words : Expression → Relation → Expression → List Written
  comparison_words left relation right =
      expression_words names left ++ relation_word relation ∷ expression_words names right

  -- the line of a statement on a set
  abbrev pub set_words : SetLine → List Written
  set_words (line left relation right) = keyword word.Set ∷ comparison_words left relation right
  set_words (budget limit members) =
      keyword word.Budget ∷ (number_words limit ++ sign mark.Colon ∷ listed member_words true members)

  -- the line of an adaptive variable, with the parameters that it depends on
  abbrev pub adaptive_words : AdaptiveVariable → List Written
  adaptive_words y =
      keyword word.Adaptive ∷ (name y.name ∷ (sign mark.Open
      ∷ (listed (λ k. name_at names.parameters k ∷ []) true y.on ++ sign mark.Close ∷ bound_words y.lower y.upper)))

  -- the line of a row
  abbrev pub row_words : Row → List Written
  row_words r = keyword word.Row ∷ (name r.name ∷ (sign mark.Colon ∷ comparison_words r.left r.relation r.right))

-- the line that declares a set
abbrev pub declared_set_words : Name → List Written
declared_set_words set = keyword word.Over ∷ name set ∷ []

-- what ends a line that answers to set `S`, where these are the named sets: nothing for the default set
abbrev pub over_words : List Name → ℕ → List Written
over_words sets zero = []
over_words sets (suc S) = keyword word.Over ∷ name_at sets S ∷ []

-- each item with the set of this number beside it; what has no number belongs to the default set
abbrev pub beside : {A : Type 0} → List A → List ℕ → List (A × ℕ)
beside [] Ss = []
beside (x ∷ xs) [] = (x, 0) ∷ beside xs []
beside (x ∷ xs) (S ∷ Ss) = (x, S) ∷ beside xs Ss

-- the words of an item, and what ends its line
abbrev pub placed_words : {A : Type 0} → (A → List Written) → List Name → A × ℕ → List Written
placed_words words sets z = words z.0 ++ over_words sets z.1

-- a line for each item, which answers to the set beside it
abbrev pub lines_over : {A : Type 0} → (A → List Written) → List Name → List A → List ℕ → List (List Written)
lines_over words sets xs Ss = map (placed_words words sets) (beside xs Ss)

-- the keyword of a goal
abbrev pub goal_word : Sense → Written
goal_word minimise = keyword word.Minimise
goal_word maximise = keyword word.Maximise

-- the line of the goal
abbrev pub goal_words : Naming → Sense → Expression → List Written
goal_words names sense objective = goal_word sense ∷ expression_words names objective
