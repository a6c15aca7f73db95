-- The names of a plain statement, in the order in which they stand. A line may bring names that are no words of the
-- text, as `d_1`: they become words behind those that are there.
use Rattle.std.specs.Prelude.{List, [], ◌∷◌, ◌++◌, map, fold, Option, option_to_list}
use Rattle.rob_index.specs.Statements as stated
use Rattle.rob_index.specs.Statements.{Name}
use Rattle.rob_syntax.specs.Symbols.{add_word}

abbrev mutual
  -- of an expression
  pub tree_names : stated.Plain → List Name
  tree_names (stated.number n) = []
  tree_names (stated.name n) = n ∷ []
  tree_names (stated.sum ps) = part_names ps
  tree_names (stated.product ps) = factor_names ps

  -- of the parts of a sum
  pub part_names : stated.Parts → List Name
  part_names stated.no_parts = []
  part_names (stated.part minus p ps) = tree_names p ++ part_names ps

  -- of the factors of a product
  pub factor_names : stated.Factors → List Name
  factor_names stated.no_factors = []
  factor_names (stated.factor p ps) = tree_names p ++ factor_names ps

-- of both sides of a relation, and the set that it is over
abbrev pub side_names : stated.Plain → stated.Plain → Option Name → List Name
side_names l p o = tree_names l ++ (tree_names p ++ option_to_list o)

-- of a statement
abbrev pub names_of : stated.Statement → List Name
names_of (stated.uncertain n b) = n ∷ []
names_of (stated.over n) = n ∷ []
names_of (stated.set l r p o) = side_names l p o
names_of (stated.budget n ms o) = map (λ (m : stated.Member). m.name) ms ++ option_to_list o
names_of (stated.variable n b) = n ∷ []
names_of (stated.adaptive n on b) = n ∷ on
names_of (stated.goal s e o) = tree_names e ++ option_to_list o
names_of (stated.row n l r p o) = n ∷ side_names l p o

-- the words, with the names of a statement that aren't among them behind them, in the order in which they come first
abbrev pub grown : List Name → stated.Statement → List Name
grown words s = fold add_word words (names_of s)
