-- The canonical text of a model: its statements, kind by kind and each kind in order, a line each. A line is written
-- word by word and sign by sign, and the spaces between them follow from what stands on both sides.
use Rattle.std.specs.Prelude.{ℕ, ◌++◌, List, [], ◌∷◌, map, fold}
use Rattle.rob_meaning.specs.Named.{parameter_names, variable_names, adaptive_names}
use Rattle.rob_meaning.specs.RobustModel.{RobustModel}
use Rattle.rob_syntax.specs.declared.symbol.Keyword.TheVariants as word
use Rattle.rob_write.specs.Pages.{Written, keyword, blank, put_line}
use Rattle.rob_write.specs.WrittenModel.{written_model}
use Rattle.rob_write.specs.ExpressionWords.{Naming, naming_of}
use Rattle.rob_write.specs.StatementWords.{parameter_words, variable_words, set_words, adaptive_words, row_words, declared_set_words, over_words, lines_over, goal_words}

-- the lines, in the order of the kinds
abbrev pub lines_of : RobustModel → List (List Written)
lines_of m =
    let w = written_model m in
    map parameter_words w.parameters
    ++ (map declared_set_words m.sets
    ++ (lines_over (set_words (naming_of m)) m.sets w.set_lines m.line_sets
    ++ (map variable_words m.variables
    ++ (map (adaptive_words (naming_of m)) m.adaptives
    ++ (goal_words (naming_of m) m.sense w.objective ++ over_words m.sets m.objective_set)
    ∷ lines_over (row_words (naming_of m)) m.sets w.rows m.row_sets))))

-- the names of a model that names no set
abbrev pub naming_alone : RobustModel → Naming
naming_alone m =
    record { parameters = parameter_names m; sets = []; variables = variable_names m; adaptives = adaptive_names m }

-- the lines of such a model: each part as it is, and no line ends in a set
abbrev pub lines_alone : RobustModel → List (List Written)
lines_alone m =
    map parameter_words m.parameters
    ++ (map (set_words (naming_alone m)) m.set_lines
    ++ (map variable_words m.variables
    ++ (map (adaptive_words (naming_alone m)) m.adaptives
    ++ goal_words (naming_alone m) m.sense m.objective ∷ map (row_words (naming_alone m)) m.rows)))

-- it isn't the word `over`
abbrev pub IsNotOver : Written → Type 0
IsNotOver (keyword word.Over) = ⊥
IsNotOver w = Unit {0}

-- the canonical text
abbrev pub model_text : RobustModel → List ℕ
model_text m = (fold put_line blank (lines_of m)).text
