-- The printed text of a sweep: a line for each limit, with its answer.
use Rattle.std.specs.Prelude.{List, [], ◌∷◌, ◌++◌, ℕ, codes}
use Rattle.rob_algebra.specs.Fraction.{Fraction}
use Rattle.rob_cert.specs.Spelling.{number_text, spaced}
use Rattle.rob_reach.specs.Sweeps.{SweepAnswer, is_optimal, is_infeasible, is_unbounded, is_empty}

-- the words of an answer
abbrev pub answer_words : SweepAnswer → List (List ℕ)
answer_words (is_optimal v) = codes "optimal" ∷ (number_text v ∷ [])
answer_words is_infeasible = codes "infeasible" ∷ []
answer_words is_unbounded = codes "unbounded" ∷ []
answer_words is_empty = codes "empty" ∷ (codes "set" ∷ [])

-- the line of a limit with its answer
abbrev pub answer_line : Fraction → SweepAnswer → List ℕ
answer_line g a = spaced (codes "budget" ∷ (number_text g ∷ answer_words a))

-- the lines in the order of the limits
abbrev pub sweep_text : List Fraction → List SweepAnswer → List ℕ
sweep_text (g ∷ limits) (a ∷ answers) = answer_line g a ++ sweep_text limits answers
sweep_text limits answers = []
