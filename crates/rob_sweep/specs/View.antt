-- What the program's answers are, over fractions of any size. `value` tells the fraction of a number.
use Rattle.std.specs.Prelude.{ℕ, zero, suc, Option, Some, None}
use Rattle.rob_algebra.specs.Fraction.{Fraction, ◌<ℚ◌}
use Rattle.rob_meaning.specs.Certificates.{Status, optimal, infeasible, unbounded}
use Rattle.rob_meaning.specs.RobustModel.{SetLine}
use Rattle.rob_reach.specs.Sweeps as reach
use Rattle.rob_reach.specs.Sweeps.{limited, is_optimal, is_infeasible, is_unbounded, is_empty}
use Rattle.rob_sweep.specs.declared.answer.SweepAnswer.{SweepAnswer}
use Rattle.rob_sweep.specs.declared.answer.SweepAnswer.TheVariants.{Optimal, Infeasible, Unbounded, Empty}

-- the answer that an answer of the program is
abbrev pub answer_of : {N : Type 0} → (N → Fraction) → SweepAnswer N → reach.SweepAnswer
answer_of value (Optimal v) = is_optimal (value v)
answer_of value Infeasible = is_infeasible
answer_of value Unbounded = is_unbounded
answer_of value Empty = is_empty

-- what a status answers, with its value
abbrev pub status_answer : Status → Fraction → reach.SweepAnswer
status_answer optimal v = is_optimal v
status_answer infeasible v = is_infeasible
status_answer unbounded v = is_unbounded

-- the statement, a budget with the other limit, where one is given
abbrev pub with_limit : Option Fraction → SetLine → SetLine
with_limit None c = c
with_limit (Some g) c = limited g c

-- the limit that a statement is given, by the budget's number, counted from that statement: it is the first
abbrev pub limit_for : ℕ → Fraction → Option Fraction
limit_for zero g = None
limit_for (suc zero) g = Some g
limit_for (suc (suc n)) g = None

-- the number is above the one before it, if there is one
abbrev pub IsAbove : Option Fraction → Fraction → Type 0
IsAbove None g = Unit {0}
IsAbove (Some before) g = before <ℚ g
