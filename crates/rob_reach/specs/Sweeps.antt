-- The price of robustness: the status of one model for several limits of one budget.
-- Bertsimas, Sim, The Price of Robustness (2004).
use Rattle.std.specs.Prelude.{◌≡◌, ◌≢◌, ℕ, zero, suc, List, [], ◌∷◌}
use Rattle.rob_algebra.specs.Fraction.{Fraction, ◌<ℚ◌}
use Rattle.rob_meaning.specs.Guarantee.{IsNoWorse}
use Rattle.rob_meaning.specs.RobustModel.{Sense, SetLine, line, budget, RobustModel}
use Rattle.rob_meaning.specs.Status.{IsOptimal, IsInfeasible, IsUnbounded}
use Rattle.rob_meaning.specs.UncertaintySet.{IsEmptySet}

-- the budget with that limit
abbrev pub limited : Fraction → SetLine → SetLine
limited g (line left relation right) = line left relation right
limited g (budget limit members) = budget g members

-- the statements in which statement n, counted from 1, has that limit, if it is a budget
abbrev pub limit_at : ℕ → Fraction → List SetLine → List SetLine
limit_at n g [] = []
limit_at zero g (c ∷ cs) = c ∷ cs
limit_at (suc zero) g (c ∷ cs) = limited g c ∷ cs
limit_at (suc (suc n)) g (c ∷ cs) = c ∷ limit_at (suc n) g cs

-- the statement is a budget
abbrev pub IsBudgetLine : SetLine → Type 0
IsBudgetLine (line left relation right) = ⊥
IsBudgetLine (budget limit members) = Unit {0}

-- statement n, counted from 1, exists and is a budget: rule 81 is kept
abbrev pub IsBudgetAt : List SetLine → ℕ → Type 0
IsBudgetAt [] n = ⊥
IsBudgetAt (c ∷ cs) zero = ⊥
IsBudgetAt (c ∷ cs) (suc zero) = IsBudgetLine c
IsBudgetAt (c ∷ cs) (suc (suc n)) = IsBudgetAt cs (suc n)

-- the model with that limit in its budget n
abbrev pub with_budget : RobustModel → ℕ → Fraction → RobustModel
with_budget m n g = record m { set_lines = limit_at n g m.set_lines }

-- each number is below the next one: rule 82 is kept
abbrev pub Rises : List Fraction → Type 0
Rises [] = Unit {0}
Rises (g ∷ []) = Unit {0}
Rises (g ∷ h ∷ gs) = (g <ℚ h) × Rises (h ∷ gs)

-- an answer: a status, or that the set is empty
pub data SweepAnswer : Type 0 where
  is_optimal : Fraction → SweepAnswer
  is_infeasible is_unbounded is_empty : SweepAnswer

-- the answer is that of the model: empty exactly where it admits nothing, else its status
abbrev pub Answers : RobustModel → SweepAnswer → Type 0
Answers m (is_optimal v) = (IsEmptySet m → ⊥) × IsOptimal m v
Answers m is_infeasible = (IsEmptySet m → ⊥) × IsInfeasible m
Answers m is_unbounded = (IsEmptySet m → ⊥) × IsUnbounded m
Answers m is_empty = IsEmptySet m

-- as many answers as limits, in their order, each that of the model with its limit
abbrev pub Swept : RobustModel → ℕ → List Fraction → List SweepAnswer → Type 0
Swept m n [] [] = Unit {0}
Swept m n [] (a ∷ answers) = ⊥
Swept m n (g ∷ limits) [] = ⊥
Swept m n (g ∷ limits) (a ∷ answers) = Answers (with_budget m n g) a × Swept m n limits answers

-- what more uncertainty does to an answer: where the later one is empty, so is the earlier one; the later optimum isn't
-- better; what is infeasible stays so; what is unbounded later was so before, unless it was empty
pub record GrowsHarder (sense : Sense) (earlier later : SweepAnswer) : Type 0 where
  pub empty : later ≡ is_empty → earlier ≡ is_empty
  pub value : (v w : Fraction) → earlier ≡ is_optimal v → later ≡ is_optimal w → IsNoWorse sense v w
  pub infeasible : earlier ≡ is_infeasible → later ≡ is_infeasible
  pub unbounded : later ≡ is_unbounded → earlier ≢ is_empty → earlier ≡ is_unbounded
