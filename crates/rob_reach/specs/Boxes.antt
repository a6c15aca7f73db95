-- Boxes: a model with bounds of variables tightened along a path of branches.
-- Land, Doig, An automatic method of solving discrete programming problems (1960).
use Rattle.std.specs.Prelude.{ℕ, zero, suc, ℤ, pos, ◌+ℤ◌, Bool, true, false, List, [], ◌∷◌, Option, Some, None}
use Rattle.std.proofs.Common.{Ordering, Less, Equal, Greater}
use Rattle.rob_algebra.specs.Fraction.{Fraction, of_int}
use Rattle.rob_algebra.specs.FractionOrder.{cmp_ℚ}
use Rattle.rob_meaning.specs.RobustModel.{Variable, RobustModel}

-- the first number, or the second one where the first is over it
abbrev pub lesser_by : Ordering → Fraction → Fraction → Fraction
lesser_by Less a b = a
lesser_by Equal a b = a
lesser_by Greater a b = b

-- the lesser of a declared bound and a number
abbrev pub lesser : Option Fraction → Fraction → Fraction
lesser None b = b
lesser (Some a) b = lesser_by (cmp_ℚ a b) a b

-- the greater of a declared bound and a number
abbrev pub greater : Option Fraction → Fraction → Fraction
greater None b = b
greater (Some a) b = lesser_by (cmp_ℚ b a) a b

-- the list in which variable j is changed
abbrev pub change_at : (Variable → Variable) → ℕ → List Variable → List Variable
change_at f j [] = []
change_at f zero (x ∷ xs) = f x ∷ xs
change_at f (suc j) (x ∷ xs) = x ∷ change_at f j xs

-- the variable with an upper bound that is the lesser of its own and k
abbrev pub with_upper : ℤ → Variable → Variable
with_upper k x = record x { upper = Some (lesser x.upper (of_int k)) }

-- the variable with a lower bound that is the greater of its own and k
abbrev pub with_lower : ℤ → Variable → Variable
with_lower k x = record x { lower = Some (greater x.lower (of_int k)) }

-- a branch: a variable's number, and whether its number is to be at most or at least `bound`
pub record Branch : Type 0 where
  pub variable : ℕ
  pub is_upper : Bool
  pub bound : ℤ

-- what a branch does to its variable
abbrev pub tightened : Bool → ℤ → Variable → Variable
tightened true k = with_upper k
tightened false k = with_lower k

-- the box behind a branch: the model with that variable's bound tightened
abbrev pub behind : RobustModel → Branch → RobustModel
behind m b = record m { variables = change_at (tightened b.is_upper b.bound) b.variable m.variables }

-- the box behind a path of branches
abbrev pub box : RobustModel → List Branch → RobustModel
box m [] = m
box m (b ∷ path) = box (behind m b) path

-- the branch at K on variable j that asks for at most K
abbrev pub at_most_branch : ℕ → ℤ → Branch
at_most_branch j k = record { variable = j; is_upper = true; bound = k }

-- the one that asks for at least K + 1
abbrev pub at_least_branch : ℕ → ℤ → Branch
at_least_branch j k = record { variable = j; is_upper = false; bound = k +ℤ pos 1 }

-- the box with upper bound the lesser of its own and K
abbrev pub box_below : RobustModel → ℕ → ℤ → RobustModel
box_below m j k = behind m (at_most_branch j k)

-- the box with lower bound the greater of its own and K + 1
abbrev pub box_above : RobustModel → ℕ → ℤ → RobustModel
box_above m j k = behind m (at_least_branch j k)
