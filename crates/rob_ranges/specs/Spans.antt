-- The settings between the least and the greatest values of some.
use Rattle.std.specs.Prelude.{ℤ, ◌≤ℤ◌, List, [], ◌∷◌}
use Rattle.rob_ranges.specs.DigitLists.{wide_of}
use Rattle.rob_ranges.specs.Shorts.{first_of, second_of}
use Rattle.rob_ranges.specs.declared.span.Span.{Span}

-- the two innermost values are each at least the least, and at most the greatest
pub record IsIn (span : Span) (vs : List ℤ) : Type 0 where
  pub first_least : wide_of span.least.first ≤ℤ first_of vs
  pub first_greatest : first_of vs ≤ℤ wide_of span.greatest.first
  pub second_least : wide_of span.least.second ≤ℤ second_of vs
  pub second_greatest : second_of vs ≤ℤ wide_of span.greatest.second

-- it holds of each
abbrev pub Every : {A : Type 0} → (A → Type 0) → List A → Type 0
Every Holds [] = Unit {0}
Every Holds (x ∷ xs) = Holds x × Every Holds xs
