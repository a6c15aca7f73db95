-- Expressions whose indices and ranges are forms over the values of the ranges around them; the code's such trees as
-- plain ones.
use Rattle.std.specs.Prelude.{ℕ, Bool, List, [], ◌∷◌}
use Rattle.rob_index.specs.Statements as index
use Rattle.rob_index.specs.Forms.{Form, Ends}
use Rattle.rob_expand.specs.declared.placed.Placed.{Placed as Code, Placed-F, fold-Placed}
use Rattle.rob_expand.specs.declared.placed.Part.{Part as CodePart, Part-F, fold-Part}
use Rattle.rob_syntax.specs.Seen.{seen_numeral}

mutual
  -- a number, a name with its indices, a sum, a product, or a sum over a range
  pub data Placed : Type 0 where
    number : index.Numeral → Placed
    name : ℕ → List Form → Placed
    sum : Parts → Placed
    product : Factors → Placed
    over : Ends → Placed → Placed

  -- the parts of a sum, each added, or subtracted where `minus` is true
  pub data Parts : Type 0 where
    no_parts : Parts
    part : (minus : Bool) → Placed → Parts → Parts

  -- the factors of a product
  pub data Factors : Type 0 where
    no_factors : Factors
    factor : Placed → Factors → Factors

-- a part of a sum with its sign
pub record Part : Type 0 where
  pub minus : Bool
  pub inner : Placed

-- the parts of a list
abbrev pub parts_of : List Part → Parts
parts_of [] = no_parts
parts_of (p ∷ ps) = part p.minus p.inner (parts_of ps)

-- the factors of a list
abbrev pub factors_of : List Placed → Factors
factors_of [] = no_factors
factors_of (p ∷ ps) = factor p (factors_of ps)

-- one level of the code's tree, with what is inside already seen
abbrev pub placed_step : Placed-F Placed Part → Placed
placed_step (Placed-F.Number n) = number (seen_numeral n)
placed_step (Placed-F.Name n) = name n.word n.indices
placed_step (Placed-F.Sum ps) = sum (parts_of ps)
placed_step (Placed-F.Product ps) = product (factors_of ps)
placed_step (Placed-F.Over ends p) = over ends p.value

-- one signed part
abbrev pub part_step : Part-F Placed Part → Part
part_step p = record { minus = p.minus; inner = p.inner }

-- the code's tree
abbrev pub placed_of : Code → Placed
placed_of = fold-Placed Placed Part placed_step part_step

-- the code's signed part
abbrev pub part_of : CodePart → Part
part_of = fold-Part Placed Part placed_step part_step
