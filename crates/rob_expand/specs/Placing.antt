-- An expression with its indices and ranges as forms over the values of the ranges around it, whose names are these,
-- the innermost first.
use Rattle.std.specs.Prelude.{ℕ, List, ◌∷◌, map}
use Rattle.rob_index.specs.Statements as stated
use Rattle.rob_index.specs.Fast.{index_form, ends_of}
use Rattle.rob_settings.specs.declared.item.Named.{Named}
use Rattle.rob_expand.specs.Placed.{Placed, number, name, sum, product, over, Parts, no_parts, part, Factors, no_factors, factor}

-- a name with its indices
abbrev pub placed_name : List ℕ → stated.Ref → Named
placed_name names r = record { word = r.name; indices = map (index_form names) r.indices }

abbrev mutual
  -- an expression
  pub placed_tree : List ℕ → stated.Tree → Placed
  placed_tree names (stated.number n) = number n
  placed_tree names (stated.ref r) = name r.name (map (index_form names) r.indices)
  placed_tree names (stated.sum ts) = sum (placed_parts names ts)
  placed_tree names (stated.product ts) = product (placed_factors names ts)
  placed_tree names (stated.ranged r t) = over (ends_of names r) (placed_tree (r.name ∷ names) t)

  -- the parts of a sum
  pub placed_parts : List ℕ → stated.TreeParts → Parts
  placed_parts names stated.no_parts = no_parts
  placed_parts names (stated.part minus t ts) = part minus (placed_tree names t) (placed_parts names ts)

  -- the factors of a product
  pub placed_factors : List ℕ → stated.TreeFactors → Factors
  placed_factors names stated.no_factors = no_factors
  placed_factors names (stated.factor t ts) = factor (placed_tree names t) (placed_factors names ts)
