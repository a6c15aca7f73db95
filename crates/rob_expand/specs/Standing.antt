-- What a placed expression stands for, where the ranges around it have these values, and an index is printed so. A name
-- has its indices' values in digits: `nat_abs` prints them.
use Rattle.std.specs.Prelude.{ℕ, ℤ, List, [], ◌∷◌, ◌++◌, map, get_or}
use Rattle.std.specs.Fmt.{decimal}
use Rattle.std.specs.List.{flat_map}
use Rattle.rob_index.specs.Statements as stated
use Rattle.rob_index.specs.Statements.{Name, Plain}
use Rattle.rob_index.specs.Expansion.{summed}
use Rattle.rob_index.specs.Forms.{Form, value_of, values_of}
use Rattle.rob_expand.specs.Placed.{Placed, number, name, sum, product, over, Parts, no_parts, part, Factors, no_factors, factor}

module _ (words : List Name) (print : ℤ → ℕ) where
  -- the word, then each index behind `_`
  abbrev pub name_at : ℕ → List Form → List ℤ → Name
  name_at k xs vs = get_or words k [] ++ flat_map (λ (f : Form). 95 ∷ decimal (print (value_of f vs))) xs

  abbrev mutual
    -- an expression
    pub plain_at : Placed → List ℤ → Plain
    plain_at (number n) vs = stated.number n
    plain_at (name k xs) vs = stated.name (name_at k xs vs)
    plain_at (sum ps) vs = stated.sum (parts_at ps vs)
    plain_at (product ps) vs = stated.product (factors_at ps vs)
    plain_at (over r p) vs = summed (map (λ v. plain_at p (v ∷ vs)) (values_of r vs))

    -- the parts of a sum
    pub parts_at : Parts → List ℤ → stated.Parts
    parts_at no_parts vs = stated.no_parts
    parts_at (part minus p ps) vs = stated.part minus (plain_at p vs) (parts_at ps vs)

    -- the factors of a product
    pub factors_at : Factors → List ℤ → stated.Factors
    factors_at no_factors vs = stated.no_factors
    factors_at (factor p ps) vs = stated.factor (plain_at p vs) (factors_at ps vs)
