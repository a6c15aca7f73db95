-- What is left of a room behind the canonical text of an expression in a setting, found without making it, and whether
-- it stands in parentheses inside a sum or a product.
use Rattle.std.specs.Prelude.{◌≡◌, ℕ, Bool, true, false, ℤ, List, [], ◌∷◌, Option, Some, None}
use Rattle.rob_index.specs.Forms.{values_of}
use Rattle.rob_index.specs.Counting.{number_tokens, lead, star, parens}
use Rattle.rob_expand.specs.declared.count.Shape.{Shape}
use Rattle.rob_expand.specs.declared.count.Shape.TheVariants.{Single, Sum, Product}
use Rattle.rob_expand.specs.declared.count.Counted.{Counted}
use Rattle.rob_expand.specs.declared.count.Inside.{Inside}
use Rattle.rob_expand.specs.declared.count.Inside.TheVariants as inside
use Rattle.rob_expand.specs.declared.count.Many.{Many}
use Rattle.rob_expand.specs.declared.count.Many.TheVariants.{Empty, One, Several}
use Rattle.rob_settings.specs.Room.{left_of, after}
use Rattle.rob_expand.specs.Placed.{Placed, number, name, sum, product, over, Parts, no_parts, part, Factors, no_factors, factor}

-- it stands in parentheses inside a sum
abbrev pub is_sum : Shape → Bool
is_sum Sum = true
is_sum Single = false
is_sum Product = false

-- it stands in parentheses inside a product
abbrev pub is_compound : Shape → Bool
is_compound Sum = true
is_compound Product = true
is_compound Single = false

-- it stands in parentheses there
abbrev pub is_closed : Inside → Shape → Bool
is_closed inside.Sum shape = is_sum shape
is_closed inside.Product shape = is_compound shape

-- that many values there are: none, that one alone, or more
abbrev pub AreMany : List ℤ → Many → Type 0
AreMany vs Empty = vs ≡ []
AreMany vs (One v) = vs ≡ v ∷ []
AreMany vs Several = (v : ℤ) × (w : ℤ) × (ws : List ℤ) × (vs ≡ v ∷ w ∷ ws)

-- an expression of that shape, behind which this is left
abbrev pub of_shape : Shape → Option ℕ → Option Counted
of_shape shape None = None
of_shape shape (Some left) = Some (record { left = left; shape = shape })

module _ (limit : ℕ) where
  -- an expression with so many tokens in front of it, and its parentheses
  abbrev pub item_left : (front : ℕ) → Inside → (ℕ → Option Counted) → ℕ → Option ℕ
  item_left front place make room =
      after (left_of front room) (λ room.
      after (make room) (λ c. left_of (parens limit (is_closed place c.shape)) c.left))

  -- a part of a sum: its sign, and its parentheses
  abbrev pub part_left : (first minus : Bool) → (ℕ → Option Counted) → ℕ → Option ℕ
  part_left first minus make room =
      after (left_of (lead limit first minus) room) (λ room.
      after (make room) (λ c. left_of (parens limit (is_sum c.shape)) c.left))

  -- a factor: the `*` in front of it, and its parentheses
  abbrev pub factor_left : (first : Bool) → (ℕ → Option Counted) → ℕ → Option ℕ
  factor_left first make room =
      after (left_of (star limit first) room) (λ room.
      after (make room) (λ c. left_of (parens limit (is_compound c.shape)) c.left))

  -- an expression for each value, all added
  abbrev pub each_left : (ℤ → ℕ → Option Counted) → (first : Bool) → List ℤ → ℕ → Option ℕ
  each_left make first [] room = Some room
  each_left make first (v ∷ vs) room =
      after (part_left first false (make v) room) (each_left make false vs)

  -- none is the number 0, one is itself, more are the sum of all
  abbrev pub over_left : (ℤ → ℕ → Option Counted) → List ℤ → ℕ → Option Counted
  over_left make [] room = of_shape Single (left_of 1 room)
  over_left make (v ∷ []) room = make v room
  over_left make (v ∷ w ∷ vs) room = of_shape Sum (each_left make true (v ∷ w ∷ vs) room)

  abbrev mutual
    -- an expression in a setting
    pub tree_left : Placed → List ℤ → ℕ → Option Counted
    tree_left (number n) vs room = of_shape Single (left_of (number_tokens limit n) room)
    tree_left (name k xs) vs room = of_shape Single (left_of 1 room)
    tree_left (sum ps) vs room = of_shape Sum (parts_left true ps vs room)
    tree_left (product ps) vs room = of_shape Product (factors_left true ps vs room)
    tree_left (over r p) vs room = over_left (λ v. tree_left p (v ∷ vs)) (values_of r vs) room

    -- the parts of a sum
    pub parts_left : (first : Bool) → Parts → List ℤ → ℕ → Option ℕ
    parts_left first no_parts vs room = Some room
    parts_left first (part minus p ps) vs room =
        after (part_left first minus (tree_left p vs) room) (parts_left false ps vs)

    -- the factors of a product
    pub factors_left : (first : Bool) → Factors → List ℤ → ℕ → Option ℕ
    factors_left first no_factors vs room = Some room
    factors_left first (factor p ps) vs room =
        after (factor_left first (tree_left p vs) room) (factors_left false ps vs)
