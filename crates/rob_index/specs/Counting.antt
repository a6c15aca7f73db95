-- How many tokens the canonical line of a plain statement has, its line end among them; and which trees have a token.
use Rattle.std.specs.Prelude.{ℕ, ◌+◌, ◌%◌, ◌==◌, ◌||◌, ◌&&◌, not, nat_lt, Bool, true, false, List, [], ◌∷◌, if◌then◌else◌, Option, Some, None}
use Rattle.rob_index.specs.Statements.{Numeral, Signed, Bounds, between, Plain, Parts, Factors, Member, Statement, Tree, TreeParts, TreeFactors, uncertain, over, set, budget, variable, adaptive, goal, row}
use Rattle.rob_index.specs.Statements as stated

module _ (limit : ℕ) where
  -- a divisor within the limit, and not 0
  abbrev pub divisor_fits : Option ℕ → Bool
  divisor_fits None = true
  divisor_fits (Some d) = not (nat_lt limit d || d == 0)

  -- digits within the limit, and no divisor 0
  abbrev pub fits : Numeral → Bool
  fits n = not (nat_lt limit n.numerator) && divisor_fits n.divisor

  -- digits, `/` and digits where there is a divisor, unless the number is whole; one that doesn't fit counts as it is
  -- written
  abbrev pub divided : Bool → ℕ → Option ℕ → ℕ
  divided fit n None = 1
  divided fit n (Some d) = if fit && (n % d == 0) then 1 else 3

  -- the tokens of a number
  abbrev pub number_tokens : Numeral → ℕ
  number_tokens n = divided (fits n) n.numerator n.divisor

  -- a `-`, unless the number is 0; before one that doesn't fit wherever it is written
  abbrev pub minus_tokens : Signed → ℕ
  minus_tokens s = if s.minus && not (fits s.number && (s.number.numerator == 0)) then 1 else 0

  -- the tokens of a number with its sign
  abbrev pub signed_tokens : Signed → ℕ
  signed_tokens s = minus_tokens s + number_tokens s.number

  -- `in [a, b]` has four tokens beside its numbers, `>= a` and `<= b` one; no bounds have none
  abbrev pub bounds_tokens : Option Bounds → ℕ
  bounds_tokens None = 0
  bounds_tokens (Some (between a b)) = 4 + (signed_tokens a + signed_tokens b)
  bounds_tokens (Some (stated.at_least a)) = 1 + signed_tokens a
  bounds_tokens (Some (stated.at_most b)) = 1 + signed_tokens b

  -- a sum, which stands in parentheses inside a sum or a product
  abbrev pub is_sum : Plain → Bool
  is_sum (stated.sum ps) = true
  is_sum _ = false

  -- a sum or a product, which stand in parentheses inside a product
  abbrev pub is_compound : Plain → Bool
  is_compound (stated.sum ps) = true
  is_compound (stated.product ps) = true
  is_compound _ = false

  -- a pair of parentheses, or none
  abbrev pub parens : Bool → ℕ
  parens b = if b then 2 else 0

  -- the sign in front of a part: the first has one only where it is subtracted
  abbrev pub lead : (first minus : Bool) → ℕ
  lead true minus = if minus then 1 else 0
  lead false minus = 1

  -- the `*` in front of a factor
  abbrev pub star : (first : Bool) → ℕ
  star true = 0
  star false = 1

  abbrev mutual
    pub plain_tokens : Plain → ℕ
    plain_tokens (stated.number n) = number_tokens n
    plain_tokens (stated.name k) = 1
    plain_tokens (stated.sum ps) = parts_tokens true ps
    plain_tokens (stated.product ps) = factors_tokens true ps

    pub parts_tokens : Bool → Parts → ℕ
    parts_tokens first stated.no_parts = 0
    parts_tokens first (stated.part minus p ps) =
        lead first minus + (parens (is_sum p) + (plain_tokens p + parts_tokens false ps))

    pub factors_tokens : Bool → Factors → ℕ
    factors_tokens first stated.no_factors = 0
    factors_tokens first (stated.factor p ps) =
        star first + (parens (is_compound p) + (plain_tokens p + factors_tokens false ps))

  -- `over` and a name
  abbrev pub over_tokens : {A : Type 0} → Option A → ℕ
  over_tokens None = 0
  over_tokens (Some o) = 2

  -- name `at` centre `by` deviation
  abbrev pub member_tokens : Member → ℕ
  member_tokens m = 3 + (signed_tokens m.centre + number_tokens m.deviation)

  -- a `,` in front of each but the first
  abbrev pub members_tokens : Bool → List Member → ℕ
  members_tokens first [] = 0
  members_tokens first (m ∷ ms) = star first + (member_tokens m + members_tokens false ms)

  -- a token for each name, and a `,` in front of each but the first
  abbrev pub names_tokens : {A : Type 0} → Bool → List A → ℕ
  names_tokens first [] = 0
  names_tokens first (k ∷ ks) = star first + (1 + names_tokens false ks)

  -- a whole line
  abbrev pub line_tokens : Statement → ℕ
  line_tokens (uncertain n b) = 3 + bounds_tokens b
  line_tokens (over n) = 3
  line_tokens (set l r p o) = 3 + (plain_tokens l + (plain_tokens p + over_tokens o))
  line_tokens (budget n ms o) = 3 + (number_tokens n + (members_tokens true ms + over_tokens o))
  line_tokens (variable n b) = 3 + bounds_tokens b
  line_tokens (adaptive n on b) = 5 + (names_tokens true on + bounds_tokens b)
  line_tokens (goal s e o) = 2 + (plain_tokens e + over_tokens o)
  line_tokens (row n l r p o) = 5 + (plain_tokens l + (plain_tokens p + over_tokens o))

  -- some lines
  abbrev pub lines_tokens : List Statement → ℕ
  lines_tokens [] = 0
  lines_tokens (s ∷ ss) = line_tokens s + lines_tokens ss

-- ---- a tree whose text has a token: its sums and products have a first part or factor, and that is such a tree, as in
-- the tree of an expression
abbrev mutual
  pub IsReal : Tree → Type 0
  IsReal (stated.number n) = Unit {0}
  IsReal (stated.ref r) = Unit {0}
  IsReal (stated.sum ts) = AreRealParts ts
  IsReal (stated.product ts) = AreRealFactors ts
  IsReal (stated.ranged r t) = IsReal t

  pub AreRealParts : TreeParts → Type 0
  AreRealParts stated.no_parts = ⊥
  AreRealParts (stated.part minus t ts) = IsReal t

  pub AreRealFactors : TreeFactors → Type 0
  AreRealFactors stated.no_factors = ⊥
  AreRealFactors (stated.factor t ts) = IsReal t
