-- Rows of whole numbers and their primitive parts: what a fraction-free pivot computes.
-- Content and primitive part: Knuth, The Art of Computer Programming, volume 2, section 4.6.1, there of polynomials.
-- Pivots on whole rows: Edmonds, Systems of distinct representatives and linear algebra (1967).
use Rattle.std.specs.Prelude.{◌≡◌, ℕ, ◌<◌, ◌≤◌, ℤ, pos, ◌-ℤ◌, ◌*ℤ◌, nat_abs, List, [], ◌∷◌, length, map, All, Any, fold}
use Rattle.rob_algebra.specs.Gcd.{gcd}

-- p times the first row less q times the second, entry by entry
abbrev pub combination : ℤ → List ℤ → ℤ → List ℤ → List ℤ
combination p [] q low = []
combination p (a ∷ top) q [] = []
combination p (a ∷ top) q (b ∷ low) = ((p *ℤ a) -ℤ (q *ℤ b)) ∷ combination p top q low

-- the greatest common divisor of all entries, 0 where all are 0
abbrev pub content : List ℤ → ℕ
content row = fold (λ common entry. gcd common (nat_abs entry)) 0 row

-- the greatest common divisor of a number and all entries
abbrev pub content_with : ℕ → List ℤ → ℕ
content_with number row = fold (λ common entry. gcd common (nat_abs entry)) number row

-- a number times each entry
abbrev pub scaled : ℕ → List ℤ → List ℤ
scaled number row = map (λ entry. pos number *ℤ entry) row

-- row is whole in lowest terms: whole over a positive divisor of all its entries, with nothing but 1 left to divide by
pub record IsPrimitivePart (row whole : List ℤ) : Type 0 where
  pub divisor : ℕ
  pub positive : 0 < divisor
  pub same_direction : map (λ entry. pos divisor *ℤ entry) row ≡ whole
  pub lowest_terms : content row ≤ 1

-- no entry is over the limit in size
abbrev pub IsWithin : ℕ → List ℤ → Type 0
IsWithin limit row = All (λ entry. nat_abs entry ≤ limit) row

-- two rows of so many entries, none of them over the limit in size
pub record AreRowsWithin (limit width : ℕ) (top low : List ℤ) : Type 0 where
  pub top_length : length top ≡ width
  pub low_length : length low ≡ width
  pub top_within : IsWithin limit top
  pub low_within : IsWithin limit low

-- some entry is over the limit in size
abbrev pub HasWideEntry : ℕ → List ℤ → Type 0
HasWideEntry limit row = Any (λ entry. limit < nat_abs entry) row

-- the primitive part has an entry over the limit
abbrev pub HasWidePart : ℕ → List ℤ → Type 0
HasWidePart limit whole = (row : List ℤ) × IsPrimitivePart row whole × HasWideEntry limit row
