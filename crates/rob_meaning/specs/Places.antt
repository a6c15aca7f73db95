-- Lists by place: what a list of fractions lacks counts as 0.
use Rattle.std.specs.Prelude.{ℕ, zero, suc, pos, List, [], ◌∷◌}
use Rattle.rob_algebra.specs.Fraction.{Fraction, of_int, ◌+ℚ◌, ◌*ℚ◌}
pub use Rattle.rob_algebra.specs.Items.{Each}

-- the fraction 0
abbrev pub 0ℚ : Fraction
0ℚ = of_int (pos 0)

-- the fraction 1
abbrev pub 1ℚ : Fraction
1ℚ = of_int (pos 1)

-- the number at a place, counted from 0
abbrev pub at : List Fraction → ℕ → Fraction
at [] k = 0ℚ
at (x ∷ xs) zero = x
at (x ∷ xs) (suc k) = at xs k

-- each item has the property with its number, the first item's being `k`
abbrev pub EachFrom : {A : Type 0} → ℕ → (ℕ → A → Type 0) → List A → Type 0
EachFrom k P [] = Unit {0}
EachFrom k P (x ∷ xs) = P k x × EachFrom (suc k) P xs

-- each item stands in the relation to all behind it
abbrev pub InOrder : {A : Type 0} → (A → A → Type 0) → List A → Type 0
InOrder R [] = Unit {0}
InOrder R (x ∷ xs) = Each (R x) xs × InOrder R xs

-- the list of f 0, f 1 .. f (n - 1)
abbrev pub tabulate : {A : Type 0} → ℕ → (ℕ → A) → List A
tabulate zero f = []
tabulate (suc n) f = f zero ∷ tabulate n (λ k. f (suc k))

-- the sum over the places k of f k times the number there
abbrev pub along : (ℕ → Fraction) → List Fraction → Fraction
along f [] = 0ℚ
along f (x ∷ xs) = f zero *ℚ x +ℚ along (λ k. f (suc k)) xs
