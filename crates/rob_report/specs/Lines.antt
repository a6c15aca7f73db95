-- What the lines of all texts are made of.
use Rattle.std.specs.Prelude.{ℤ, pos, negsuc, zero, suc, List, [], ◌∷◌, ◌++◌, ℕ, flat_map, zip}

-- a line of these bytes, with its line end
abbrev pub line : List ℕ → List ℕ
line bytes = bytes ++ 10 ∷ []

-- a text, or none where the number is 0
abbrev pub unless_zero : ℤ → List ℕ → List ℕ
unless_zero (pos zero) text = []
unless_zero (pos (suc n)) text = text
unless_zero (negsuc n) text = text

-- a piece for each pair of two lists, up to the end of the shorter one
abbrev pub for_pairs : {A B : Type 0} → (A → B → List ℕ) → List A → List B → List ℕ
for_pairs piece xs ys = flat_map (λ pair. piece pair.0 pair.1) (zip xs ys)
