-- As how many the parentheses that are open on a line count, the innermost first, and how two numbers keep that.
use Rattle.std.specs.Prelude.{◌≡◌, ℕ, zero, suc, ◌+◌, ◌-◌, ◌*◌, ◌/◌, ◌%◌, List, [], ◌∷◌, length, refl}
use Rattle.std.proofs.Common.{arith}

-- as how many they count together
abbrev pub total : List ℕ → ℕ
total [] = 0
total (w ∷ ws) = w + total ws

-- so many weights, the i-th of them 2 where bit i is set and 1 where it isn't
abbrev pub weights_of : ℕ → ℕ → List ℕ
weights_of zero doubled = []
weights_of (suc n) doubled = (1 + doubled % 2) ∷ weights_of n (doubled / 2)

-- the number whose bit i is set where the i-th weight is 2
abbrev pub doubled_of : List ℕ → ℕ
doubled_of [] = 0
doubled_of (w ∷ ws) = (w - 1) + 2 * doubled_of ws

-- there are so many
pub length-weights_of : (n doubled : ℕ) → length (weights_of n doubled) ≡ n
length-weights_of zero doubled = refl
length-weights_of (suc n) doubled = omega (arith, length-weights_of n (doubled / 2))
