-- The entries of a list.
use Rattle.std.proofs.Common.{◌≡◌, ℕ, zero, suc, ◌≤◌, arith, refl, List, [], ◌∷◌, length}
use lib.IntN.{ℤ, pos}
use Rattle.rob_linear.specs.Vectors.{at}

pub at-past : (r : List ℤ) (k : ℕ) → length r ≤ k → at r k ≡ pos 0
at-past [] k l = refl
at-past (z ∷ r) zero l = absurd (omega arith)
at-past (z ∷ r) (suc k) l = at-past r k (omega arith)
