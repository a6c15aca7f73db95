-- Two programs with the same numbers, up to their sizes: they have the same bases, rows and paths.
use Rattle.std.specs.Prelude.{◌≡◌, ℕ, ◌<◌}
use Rattle.rob_linear.specs.Programs.{Program}

-- the programs have the same rows, right sides and costs
pub record AreSame (P Q : Program) : Type 0 where
  pub height : P.m ≡ Q.m
  pub width : P.n ≡ Q.n
  pub rows : (t k : ℕ) → t < P.m → k < P.n → P.a t k ≡ Q.a t k
  pub rights : (t : ℕ) → t < P.m → P.b t ≡ Q.b t
  pub costs : (k : ℕ) → k < P.n → P.c k ≡ Q.c k
