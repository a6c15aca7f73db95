-- How large the numbers in the rows of a basis can be, by the size of the program's numbers.
-- Siegel's lemma in its simplest form: Hindry, Silverman, Diophantine Geometry (2000), lemma D.4.1.
use Rattle.std.specs.Prelude.{◌≡◌, ◌≢◌, ℕ, zero, suc, ◌*◌, ◌^◌, ◌<◌, ◌≤◌, nat_lt, cond, pos, Option, Some, None}
use Rattle.std.specs.Int.RustNames.{unsigned_abs}
use Rattle.rob_linear.specs.Vectors.{Matrix, Vector, dot}
use Rattle.rob_linear.specs.Systems.{System, right}
use Rattle.rob_linear.specs.Programs.{Program}

-- f takes one value at two of the first p numbers
abbrev pub TakesTwice : ℕ → (ℕ → ℕ) → Type 0
TakesTwice p f = (i : ℕ) × (j : ℕ) × (i < p) × (j < p) × (i ≢ j) × (f i ≡ f j)

-- the first n entries are at most h in size
abbrev pub IsWithin : ℕ → ℕ → Vector → Type 0
IsWithin n h x = (k : ℕ) → k < n → unsigned_abs (x k) ≤ h

-- n equations without right sides in n + 1 unknowns have a solution that isn't 0, with entries at most h in size
pub record HasSmallSolution (n h : ℕ) (a : Matrix) : Type 0 where
  pub x : Vector
  pub place : ℕ
  pub inside : place < suc n
  pub nonzero : x place ≢ pos 0
  pub solves : (t : ℕ) → t < n → dot (suc n) (a t) x ≡ pos 0
  pub small : IsWithin (suc n) h x

-- the numbers of the starting rows, right sides included, are at most a in size
abbrev pub StartsWithin : ℕ → System → Type 0
StartsWithin a S = (t k : ℕ) → t ≤ S.m → k ≤ right S → unsigned_abs (S.start t k) ≤ a

-- the program's numbers are at most a in size
pub record IsOfSize (a : ℕ) (P : Program) : Type 0 where
  pub left : (i j : ℕ) → i < P.m → j < P.n → unsigned_abs (P.a i j) ≤ a
  pub right : (i : ℕ) → i < P.m → unsigned_abs (P.b i) ≤ a
  pub cost : (j : ℕ) → j < P.n → unsigned_abs (P.c j) ≤ a

-- what no entry of a row of a basis exceeds, with m rows and numbers of size a
abbrev pub row_bound : ℕ → ℕ → ℕ
row_bound m a = (suc m * a) ^ suc m

-- no row of the program can be wide: the bound for its numbers is at most the limit
pub record IsNarrow (limit : ℕ) (P : Program) : Type 0 where
  pub size : ℕ
  pub positive : 0 < size
  pub sized : IsOfSize size P
  pub bound : row_bound P.m size ≤ limit

-- product times k more factors, or nothing as soon as that is over the limit
abbrev pub power_within : ℕ → ℕ → ℕ → ℕ → Option ℕ
power_within limit factor zero product = Some product
power_within limit factor (suc k) product =
    cond (nat_lt limit (product * factor)) None (power_within limit factor k (product * factor))

-- the bound, or nothing where it is over the limit
abbrev pub bound_within : ℕ → ℕ → ℕ → Option ℕ
bound_within limit m a = power_within limit (suc m * a) (suc m) 1
