-- Programs in whole numbers: maximise c * x with A * x at most b and x at least 0. Points are scaled: z and s stand for
-- z / s. A program's columns are n structural ones, then m slack ones; in the auxiliary form one auxiliary column
-- stands behind these. Chvatal, Linear Programming (1983), chapters 1, 3 (the auxiliary problem) and 5 (duality).
use Rattle.std.specs.Prelude.{◌≡◌, ◌≢◌, ℕ, suc, ◌+◌, ◌<◌, nat_lt, nat_eq, cond, ℤ, pos, negsuc, ◌*ℤ◌, ◌≤ℤ◌, ◌<ℤ◌, neg_ℤ}
use Rattle.rob_linear.specs.Vectors.{Matrix, Vector, sum_to, dot}
use Rattle.rob_linear.specs.Systems.{System, right, IsNonnegative, Feasible, with_objective}

-- m rows a i with right sides b i, and n columns with the cost c
pub record Program : Type 0 where
  pub m : ℕ
  pub n : ℕ
  pub a : Matrix
  pub b : Vector
  pub c : Vector

-- the program with another cost
abbrev pub with_cost : Program → Vector → Program
with_cost P c = record { m = P.m; n = P.n; a = P.a; b = P.b; c = c }

-- x / s is at least 0 and keeps each row
pub record Admits (P : Program) (s : ℤ) (x : Vector) : Type 0 where
  pub scale : pos 0 <ℤ s
  pub nonnegative : (j : ℕ) → j < P.n → pos 0 ≤ℤ x j
  pub rows : (i : ℕ) → i < P.m → dot P.n (P.a i) x ≤ℤ (s *ℤ P.b i)

-- x is a direction along which no row is left
pub record Keeps (P : Program) (x : Vector) : Type 0 where
  pub nonnegative : (j : ℕ) → j < P.n → pos 0 ≤ℤ x j
  pub rows : (i : ℕ) → i < P.m → dot P.n (P.a i) x ≤ℤ pos 0

-- the structural entries of starting row t: those of row t, or minus the cost where t is m
abbrev pub left_of : Program → ℕ → ℕ → ℤ
left_of P t k = cond (nat_lt t P.m) (P.a t k) (neg_ℤ (P.c k))

-- its right side: that of row t, or 0 where t is m
abbrev pub right_of : Program → ℕ → ℤ
right_of P t = cond (nat_lt t P.m) (P.b t) (pos 0)

-- starting row t, with 1 in its own slack column, or in the objective's column where t is m
abbrev pub starting_row : Program → ℕ → ℕ → ℤ
starting_row P t k =
    cond (nat_lt k P.n) (left_of P t k)
    (cond (nat_eq k (P.n + t)) (pos 1) (cond (nat_eq k (suc (P.n + P.m))) (right_of P t) (pos 0)))

-- the program's starting rows
abbrev pub system_of : Program → System
system_of P = record { m = P.m; columns = P.n + P.m; tag = λ t. P.n + t; start = starting_row P }

-- in the auxiliary form: the slack column of row t, or the objective's column, which stands behind the auxiliary one
abbrev pub auxiliary_tag : Program → ℕ → ℕ
auxiliary_tag P t = cond (nat_lt t P.m) (P.n + t) (suc (P.n + P.m))

-- starting row t of the auxiliary form: -1 in the auxiliary column, and the objective is minus that column
abbrev pub auxiliary_row : Program → ℕ → ℕ → ℤ
auxiliary_row P t k =
    cond (nat_lt k P.n) (cond (nat_lt t P.m) (P.a t k) (pos 0))
    (cond (nat_eq k (P.n + P.m)) (cond (nat_lt t P.m) (negsuc 0) (pos 1))
    (cond (nat_eq k (auxiliary_tag P t)) (pos 1)
    (cond (nat_eq k (suc (suc (P.n + P.m)))) (right_of P t) (pos 0))))

-- the starting rows of the auxiliary form
abbrev pub auxiliary_of : Program → System
auxiliary_of P = record { m = P.m; columns = suc (P.n + P.m); tag = auxiliary_tag P; start = auxiliary_row P }

-- where column k of the program's rows stands in the auxiliary form, which has one column more behind the slack columns
abbrev pub auxiliary_place : Program → ℕ → ℕ
auxiliary_place P k = cond (nat_lt k (P.n + P.m)) k (suc k)

-- the auxiliary form with the program's own cost: row m is that of c, kept beside the row of the auxiliary cost
abbrev pub kept_row : Program → ℕ → ℕ → ℤ
kept_row P t k =
    cond (nat_lt t P.m) (auxiliary_row P t k)
    (cond (nat_lt k P.n) (neg_ℤ (P.c k)) (cond (nat_eq k (suc (P.n + P.m))) (pos 1) (pos 0)))

-- its starting rows
abbrev pub kept_of : Program → System
kept_of P = record { m = P.m; columns = suc (P.n + P.m); tag = auxiliary_tag P; start = kept_row P }

-- the rows without the auxiliary column, with the kept row of the cost as the objective's
abbrev pub without_auxiliary : Program → Matrix → Vector → Matrix
without_auxiliary P rows kept i k = with_objective P.m rows kept i (auxiliary_place P k)

-- the auxiliary form ends with the auxiliary column positive: its greatest value, minus that column, is below 0
pub record EndsInfeasible (P : Program) (rows : Matrix) : Type 0 where
  pub feasible : Feasible (auxiliary_of P) rows
  pub no_improving : IsNonnegative (suc (P.n + P.m)) (rows P.m)
  pub below : rows P.m (right (auxiliary_of P)) <ℤ pos 0

-- weights that show that nothing is admitted: they sum the rows to one that is at least 0 with a right side below 0
pub record ShowsEmpty (P : Program) (w : Vector) : Type 0 where
  pub nonnegative : (i : ℕ) → i < P.m → pos 0 ≤ℤ w i
  pub columns : (j : ℕ) → j < P.n → pos 0 ≤ℤ sum_to P.m (λ i. w i *ℤ P.a i j)
  pub below : dot P.m w P.b <ℤ pos 0

-- the program falls into blocks: each row and each column has a label, and a row is 0 in the columns of other labels
abbrev pub FallsIntoBlocks : Program → (ℕ → ℕ) → (ℕ → ℕ) → Type 0
FallsIntoBlocks P of_row of_column = (i j : ℕ) → i < P.m → j < P.n → of_row i ≢ of_column j → P.a i j ≡ pos 0

-- the weights lie in one block: some row has a weight other than 0, and each row that has one has the label of that row
abbrev pub LieInOneBlock : Program → (ℕ → ℕ) → Vector → Type 0
LieInOneBlock P of_row w =
    (r : ℕ) × (r < P.m) × (w r ≢ pos 0) × ((i : ℕ) → i < P.m → w i ≢ pos 0 → of_row i ≡ of_row r)

-- dual values y / d: in each column they sum the rows to at least the cost
pub record IsDual (P : Program) (d : ℤ) (y : Vector) : Type 0 where
  pub scale : pos 0 <ℤ d
  pub nonnegative : (i : ℕ) → i < P.m → pos 0 ≤ℤ y i
  pub columns : (j : ℕ) → j < P.n → (d *ℤ P.c j) ≤ℤ sum_to P.m (λ i. y i *ℤ P.a i j)

-- z / s is admitted, and no admitted x / t has a greater value
pub record IsBest (P : Program) (s : ℤ) (z : Vector) : Type 0 where
  pub admitted : Admits P s z
  pub best : (t : ℤ) (x : Vector) → Admits P t x → (s *ℤ dot P.n P.c x) ≤ℤ (t *ℤ dot P.n P.c z)

-- for each number v / d some admitted point has at least that value
abbrev pub HasNoGreatest : Program → Type 0
HasNoGreatest P = (v d : ℤ) → pos 0 <ℤ d → (s : ℤ) × (x : Vector) × Admits P s x × ((s *ℤ v) ≤ℤ (d *ℤ dot P.n P.c x))
