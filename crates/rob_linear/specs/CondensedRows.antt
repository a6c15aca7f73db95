-- Rows that keep only the entries of the columns that are not basic, and each its own entry: a dictionary without its
-- zeros and without a column for each basic column. A map of columns tells where each entry stands.
use Rattle.std.specs.Prelude.{◌≡◌, ◌≢◌, ℕ, suc, ◌+◌, ◌-◌, ◌<◌, ◌≤◌, nat_lt, nat_eq, cond, ℤ, pos, ◌-ℤ◌, ◌*ℤ◌, ◌<ℤ◌, neg_ℤ}
use Rattle.rob_linear.specs.Vectors.{Columns, Matrix, Vector}
use Rattle.rob_linear.specs.Programs.{Program}

-- column c stands at place `at c` where that is before w, and is basic at
-- position `at c` less w otherwise: column c's entry in row i
abbrev pub entry_of : ℕ → Columns → Matrix → Vector → ℕ → ℕ → ℤ
entry_of w at table own i c = cond (nat_lt (at c) w) (table i (at c)) (cond (nat_eq (at c) (w + i)) (own i) (pos 0))

-- `near` has the column at each of the w places and `basis` that of each
-- position up to m; `at` is the way back, of n columns
pub record IsPlaced (m w n : ℕ) (at near basis : Columns) : Type 0 where
  pub near_in : (k : ℕ) → k < w → near k < n
  pub near_at : (k : ℕ) → k < w → at (near k) ≡ k
  pub basic_in : (i : ℕ) → i ≤ m → basis i < n
  pub basic_at : (i : ℕ) → i ≤ m → at (basis i) ≡ w + i
  pub near_column : (c : ℕ) → c < n → at c < w → near (at c) ≡ c
  pub basic_column : (c : ℕ) → c < n → w ≤ at c → (i : ℕ) × (i ≤ m) × (at c ≡ w + i) × (basis i ≡ c)

-- the maps after column e has come to position r, and the column that stood there to the place of e
pub record IsReplaced (m w n r e : ℕ) (at near basis at' near' basis' : Columns) : Type 0 where
  pub row_in : r ≤ m
  pub col_in : e < n
  pub free : at e < w
  pub at_in : at' e ≡ w + r
  pub at_out : at' (basis r) ≡ at e
  pub at_other : (c : ℕ) → c ≢ e → c ≢ basis r → at' c ≡ at c
  pub near_out : near' (at e) ≡ basis r
  pub near_other : (k : ℕ) → k ≢ at e → near' k ≡ near k
  pub basis_in : basis' r ≡ e
  pub basis_other : (i : ℕ) → i ≢ r → basis' i ≡ basis i

-- row r keeps its numbers: its own entry and the one at the place of e change their places
pub record IsTurnedRow (w r place : ℕ) (table table' : Matrix) (own own' : Vector) : Type 0 where
  pub own_in : own' r ≡ table r place
  pub own_out : table' r place ≡ own r
  pub others : (k : ℕ) → k < w → k ≢ place → table' r k ≡ table r k

-- row i is cleared by row r, place by place
pub record IsClearedRow (w r place i : ℕ) (table table' : Matrix) (own own' : Vector) : Type 0 where
  pub divisor : ℤ
  pub p : ℤ
  pub q : ℤ
  pub divides : pos 0 <ℤ divisor
  pub positive : pos 0 <ℤ p
  pub clears : p *ℤ table i place ≡ q *ℤ table r place
  pub own_times : divisor *ℤ own' i ≡ p *ℤ own i
  pub at_place : divisor *ℤ table' i place ≡ neg_ℤ (q *ℤ own r)
  pub others : (k : ℕ) → k < w → k ≢ place → divisor *ℤ table' i k ≡ (p *ℤ table i k) -ℤ (q *ℤ table r k)

-- ---- at the start of a program: n places of the structural columns, one of
-- the auxiliary column, and one of the right side
abbrev pub start_places : Program → ℕ
start_places P = suc (suc P.n)

-- the slack columns and the objective's are basic
abbrev pub start_at : Program → ℕ → ℕ
start_at P c =
    cond (nat_lt c P.n) c (cond (nat_lt c (P.n + P.m)) (start_places P + (c - P.n))
    (cond (nat_eq c (P.n + P.m)) P.n (cond (nat_eq c (suc (P.n + P.m))) (start_places P + P.m) (suc P.n))))

-- which column stands at a place of the starting table: the program's own columns, the auxiliary one, the right side
abbrev pub start_near : Program → ℕ → ℕ
start_near P k = cond (nat_lt k P.n) k (cond (nat_eq k P.n) (P.n + P.m) (suc (suc (P.n + P.m))))
