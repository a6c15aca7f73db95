-- What is known of a dictionary's fields is known of what contracts see of it, and the other way round.
use Rattle.std.proofs.Common.{◌≡◌, ℕ, ◌+◌, ◌<◌, ◌∙◌, ap, sym, subst, arith, pos, List, length}
use lib.Signed.{◌≤ℤ◌}
use Rattle.rob_simplex.specs.Dictionaries.{Table, positions, spare_column, rows_of, IsFree, FirstNegative}
use Rattle.rob_simplex.specs.Pivots.{CanClear}

-- the number of positions, from the length of the basis
pub positions_told : {t u : Table} {k n : ℕ} → t ≡ u → k ≡ n → n ≡ positions t → k ≡ positions u
positions_told v k n = k ∙ n ∙ ap (λ (w : Table). positions w) v

-- the spare column, from the numbers of columns and positions
pub spare_told : (t : Table) {n m : ℕ} → n ≡ t.columns → m ≡ positions t
    → n + m + 3 ≡ spare_column t.columns (positions t)
spare_told t en em = omega (arith, en, em)

-- the auxiliary column
pub auxiliary_told : (t : Table) {n m : ℕ} → n ≡ t.columns → m ≡ positions t → n + m ≡ t.columns + positions t
auxiliary_told t en em = omega (arith, en, em)

-- the column that comes in, where the number of positions is told
pub first_told : (t : Table) {k column : ℕ} → k ≡ positions t
    → FirstNegative (t.columns + positions t) (rows_of t k) column
    → FirstNegative (t.columns + positions t) (rows_of t (positions t)) column
first_told t {column = j} e h = subst (λ (i : ℕ). FirstNegative (t.columns + positions t) (rows_of t i) j) e h

-- no column comes in
pub none_told : (t : Table) {k : ℕ} → k ≡ positions t
    → ((c : ℕ) → c < t.columns + positions t → pos 0 ≤ℤ rows_of t k c)
    → (c : ℕ) → c < t.columns + positions t → pos 0 ≤ℤ rows_of t (positions t) c
none_told t e h =
    subst (λ (i : ℕ). (c : ℕ) → c < t.columns + positions t → pos 0 ≤ℤ rows_of t i c) e h

-- ---- what a call asks, of the fields
pub position_in : {t u : Table} {i : ℕ} → t ≡ u → i < positions u → i < positions t
position_in {i = i} v l = subst (λ (w : Table). i < positions w) (sym v) l

pub column_free : {t u : Table} {column : ℕ} → t ≡ u → IsFree u.columns u.basis column → IsFree t.columns t.basis column
column_free {column = j} v h = subst (λ (w : Table). IsFree w.columns w.basis j) (sym v) h

pub can_clear : {t u : Table} {count row column : ℕ} → t ≡ u → CanClear count u row column → CanClear count t row column
can_clear {count = k} {row = r} {column = j} v h = subst (λ (w : Table). CanClear k w r j) (sym v) h

-- ---- of a dictionary with the same columns and basis
pub free_as : {n n' : ℕ} {basis basis' : List ℕ} {column : ℕ} → n' ≡ n → basis' ≡ basis → IsFree n basis column
    → IsFree n' basis' column
free_as {n = n} {basis' = basis'} {column = j} en eb h =
    subst (λ (k : ℕ). IsFree k basis' j) (sym en) (subst (λ (b : List ℕ). IsFree n b j) (sym eb) h)

pub auxiliary_free : {n n' : ℕ} {basis basis' : List ℕ} → n' ≡ n → basis' ≡ basis
    → IsFree n basis (n + length basis) → IsFree n' basis' (n' + length basis')
auxiliary_free {n = n} {basis' = basis'} en eb h =
    subst (λ (k : ℕ). IsFree k basis' (k + length basis')) (sym en)
    (subst (λ (b : List ℕ). IsFree n b (n + length b)) (sym eb) h)
