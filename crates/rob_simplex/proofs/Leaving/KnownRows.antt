-- Rows that are known not to be lexicographically negative, through a pivot and an exchange of two rows.
use Rattle.std.proofs.Common.{◌≡◌, ◌≢◌, ℕ, suc, ◌+◌, ◌<◌, ◌≤◌, sym, ap, ◌∙◌, subst, arith, Bool, true, false, List, get_or}
use lib.IntN.{pos}
use lib.Signed.{◌<ℤ◌}
use Rattle.rob_linear.specs.Vectors.{Vector}
use Rattle.rob_linear.specs.Turns.{key}
use Rattle.rob_linear.specs.Multiples.{IsParallel}
use Rattle.rob_linear.specs.Beside.{IsLexNegative, exchanged}
use Rattle.rob_linear.proofs.KeptOut.BesidePaths.{exchanged_other}
use Rattle.rob_linear.proofs.KeptOut.BesideTurns.{negative_parallel}
use Rattle.rob_linear.proofs.RowForms.Multiples.{parallel_sym, parallel_trans}
use Rattle.rob_linear.proofs.BasisPaths.TwoPhases.{kept_tagged}
use Rattle.rob_simplex.specs.Dictionaries.{Table, positions, width_of, rows_of, shape, sized, IsPivoted, IsSized}
use Rattle.rob_simplex.specs.LeastRows.{AreKnown, AreSpared}
use Rattle.rob_simplex.proofs.CostChange.CostStages.{cleared_parallel, equal_parallel}

-- ---- marks
-- where one mark is off and another is on, the two stand apart
pub not_off : (known : List Bool) (a i : ℕ) → get_or known a false ≡ false → get_or known i false ≡ true → i ≢ a
not_off known a i off on e =
    let x : get_or known i false ≡ get_or known a false = ap (λ k. get_or known k false) e in
    absurd (cc)

-- two marks go off
pub forgotten : (known one two : List Bool) (q p : ℕ) → get_or one q false ≡ false
    → ((j : ℕ) → j ≢ q → get_or one j false ≡ get_or known j false) → get_or two p false ≡ false
    → ((j : ℕ) → j ≢ p → get_or two j false ≡ get_or one j false) → (i : ℕ) → get_or two i false ≡ true
    → (get_or known i false ≡ true) × (i ≢ q) × (i ≢ p)
forgotten known one two q p off_q same_q off_p same_p i on =
    let ip : i ≢ p = not_off two p i off_p on in
    let one_on : get_or one i false ≡ true = sym (same_p i ip) ∙ on in
    let iq : i ≢ q = not_off one q i off_q one_on in
    (sym (same_q i iq) ∙ one_on, iq, ip)

-- ---- signs
-- a row that is another one up to a factor has its sign
kept_sign : (n m : ℕ) (r s : Vector) → IsParallel (suc (suc (suc (n + m)))) r s
    → ¬ (IsLexNegative (suc m) (key (shape n m) r)) → ¬ (IsLexNegative (suc m) (key (shape n m) s))
kept_sign n m r s par h negative =
    h (negative_parallel (shape n m) s r (kept_tagged (sized n m (λ i j. pos 0) (λ i. pos 0) (λ j. pos 0)))
    (parallel_sym (suc (suc (suc (n + m)))) r s par) negative)

-- the same for other names of the sizes
resized : (n m n' m' : ℕ) (r : Vector) → n' ≡ n → m' ≡ m → ¬ (IsLexNegative (suc m) (key (shape n m) r))
    → ¬ (IsLexNegative (suc m') (key (shape n' m') r))
resized n m n' m' r en em h =
    subst (λ (a : ℕ). ¬ (IsLexNegative (suc m') (key (shape a m') r))) (sym en)
    (subst (λ (b : ℕ). ¬ (IsLexNegative (suc b) (key (shape n b) r))) (sym em) h)

-- ---- rows
-- the columns up to the right side
abbrev span : Table → ℕ
span t = suc (suc (suc (t.columns + positions t)))

-- t1 is t with row q changed, and t2 what a pivot of this row makes of it
pub known_pivoted : (t t1 t2 : Table) (known known' : List Bool) (q column : ℕ) → IsSized t t1 → IsSized t1 t2
    → column < width_of t → pos 0 <ℤ rows_of t1 q column
    → ((i c : ℕ) → i ≤ positions t → i ≢ q → rows_of t1 i c ≡ rows_of t i c) → IsPivoted t1 t2 q column
    → AreKnown t known → AreSpared t q column known known' → AreKnown t2 known'
known_pivoted t t1 t2 known known' q column s1 s2 inside top others p h spared i il on =
    let en : t2.columns ≡ t.columns = s2.columns ∙ s1.columns in
    let em : positions t2 ≡ positions t = s2.positions ∙ s1.positions in
    let n1 : t1.columns ≡ t.columns = s1.columns in
    let m1 : positions t1 ≡ positions t = s1.positions in
    let low : i < positions t = omega arith in
    let s = spared i low on in
    let cleared : IsParallel (span t) (rows_of t1 i) (rows_of t2 i) =
    cleared_parallel (width_of t1) (span t) column (rows_of t1 i) (rows_of t1 q) (rows_of t2 i) (omega arith)
    (omega arith) (others i column (omega arith) s.1 ∙ s.2) top (p.row_other i (omega arith) s.1) in
    resized t.columns (positions t) t2.columns (positions t2) (rows_of t2 i) en em
    (kept_sign t.columns (positions t) (rows_of t i) (rows_of t2 i)
    (parallel_trans (span t) (rows_of t i) (rows_of t1 i) (rows_of t2 i)
    (equal_parallel (span t) (rows_of t i) (rows_of t1 i) (λ k l. others i k (omega arith) s.1)) cleared) (h i low s.0))

-- rows q and p exchanged
pub known_exchanged : (t t' : Table) (known known' : List Bool) (q p : ℕ) → IsSized t t'
    → ((i c : ℕ) → i ≤ positions t → c < width_of t → rows_of t' i c ≡ rows_of t (exchanged q p i) c)
    → ((i : ℕ) → get_or known' i false ≡ true → (get_or known i false ≡ true) × (i ≢ q) × (i ≢ p)) → AreKnown t known
    → AreKnown t' known'
known_exchanged t t' known known' q p z rows marks h i il on =
    let em : positions t' ≡ positions t = z.positions in
    let low : i < positions t = omega arith in
    let s = marks i on in
    let same : exchanged q p i ≡ i = exchanged_other q p i s.1 s.2 in
    resized t.columns (positions t) t'.columns (positions t') (rows_of t' i) z.columns z.positions
    (kept_sign t.columns (positions t) (rows_of t i) (rows_of t' i)
    (equal_parallel (span t) (rows_of t i) (rows_of t' i)
    (λ k l. rows i k (omega arith) (omega arith) ∙ ap (λ j. rows_of t j k) same)) (h i low s.0))
