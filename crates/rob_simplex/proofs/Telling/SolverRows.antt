-- The rows that a solver shows are its dictionary's, in lowest terms: the same quotients, and the rows of a basis.
use Rattle.std.proofs.Common.{◌≡◌, ℕ, suc, ◌+◌, ◌<◌, ◌≤◌, arith}
use lib.IntN.{pos, neg_ℤ, nat_abs}
use lib.Signed.{◌<ℤ◌}
use Rattle.rob_algebra.specs.Fraction.{of_pair}
use Rattle.rob_linear.specs.Vectors.{Matrix, Vector}
use Rattle.rob_linear.specs.Systems.{IsPrimitive}
use Rattle.rob_linear.specs.Programs.{Program, system_of, auxiliary_place}
use Rattle.rob_linear.specs.Turns.{own_of, StandsWith}
use Rattle.rob_linear.specs.Multiples.{AreParallel, HasMultipleRows, StandsMultiple, IsParallel}
use Rattle.rob_linear.specs.Beside.{without_column}
use Rattle.rob_linear.proofs.RowForms.Multiples.{parallel_positive, multiple_parallel, multiples_in, multiples_basis, order_parallel}
use Rattle.rob_linear.proofs.BasisPaths.Phases.{place_low, place_high}
use Rattle.rob_linear.proofs.Bases.Solutions.{tags_in}
use Rattle.rob_linear.proofs.BasisPaths.Starts.{system_tagged}
use Rattle.rob_simplex.specs.Dictionaries.{rows_of, columns_of, sized}
use Rattle.rob_simplex.specs.Solvers.{Solver, positions, sized_as, entries}
use Rattle.rob_simplex.proofs.Rows.LowestRows.{lowest_parallel, lowest_primitive, parallel_over, parallel_minus_over}

-- ---- quotients of a row that is positive in a column
module _ (s : Solver) (i own : ℕ) (own_in : own < suc (suc (s.columns + positions s)))
    (positive : pos 0 <ℤ rows_of s.dictionary i (auxiliary_place (sized_as s) own)) where
  shown : IsParallel (suc (suc (s.columns + positions s))) (without_column (sized_as s) (rows_of s.dictionary) i)
      (entries s i)
  shown =
      lowest_parallel (suc (suc (s.columns + positions s))) (without_column (sized_as s) (rows_of s.dictionary) i) own
      own_in positive

  shown_positive : pos 0 <ℤ entries s i own
  shown_positive =
      parallel_positive (suc (suc (s.columns + positions s))) (without_column (sized_as s) (rows_of s.dictionary) i)
      (entries s i) own shown own_in positive

  pub over_same : (k : ℕ) → k < suc (suc (s.columns + positions s))
      → of_pair (rows_of s.dictionary i (auxiliary_place (sized_as s) k))
      (nat_abs (rows_of s.dictionary i (auxiliary_place (sized_as s) own))) ≡ of_pair (entries s i k)
      (nat_abs (entries s i own))
  over_same k l =
      parallel_over (suc (suc (s.columns + positions s))) (without_column (sized_as s) (rows_of s.dictionary) i)
      (entries s i) k own shown l own_in positive shown_positive

  pub minus_over_same : (k : ℕ) → k < suc (suc (s.columns + positions s))
      → of_pair (neg_ℤ (rows_of s.dictionary i (auxiliary_place (sized_as s) k)))
      (nat_abs (rows_of s.dictionary i (auxiliary_place (sized_as s) own))) ≡ of_pair (neg_ℤ (entries s i k))
      (nat_abs (entries s i own))
  minus_over_same k l =
      parallel_minus_over (suc (suc (s.columns + positions s))) (without_column (sized_as s) (rows_of s.dictionary) i)
      (entries s i) k own shown l own_in positive shown_positive

-- ---- the places of columns
pub low_place : (s : Solver) (k : ℕ) → k < s.columns + positions s → auxiliary_place (sized_as s) k ≡ k
low_place s k l = place_low (sized_as s) k l

pub high_place : (s : Solver) (k : ℕ) → s.columns + positions s ≤ k → auxiliary_place (sized_as s) k ≡ suc k
high_place s k l = place_high (sized_as s) k l

-- ---- the rows of a basis
module _ (s : Solver) (a : Matrix) (b c : Vector)
    (h : StandsMultiple (system_of (sized s.columns (positions s) a b c)) (columns_of s.basis)
    (without_column (sized s.columns (positions s) a b c) (rows_of s.dictionary))) where
  abbrev P : Program
  P = sized s.columns (positions s) a b c

  own_low : (i : ℕ) → i ≤ positions s
      → own_of (system_of (sized s.columns (positions s) a b c)) (columns_of s.basis) i < suc
      (suc (s.columns + positions s))
  own_low i l =
      let e =
      multiples_in (system_of (sized s.columns (positions s) a b c))
      (own_of (system_of (sized s.columns (positions s) a b c)) (columns_of s.basis))
      (without_column (sized s.columns (positions s) a b c) (rows_of s.dictionary)) h.multiples i l in
      omega arith

  own_above : (i : ℕ) → i ≤ positions s
      → pos 0 <ℤ without_column (sized s.columns (positions s) a b c) (rows_of s.dictionary) i
      (own_of (system_of (sized s.columns (positions s) a b c)) (columns_of s.basis) i)
  own_above i l = (h.multiples.rows_of i l).positive

  pub shown_parallel : AreParallel (system_of (sized s.columns (positions s) a b c))
      (without_column (sized s.columns (positions s) a b c) (rows_of s.dictionary)) (entries s)
  shown_parallel i l =
      lowest_parallel (suc (suc (s.columns + positions s)))
      (without_column (sized s.columns (positions s) a b c) (rows_of s.dictionary) i)
      (own_of (system_of (sized s.columns (positions s) a b c)) (columns_of s.basis) i) (own_low i l) (own_above i l)

  shown_primitive : (i : ℕ) → i ≤ positions s → IsPrimitive (suc (suc (s.columns + positions s))) (entries s i)
  shown_primitive i l =
      lowest_primitive (suc (suc (s.columns + positions s)))
      (without_column (sized s.columns (positions s) a b c) (rows_of s.dictionary) i)
      (own_of (system_of (sized s.columns (positions s) a b c)) (columns_of s.basis) i) (own_low i l) (own_above i l)

  shown_multiples : HasMultipleRows (system_of (sized s.columns (positions s) a b c))
      (own_of (system_of (sized s.columns (positions s) a b c)) (columns_of s.basis)) (entries s)
  shown_multiples = record {
    inside = h.multiples.inside;
    last = h.multiples.last;
    rows_of = λ i l.
        multiple_parallel (system_of (sized s.columns (positions s) a b c))
        (own_of (system_of (sized s.columns (positions s) a b c)) (columns_of s.basis)) i
        (without_column (sized s.columns (positions s) a b c) (rows_of s.dictionary) i) (entries s i)
        (tags_in (system_of (sized s.columns (positions s) a b c))
        (system_tagged (sized s.columns (positions s) a b c)))
        (multiples_in (system_of (sized s.columns (positions s) a b c))
        (own_of (system_of (sized s.columns (positions s) a b c)) (columns_of s.basis))
        (without_column (sized s.columns (positions s) a b c) (rows_of s.dictionary)) h.multiples)
        l (shown_parallel i l) (h.multiples.rows_of i l);
  }

  pub shown_stands : StandsWith (system_of (sized s.columns (positions s) a b c)) (columns_of s.basis) (entries s)
  shown_stands = record {
    is_basis =
        multiples_basis (system_of (sized s.columns (positions s) a b c))
        (own_of (system_of (sized s.columns (positions s) a b c)) (columns_of s.basis)) (entries s) shown_multiples
        shown_primitive;
    feasible =
        order_parallel (system_of (sized s.columns (positions s) a b c))
        (without_column (sized s.columns (positions s) a b c) (rows_of s.dictionary)) (entries s)
        (system_tagged (sized s.columns (positions s) a b c)) shown_parallel h.feasible;
  }
