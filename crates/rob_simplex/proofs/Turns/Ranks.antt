-- Rows within the limit, and how far the objective's row is ranked.
use Rattle.std.proofs.Common.{◌≡◌, ℕ, suc, ◌+◌, ◌<◌, ◌≤◌, ◌-◌, ap, ◌∙◌, subst, arith, zero}
use Rattle.std.proofs.lemmas.Bool.Decides.{nat_tests}
use Rattle.std.specs.Prelude.{nat_abs}
use lib.IntN.{ℤ, pos}
use lib.Signed.{◌<ℤ◌}
use Rattle.rob_linear.specs.Vectors.{Vector, Columns}
use Rattle.rob_linear.specs.Programs.{Program, system_of, auxiliary_place, auxiliary_tag, auxiliary_of}
use Rattle.rob_linear.specs.Turns.{key, own_of}
use Rattle.rob_linear.specs.Rank.{rank, rank_limit, IsWithin}
use Rattle.rob_linear.specs.Multiples.{IsClearedBy}
use Rattle.rob_linear.specs.Beside.{without_column}
use Rattle.rob_simplex.specs.Dictionaries.{Table, positions, columns_of, rows_of}
use Rattle.rob_simplex.specs.Phases.{StandsFor, rank_left, turns_left}
use Rattle.rob_linear.proofs.Bases.Turns.{own_high}
use Rattle.rob_simplex.specs.Explicit.{HoldsExplicit, rank_left_explicit, turns_left_explicit}

pub own_last : (P : Program) (basis : Columns) → own_of (system_of P) basis P.m ≡ P.n + P.m
own_last P basis = grind (arith, nat_tests)

-- less columns
pub shorter : (n n' column : ℕ) (low top new : Vector) → n' ≤ n → IsClearedBy n column low top new
    → IsClearedBy n' column low top new
shorter n n' column low top new l c = record {
  divisor = c.divisor;
  p = c.p;
  q = c.q;
  divides = c.divides;
  positive = c.positive;
  entries = λ k kl. c.entries k (omega arith);
  cleared = c.cleared;
}

-- no number of the rows is over the limit
abbrev pub IsSmall : Table → Type 0
IsSmall t = (i c : ℕ) → i ≤ positions t → nat_abs (rows_of t i c) ≤ t.limit

-- so the objective's row is one of those that are ranked
pub within_second : (P : Program) (t : Table) → StandsFor P t → IsSmall t
    → IsWithin (system_of P) t.limit (without_column P (rows_of t) P.m)
within_second P t h small = record {
  keys = λ k l. key_in k;
  positive =
      subst (λ k. pos 0 <ℤ without_column P (rows_of t) P.m k) (own_last P (columns_of t.basis))
      (h.stands.multiples.rows_of P.m (omega arith)).positive;
  objective_in = small P.m (auxiliary_place P (P.n + P.m)) (omega (arith, h.rows_are));
}
  where
    key_in : (k : ℕ) → nat_abs (key (system_of P) (without_column P (rows_of t) P.m) k) ≤ t.limit
    key_in zero = small P.m (auxiliary_place P (suc (P.n + P.m))) (omega (arith, h.rows_are))
    key_in (suc k) = small P.m (auxiliary_place P (P.n + k)) (omega (arith, h.rows_are))

pub left_is : (P : Program) (t : Table) → StandsFor P t
    → turns_left t ≡ rank_limit (system_of P) t.limit - rank (system_of P) t.limit (without_column P (rows_of t) P.m)
left_is P t h = ap (λ n. rank_left n (positions t) t) h.columns_are ∙ ap (λ m. rank_left P.n m t) h.rows_are

pub falls : (top a b : ℕ) → a < b → b < top → top - b < top - a
falls top a b l u = omega arith

-- ---- the objective's row of the explicit form
pub explicit_positive : (P : Program) (t : Table) → HoldsExplicit P t → pos 0 <ℤ rows_of t P.m (suc (P.n + P.m))
explicit_positive P t h =
    subst (λ k. pos 0 <ℤ rows_of t P.m k) (own_high (auxiliary_of P) (columns_of t.basis) P.m (omega arith))
    (h.stands.multiples.rows_of P.m (omega arith)).positive

-- it is one of those that are ranked
pub explicit_within : (P : Program) (t : Table) → HoldsExplicit P t → IsSmall t
    → IsWithin (auxiliary_of P) t.limit (rows_of t P.m)
explicit_within P t h small = record {
  keys = λ k l. key_in k;
  positive = explicit_positive P t h;
  objective_in = small P.m (suc (P.n + P.m)) (omega (arith, h.rows_are));
}
  where
    key_in : (k : ℕ) → nat_abs (key (auxiliary_of P) (rows_of t P.m) k) ≤ t.limit
    key_in zero = small P.m (suc (suc (P.n + P.m))) (omega (arith, h.rows_are))
    key_in (suc k) = small P.m (auxiliary_tag P k) (omega (arith, h.rows_are))

pub explicit_left_is : (P : Program) (t : Table) → HoldsExplicit P t
    → turns_left_explicit t ≡ rank_limit (auxiliary_of P) t.limit - rank (auxiliary_of P) t.limit (rows_of t P.m)
explicit_left_is P t h =
    ap (λ n. rank_left_explicit n (positions t) t) h.columns_are ∙ ap (λ m. rank_left_explicit P.n m t) h.rows_are
