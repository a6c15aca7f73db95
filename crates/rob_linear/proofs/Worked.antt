-- Two programs worked by hand, from the definitions.
use Rattle.std.proofs.Common.{◌≡◌, ◌≢◌, ℕ, zero, suc, ◌+◌, ◌<◌, ◌≤◌, refl, arith, inl, inr, cond, eqb, [], ◌∷◌}
use Rattle.std.proofs.lemmas.Int.{ints}
use lib.IntN.{ℤ, pos, negsuc, ◌-ℤ◌, ◌*ℤ◌}
use lib.Signed.{◌<ℤ◌, ◌≤ℤ◌}
use Rattle.rob_linear.specs.Vectors.{at}
use Rattle.rob_linear.specs.Systems.{IsBasis, IsCombined}
use Rattle.rob_linear.specs.Programs.{Program, starting_row, system_of, auxiliary_tag, auxiliary_row, auxiliary_of}
use Rattle.rob_linear.specs.Turns.{ComesBefore, IsPivot, own_of, TurnsTo}
use Rattle.rob_linear.specs.Paths.{StartsAtSlacks, StartsAtAuxiliary, Last}
use Rattle.rob_linear.proofs.Bases.Solutions.{tags_in, primitive_by_one}
use Rattle.rob_linear.proofs.Bases.Pivots.{basis_pivotable, pivot_is_basis}
use Rattle.rob_linear.proofs.BasisPaths.Starts.{system_tagged, auxiliary_tagged, negated_start, negated_pivotable}
use Rattle.rob_linear.proofs.Bases.Choices.{before_not_self}
use Rattle.rob_linear.proofs.Bases.Turns.{turn_exchange}
use Rattle.rob_linear.proofs.BasisPaths.TwoPhases.{slacks_stand, stands_without, start_exchange}
use Rattle.rob_linear.proofs.BasisPaths.LastBases.{optimum_is_last, first_phase_is_last}

-- ---- maximise 3 a; a <= 4. Columns: a, its slack, the objective, the right side.
abbrev selling : Program
selling = record { m = 1; n = 1; a = λ i j. pos 1; b = λ i. pos 4; c = λ j. pos 3 }

selling_start : StartsAtSlacks selling (λ i. 1)
selling_start = record { nonnegative = λ i l. omega (arith, ints); slacks = λ i l. omega arith }

-- a enters, since its entry is -3, and the only row leaves
selling_turn : TurnsTo (system_of selling) (λ i. 1) (λ i. 0)
selling_turn = record {
  rows = starting_row selling;
  position = 0;
  column = 0;
  is_basis = (slacks_stand selling (λ i. 1) selling_start).is_basis;
  enters = record { inside = omega arith; improving = record { lt = tt }; first = λ k l. absurd (omega arith) };
  leaves = record { inside = omega arith; positive = record { lt = tt }; first = alone };
  exchanged = λ i l. placed i l;
}
  where
    alone : (i : ℕ) → i < 1 → pos 0 <ℤ starting_row selling i 0
        → ¬ (ComesBefore (system_of selling) (starting_row selling i) (starting_row selling i 0)
        (starting_row selling 0) (starting_row selling 0 0))
    alone zero l p = before_not_self (system_of selling) (starting_row selling 0) (starting_row selling 0 0)
    alone (suc i) l p = absurd (omega arith)

    placed : (i : ℕ) → i < 1 → zero ≡ cond (eqb i zero) zero (suc zero)
    placed zero l = refl
    placed (suc i) l = absurd (omega arith)

-- (1, 1, 0, 4) stays, and (-3, 0, 1, 0) becomes (0, 3, 1, 12)
selling_rows : ℕ → ℕ → ℤ
selling_rows zero = at (pos 1 ∷ pos 1 ∷ pos 0 ∷ pos 4 ∷ [])
selling_rows (suc i) = at (pos 0 ∷ pos 3 ∷ pos 1 ∷ pos 12 ∷ [])

selling_pivot : IsPivot (system_of selling) (own_of (system_of selling) (λ i. 1)) (own_of (system_of selling) (λ i. 0))
    (starting_row selling) selling_rows 0 0
unfolding selling_rows selling_turn
selling_pivot =
    record {
      exchange = turn_exchange (system_of selling) (λ i. 1) (λ i. 0) selling_turn;
      row_at = stays;
      row_other = becomes;
    }
  where
    stays : (k : ℕ) → k ≤ 3 → selling_rows 0 k ≡ starting_row selling 0 k
    stays zero l = refl
    stays (suc zero) l = refl
    stays (suc (suc zero)) l = refl
    stays (suc (suc (suc zero))) l = refl
    stays (suc (suc (suc (suc k)))) l = absurd (omega arith)

    entries : (k : ℕ) → k < 4 → pos 1 *ℤ selling_rows 1 k
        ≡ (pos 1 *ℤ starting_row selling 1 k) -ℤ (negsuc 2 *ℤ starting_row selling 0 k)
    entries zero l = refl
    entries (suc zero) l = refl
    entries (suc (suc zero)) l = refl
    entries (suc (suc (suc zero))) l = refl
    entries (suc (suc (suc (suc k)))) l = absurd (omega arith)

    becomes : (i : ℕ) → i ≤ 1 → i ≢ 0
        → IsCombined 4 (starting_row selling 0 0) (starting_row selling i) (starting_row selling i 0)
        (starting_row selling 0) (selling_rows i)
    becomes zero l d = absurd (d refl)
    becomes (suc zero) l d =
        record {
          divisor = pos 1;
          positive = record {
            lt = tt;
          };
          entries = entries;
          primitive = primitive_by_one 4 2 (selling_rows 1) (omega arith) refl;
        }
    becomes (suc (suc i)) l d = absurd (omega arith)

selling_basis : IsBasis (system_of selling) (own_of (system_of selling) (λ i. 0)) selling_rows
selling_basis =
    pivot_is_basis (system_of selling) (own_of (system_of selling) (λ i. 1)) (own_of (system_of selling) (λ i. 0))
    (starting_row selling) selling_rows 0 0 (tags_in (system_of selling) (system_tagged selling))
    (basis_pivotable (system_of selling) (own_of (system_of selling) (λ i. 1)) (starting_row selling) 0 (omega arith)
    (slacks_stand selling (λ i. 1) selling_start).is_basis) selling_pivot

-- the path ends with a in the basis
selling_last : Last selling (λ i. 0)
unfolding selling_rows
selling_last =
    optimum_is_last selling (λ i. 0) (
      1,
      (
        (λ i. 1),
        inl selling_start,
        inr (
          stands_without selling (λ i. 1) (starting_row selling) (slacks_stand selling (λ i. 1) selling_start),
          selling_turn,
        ),
      ),
    ) (selling_rows, selling_basis, record { feasible = feasible; no_improving = none })
  where
    feasible : (i : ℕ) → i < 1 → pos 0 ≤ℤ selling_rows i 3
    feasible zero l = record { le = tt }
    feasible (suc i) l = absurd (omega arith)

    none : (k : ℕ) → k < 2 → pos 0 ≤ℤ selling_rows 1 k
    none zero l = record { le = tt }
    none (suc zero) l = record { le = tt }
    none (suc (suc k)) l = absurd (omega arith)

-- ---- maximise a; a <= -1, which no a >= 0 keeps. Columns: a, its slack, the
-- auxiliary column, the objective, the right side.
abbrev buying : Program
buying = record { m = 1; n = 1; a = λ i j. pos 1; b = λ i. negsuc 0; c = λ j. pos 1 }

-- the auxiliary column comes in for the only row
buying_start : StartsAtAuxiliary buying (λ i. 2)
buying_start =
    record { row = 0; inside = omega arith; negative = record { lt = tt }; first = alone; exchanged = placed }
  where
    alone : (i : ℕ) → i < 1
        → ¬ (ComesBefore (auxiliary_of buying) (auxiliary_row buying i) (pos 1) (auxiliary_row buying 0) (pos 1))
    alone zero l = before_not_self (auxiliary_of buying) (auxiliary_row buying 0) (pos 1)
    alone (suc i) l = absurd (omega arith)

    placed : (i : ℕ) → i < 1 → suc (suc zero) ≡ cond (eqb i zero) (suc (suc zero)) (1 + i)
    placed zero l = refl
    placed (suc i) l = absurd (omega arith)

-- (1, 1, -1, 0, -1) is negated, and taken from (0, 0, 1, 1, 0)
buying_rows : ℕ → ℕ → ℤ
buying_rows zero = at (negsuc 0 ∷ negsuc 0 ∷ pos 1 ∷ pos 0 ∷ pos 1 ∷ [])
buying_rows (suc i) = at (pos 1 ∷ pos 1 ∷ pos 0 ∷ pos 1 ∷ negsuc 0 ∷ [])

buying_pivot : IsPivot (auxiliary_of buying) (auxiliary_tag buying) (own_of (auxiliary_of buying) (λ i. 2))
    (negated_start (auxiliary_of buying) 0) buying_rows 0 2
unfolding buying_rows buying_start
buying_pivot = record { exchange = start_exchange buying (λ i. 2) buying_start; row_at = stays; row_other = becomes }
  where
    stays : (k : ℕ) → k ≤ 4 → buying_rows 0 k ≡ negated_start (auxiliary_of buying) 0 0 k
    stays zero l = refl
    stays (suc zero) l = refl
    stays (suc (suc zero)) l = refl
    stays (suc (suc (suc zero))) l = refl
    stays (suc (suc (suc (suc zero)))) l = refl
    stays (suc (suc (suc (suc (suc k))))) l = absurd (omega arith)

    entries : (k : ℕ) → k < 5 → pos 1 *ℤ buying_rows 1 k
        ≡ (pos 1 *ℤ negated_start (auxiliary_of buying) 0 1 k) -ℤ (pos 1 *ℤ negated_start (auxiliary_of buying) 0 0 k)
    entries zero l = refl
    entries (suc zero) l = refl
    entries (suc (suc zero)) l = refl
    entries (suc (suc (suc zero))) l = refl
    entries (suc (suc (suc (suc zero)))) l = refl
    entries (suc (suc (suc (suc (suc k))))) l = absurd (omega arith)

    becomes : (i : ℕ) → i ≤ 1 → i ≢ 0
        → IsCombined 5 (negated_start (auxiliary_of buying) 0 0 2) (negated_start (auxiliary_of buying) 0 i)
        (negated_start (auxiliary_of buying) 0 i 2) (negated_start (auxiliary_of buying) 0 0) (buying_rows i)
    becomes zero l d = absurd (d refl)
    becomes (suc zero) l d =
        record {
          divisor = pos 1;
          positive = record {
            lt = tt;
          };
          entries = entries;
          primitive = primitive_by_one 5 0 (buying_rows 1) (omega arith) refl;
        }
    becomes (suc (suc i)) l d = absurd (omega arith)

-- the path ends at its start: weight 1 on the row shows that nothing is feasible
buying_last : Last buying (λ i. 2)
unfolding buying_rows
buying_last =
    first_phase_is_last buying (λ i. 2) (0, inr buying_start) (
      buying_rows,
      (0, omega arith, refl),
      pivot_is_basis (auxiliary_of buying) (auxiliary_tag buying) (own_of (auxiliary_of buying) (λ i. 2))
          (negated_start (auxiliary_of buying) 0) buying_rows 0 2
          (tags_in (auxiliary_of buying) (auxiliary_tagged buying))
          (negated_pivotable (auxiliary_of buying) 0 (auxiliary_tagged buying) (omega arith)) buying_pivot,
      record { feasible = feasible; no_improving = none; below = record { lt = tt } },
    )
  where
    feasible : (i : ℕ) → i < 1 → pos 0 ≤ℤ buying_rows i 4
    feasible zero l = record { le = tt }
    feasible (suc i) l = absurd (omega arith)

    none : (k : ℕ) → k < 3 → pos 0 ≤ℤ buying_rows 1 k
    none zero l = record { le = tt }
    none (suc zero) l = record { le = tt }
    none (suc (suc zero)) l = record { le = tt }
    none (suc (suc (suc k))) l = absurd (omega arith)
