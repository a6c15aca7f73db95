-- The lexicographic order of two rows of a table, and the first row so far.
use Rattle.std.proofs.Common.{◌≡◌, ℕ, ◌+◌, ◌<◌, ◌≤◌, subst, arith, inl, inr, Option, Some, None}
use Rattle.std.proofs.lemmas.Int.{ints, by_lt_z}
use Rattle.std.proofs.lemmas.Bool.{cases_eq}
use Rattle.std.specs.Option.{MatchOption}
use lib.IntN.{pos}
use lib.Signed.{◌<ℤ◌, ◌≤ℤ◌}
use Rattle.rob_linear.specs.Vectors.{Matrix}
use Rattle.rob_linear.specs.Turns.{ComesBefore, Leaves}
use Rattle.rob_linear.proofs.Bases.Lexical.{before_trans}
use Rattle.rob_linear.proofs.Bases.Choices.{before_not_self}
use Rattle.rob_simplex.specs.Dictionaries.{shape, GoesFirst}

-- ---- the first of the last k rows, which are looked at from the last one on
module _ (n m : ℕ) (rows : Matrix) (column : ℕ) where
  -- the best of the last k rows, if one of them is positive in the column
  abbrev pub IsFirstSoFar : ℕ → Option ℕ → Type 0
  IsFirstSoFar k best =
      MatchOption best ((j : ℕ) → j < m → m ≤ j + k → rows j column ≤ℤ pos 0)
      (λ e. (e < m) × (pos 0 <ℤ rows e column)
      × ((j : ℕ) → j < m → m ≤ j + k → pos 0 <ℤ rows j column
      → ¬ (ComesBefore (shape n m) (rows j) (rows j column) (rows e) (rows e column))))

  pub first_takes : (k i : ℕ) (best : Option ℕ) → i + (k + 1) ≡ m → IsFirstSoFar k best
      → GoesFirst n m rows column i best → IsFirstSoFar (k + 1) (Some i)
  first_takes k i None l f g = (
    omega arith,
    g.0,
    (λ j jl s p. elim (cases_eq j i) [
      | inl c ↦
          (λ w. before_not_self (shape n m) (rows i) (rows i column)
          (subst (λ v. ComesBefore (shape n m) (rows v) (rows v column) (rows i) (rows i column)) c w))
      | inr d ↦ let z : rows j column ≤ℤ pos 0 = f j jl (omega arith) in absurd (omega (arith, ints))
    ]),
  )
  first_takes k i (Some e) l f g = (
    omega arith,
    g.0,
    (λ j jl s p. elim (cases_eq j i) [
      | inl c ↦
          (λ w. before_not_self (shape n m) (rows i) (rows i column)
          (subst (λ v. ComesBefore (shape n m) (rows v) (rows v column) (rows i) (rows i column)) c w))
      | inr d ↦
          (λ w. f.2 j jl (omega arith) p
          (before_trans (shape n m) (rows j) (rows i) (rows e) (rows j column) (rows i column) (rows e column) p g.0 f.1
          w g.1))
    ]),
  )

  pub first_keeps : (k i : ℕ) (best : Option ℕ) → i + (k + 1) ≡ m → IsFirstSoFar k best
      → ¬ (GoesFirst n m rows column i best) → IsFirstSoFar (k + 1) best
  first_keeps k i None l f g =
      λ j jl s. elim (cases_eq j i) [
        | inl c ↦
            by_lt_z (pos 0) (rows j column) (λ q. absurd (g (subst (λ t. pos 0 <ℤ rows t column) c q, tt)))
            (λ q. omega (arith, ints))
        | inr d ↦ f j jl (omega arith)
      ]
  first_keeps k i (Some e) l f g = (
    f.0,
    f.1,
    (λ j jl s p. elim (cases_eq j i) [
      | inl c ↦
          (λ w. g (
            subst (λ t. pos 0 <ℤ rows t column) c p,
            subst
                (λ v. ComesBefore (shape n m) (rows v) (rows v column) (rows e) (rows e column)) c w,
          ))
      | inr d ↦ f.2 j jl (omega arith) p
    ]),
  )

  pub first_of_all : (best : Option ℕ) → IsFirstSoFar m best
      → MatchOption best ((i : ℕ) → i < m → rows i column ≤ℤ pos 0) (λ e. Leaves (shape n m) rows column e)
  first_of_all None f = λ j l. f j l (omega arith)
  first_of_all (Some e) f = record { inside = f.0; positive = f.1; first = λ j l. f.2 j l (omega arith) }
