-- The numbers of a program as data, and as mathematics.
use Rattle.std.proofs.Common.{◌≡◌, ℕ, ◌+◌, ◌<◌, ◌≤◌, suc, sym, subst, arith, inl, inr, refl, zero, List, [], ◌∷◌, All, length, nat_abs, slice_index_or}
use Rattle.std.proofs.lemmas.Int.{ints}
use Rattle.std.proofs.lemmas.Bool.{cases_eq, cases_lt}
use Rattle.std.proofs.lemmas.List.{get_or_default}
use Rattle.std.specs.Int.RustNames.{unsigned_abs}
use lib.IntN.{ℤ, pos}
use Rattle.rob_linear.specs.Vectors.{at}
use Rattle.rob_linear.specs.WideRows.{HasWideRow}
use Rattle.rob_linear.proofs.LinearPrograms.Vectors.{at-past}
use Rattle.rob_bounds.specs.Bounds.{IsOfSize, IsNarrow, row_bound}
use Rattle.rob_bounds.proofs.NarrowPaths.{narrow_path}
use Rattle.rob_rows.specs.declared.program.Lp.{Lp}
use Rattle.rob_rows.specs.LinearPrograms.{HasNumbersWithin, IsShaped, program_of}
use Rattle.rob_rows.specs.PrimitiveParts.{IsWithin}
use Rattle.rob_rows.proofs.SizeLemmas.{within_up}
use Rattle.rob_narrow.specs.NarrowPrograms.{IsGreatest}

-- an entry of a list, or 0 past its end
at_within : (a : ℕ) (row : List ℤ) (k : ℕ) → IsWithin a row → unsigned_abs (at row k) ≤ a
at_within a row k h =
    elim (cases_lt k (length row)) [
      | inl l ↦ h k (pos 0) l
      | inr l ↦ subst (λ v. unsigned_abs v ≤ a) (sym (at-past row k (omega arith))) (omega (arith, ints))
    ]

missing : (rows : List (List ℤ)) (i : ℕ) → length rows ≤ i → slice_index_or rows i [] ≡ []
missing [] i l = refl
missing (row ∷ rows) zero l = absurd (omega arith)
missing (row ∷ rows) (suc i) l = missing rows i (omega arith)

row_within : (a : ℕ) (rows : List (List ℤ)) (i j : ℕ) → All (λ row. IsWithin a row) rows
    → unsigned_abs (at (slice_index_or rows i []) j) ≤ a
row_within a rows i j h =
    elim (cases_lt i (length rows)) [
      | inl l ↦ at_within a (slice_index_or rows i []) j (h i [] l)
      | inr l ↦ subst (λ r. unsigned_abs (at r j) ≤ a) (sym (missing rows i (omega arith))) (omega (arith, ints))
    ]

-- the program's numbers are those of the data
pub program_sized : (a : ℕ) (lp : Lp) → HasNumbersWithin a lp → IsOfSize a (program_of lp)
program_sized a lp h = record {
  left = λ i j il jl. row_within a lp.a i j h.a;
  right = λ i l. at_within a lp.b i h.b;
  cost = λ j l. at_within a lp.c j h.c;
}

pub narrow_of : (lp : Lp) (a limit : ℕ) → IsGreatest a lp → row_bound (length lp.b) a ≤ limit
    → IsNarrow limit (program_of lp)
narrow_of lp a limit g l = record { size = a; positive = g.positive; sized = program_sized a lp g.within; bound = l }

pub narrow_path_of : (lp : Lp) (a limit : ℕ) → IsGreatest a lp → row_bound (length lp.b) a ≤ limit
    → (basis : ℕ → ℕ) (i : ℕ) → ¬ (HasWideRow limit (program_of lp) basis i)
narrow_path_of lp a limit g l basis i = narrow_path limit (program_of lp) (narrow_of lp a limit g l) basis i

-- ---- a program that is told row by row
-- no number of row i is over a
pub row_told : (a : ℕ) (lp : Lp) (i : ℕ) → IsShaped lp → i < length lp.b → HasNumbersWithin a lp
    → IsWithin a (slice_index_or lp.a i [])
row_told a lp i s l h = let rows : length lp.a ≡ length lp.b = s.rows in h.a i [] (omega arith)

-- the rows before `count` and their right sides are at most a in size
pub record AreWithin (a count : ℕ) (lp : Lp) : Type 0 where
  pub rows : (k : ℕ) → k < count → IsWithin a (slice_index_or lp.a k [])
  pub rights : (k : ℕ) → k < count → nat_abs (at lp.b k) ≤ a

-- one more
pub within_next : (a b count : ℕ) (lp : Lp) → a ≤ b → AreWithin a count lp
    → IsWithin b (slice_index_or lp.a count []) → nat_abs (at lp.b count) ≤ b → AreWithin b (count + 1) lp
within_next a b count lp ab h row right = record {
  rows = λ k l. elim (cases_eq k count) [
    | inl e ↦ subst (λ v. IsWithin b (slice_index_or lp.a v [])) (sym e) row
    | inr d ↦ within_up a b (slice_index_or lp.a k []) ab (h.rows k (omega arith))
  ];
  rights = λ k l. elim (cases_eq k count) [
    | inl e ↦ subst (λ v. nat_abs (at lp.b v) ≤ b) (sym e) right
    | inr d ↦ (let before : nat_abs (at lp.b k) ≤ a = h.rights k (omega arith) in omega arith)
  ];
}

-- all of them, and the objective
pub all_within : (a b count : ℕ) (lp : Lp) → IsShaped lp → length lp.b ≤ count → a ≤ b → AreWithin a count lp
    → IsWithin b lp.c → HasNumbersWithin b lp
all_within a b count lp s l ab h cost =
    let height : length lp.a ≡ length lp.b = s.rows in
    record {
      a = λ k d kl.
          subst (λ row. IsWithin b row) (get_or_default lp.a k [] d kl)
          (within_up a b (slice_index_or lp.a k []) ab (h.rows k (omega arith)));
      b = λ k d kl.
          let before : nat_abs (at lp.b k) ≤ a = h.rights k (omega arith) in
          subst (λ v. nat_abs v ≤ b) (get_or_default lp.b k (pos 0) d kl) (omega arith);
      c = cost;
    }
