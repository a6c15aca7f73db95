-- The smallest model is narrow at 62 bits: its numbers are at most 12 in size, its set's program has 2 rows, and its
-- counterpart 6, so no entry of a row is over (7 * 12) ^ 7.
use Rattle.std.proofs.Common.{◌≡◌, ℕ, zero, suc, ◌<◌, ◌^◌, ◌-◌, refl, arith, Bool, true, false, inl, inr, subst}
use Rattle.std.proofs.lemmas.Bool.{leb-true, cases_eq}
use Rattle.std.specs.Prelude.{leb, [], ◌∷◌}
use Rattle.std.specs.Int.RustNames.{unsigned_abs}
use Rattle.rob_algebra.specs.Fraction.{ratio}
use Rattle.rob_bounds.specs.Bounds.{IsOfSize, IsNarrow, row_bound}
use Rattle.rob_linear.specs.Programs.{Program}
use Rattle.rob_meaning.specs.Certificates.{Certificate, optimal}
use Rattle.rob_meaning.specs.Places.{1ℚ}
use Rattle.rob_meaning.specs.Proves.{HasStatus}
use Rattle.rob_meaning.specs.UncertaintySet.{Admits}
use Rattle.rob_meaning.specs.WellFormed.{IsModel}
use Rattle.rob_meaning.proofs.ByHand.WorkedNotation.{int, cover, item, best}
use Rattle.rob_meaning.proofs.ByHand.WorkedTests.{found, test_model, test_admits, test_certificate}
use Rattle.rob_counterpart.specs.Counterpart.{set_program, counterpart}
use Rattle.rob_model.specs.declared.place.Spot.{Spot}
use Rattle.rob_dualize.specs.SmallestModel.{one_demand}
use Rattle.rob_dualize.specs.Solving.{IsNarrowModel, IsWideOnPath}
use Rattle.rob_dualize.proofs.SolvingLemmas.{narrow_spot}

-- ---- a test of each number below n
abbrev both : Bool → Bool → Bool
both true b = b
both false b = false

abbrev all_below : ℕ → (ℕ → Bool) → Bool
all_below zero f = true
all_below (suc n) f = both (f n) (all_below n f)

both_first : (a b : Bool) → both a b ≡ true → a ≡ true
both_first true b h = refl
both_first false b h = cc

both_second : (a b : Bool) → both a b ≡ true → b ≡ true
both_second true b h = h
both_second false b h = cc

each_below : (n : ℕ) (f : ℕ → Bool) → all_below n f ≡ true → (i : ℕ) → i < n → f i ≡ true
each_below zero f h i l = absurd (omega arith)
each_below (suc n) f h i l =
    elim (cases_eq i n) [
      | inl e ↦ subst (λ k. f k ≡ true) (let b : n ≡ i = omega arith in b) (both_first (f n) (all_below n f) h)
      | inr d ↦ each_below n f (both_second (f n) (all_below n f) h) i (omega arith)
    ]

-- ---- the size of a program's numbers
abbrev rows_within : ℕ → Program → Bool
rows_within a P = all_below P.m (λ i. all_below P.n (λ j. leb (unsigned_abs (P.a i j)) a))

abbrev rights_within : ℕ → Program → Bool
rights_within a P = all_below P.m (λ i. leb (unsigned_abs (P.b i)) a)

abbrev costs_within : ℕ → Program → Bool
costs_within a P = all_below P.n (λ j. leb (unsigned_abs (P.c j)) a)

of_size : (a : ℕ) (P : Program) → rows_within a P ≡ true → rights_within a P ≡ true → costs_within a P ≡ true
    → IsOfSize a P
of_size a P left right cost = record {
  left = λ i j il jl.
      leb-true (unsigned_abs (P.a i j)) a
      (each_below P.n (λ j. leb (unsigned_abs (P.a i j)) a)
      (each_below P.m (λ i. all_below P.n (λ j. leb (unsigned_abs (P.a i j)) a)) left i il) j jl);
  right = λ i il. leb-true (unsigned_abs (P.b i)) a (each_below P.m (λ i. leb (unsigned_abs (P.b i)) a) right i il);
  cost = λ j jl. leb-true (unsigned_abs (P.c j)) a (each_below P.n (λ j. leb (unsigned_abs (P.c j)) a) cost j jl);
}

-- ---- the smallest model
pub one_demand_model : IsModel one_demand
unfolding ratio
one_demand_model = found (test_model one_demand) tt

pub one_demand_admitted : Admits one_demand (int 8 ∷ [])
unfolding ratio
one_demand_admitted = found (test_admits one_demand one_demand_model (int 8 ∷ [])) tt

-- x = 12: the objective x - tau <= 0 and the row at d = 12, 12 - x <= 0, sum to 12 - tau <= 0
abbrev order_12 : Certificate
order_12 =
    best (int 12) (int 8 ∷ []) (int 12 ∷ []) (cover 1 1 1ℚ ∷ [])
    (item 0 1ℚ (int 12 ∷ []) ∷ item 1 1ℚ (int 12 ∷ []) ∷ [])

pub one_demand_costs_12 : HasStatus one_demand optimal (int 12)
unfolding ratio
one_demand_costs_12 = found (test_certificate one_demand order_12) tt

set_narrow : IsNarrow (2 ^ 62 - 1) (set_program one_demand)
unfolding ratio
set_narrow = record {
  size = 12;
  positive = omega arith;
  sized = of_size 12 (set_program one_demand) refl refl refl;
  bound = leb-true (row_bound (set_program one_demand).m 12) (2 ^ 62 - 1) refl;
}

counterpart_narrow : IsNarrow (2 ^ 62 - 1) (counterpart one_demand)
unfolding ratio
counterpart_narrow = record {
  size = 12;
  positive = omega arith;
  sized = of_size 12 (counterpart one_demand) refl refl refl;
  bound = leb-true (row_bound (counterpart one_demand).m 12) (2 ^ 62 - 1) refl;
}

pub one_demand_narrow : IsNarrowModel (2 ^ 62 - 1) one_demand
one_demand_narrow = record { set = set_narrow; counterpart = counterpart_narrow }

pub one_demand_not_wide : (spot : Spot) → ¬ (IsWideOnPath (2 ^ 62 - 1) one_demand spot)
one_demand_not_wide spot = narrow_spot (2 ^ 62 - 1) one_demand spot one_demand_narrow
