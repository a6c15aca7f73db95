-- Calls of `solve` on narrow models, worked by hand: the smallest one, and one
-- without a scenario; and so how each must end.
use Rattle.std.proofs.Common.{◌≡◌, ◌≤◌, ◌<◌, ℕ, [], ◌∷◌, Option, refl, arith}
use Rattle.std.proofs.lemmas.Bool.{leb-true}
use Rattle.std.specs.Int.RustNames.{unsigned_abs}
use Rattle.rob_algebra.specs.Fraction.{Fraction, ratio}
use Rattle.rob_bounds.specs.Bounds.{IsNarrow, IsOfSize, row_bound}
use Rattle.rob_counterpart.specs.Counterpart.{counterpart, set_program}
use Rattle.rob_dualize.proofs.NarrowModels as smallest
use Rattle.rob_dualize.specs.SmallestModel.{one_demand}
use Rattle.rob_dualize.specs.Solving.{IsNarrowModel}
use Rattle.rob_linear.specs.Programs.{Program}
use Rattle.rob_meaning.proofs.ByHand.WorkedDecisions.{Found, found, test_at_most, test_numbers}
use Rattle.rob_meaning.proofs.ByHand.WorkedNotation.{int}
use Rattle.rob_meaning.specs.Certificates.{Status}
use Rattle.rob_meaning.specs.Proves.{HasStatus}
use Rattle.rob_model.specs.declared.place.Spot.{Spot}
use Rattle.rob_top.proofs.ByHand.WorkedCalls.{empty_interval_admits_none, empty_interval_comes, empty_interval_forms, empty_interval_none_wide, empty_interval_reads, line, one_demand_forms}
use Rattle.rob_top.proofs.ByHand.WorkedCuts.{by_cuts, cut_forms}
use Rattle.rob_top.specs.Completeness.{MustEnd}
use Rattle.rob_top.specs.Endings.{EndsAs, IsShownAnswer}
use Rattle.rob_commands.specs.Replies.{ended_of}
use Rattle.rob_top.specs.WorkedCalls.{cuts_call, solve_call}
use Rattle.rob_top.specs.WorkedModels.{empty_interval, greatest}
use Rattle.rob_commands.specs.declared.ended.Ended.{Ended}
use Rattle.rob_commands.specs.declared.ended.Ended.TheVariants.{TooWide}

-- ---- the smallest model
-- this call has to answer a status that the model has
pub one_demand_has_status : (result : Ended) → MustEnd (solve_call one_demand) result
    → (status : Status) × (v : Fraction) × HasStatus one_demand status v × EndsAs (ended_of status) result
one_demand_has_status result must =
    must.narrow_status line one_demand (int 8 ∷ []) one_demand_forms refl refl smallest.one_demand_narrow
    smallest.one_demand_admitted

-- and names no wide number
pub one_demand_is_not_wide : (result : Ended) → MustEnd (solve_call one_demand) result → (spot : Spot)
    → (result ≡ TooWide spot) → ⊥
one_demand_is_not_wide result must spot =
    must.narrow_spot line one_demand spot one_demand_forms refl refl smallest.one_demand_narrow

-- ---- minimise x, where d lies in [12, 8]
-- a test of the size of a program's numbers
module _ (a : ℕ) (P : Program) where
  abbrev test_left : Option ((i : ℕ) → i < P.m → (j : ℕ) → j < P.n → unsigned_abs (P.a i j) ≤ a)
  test_left =
      test_numbers P.m (λ i. (j : ℕ) → j < P.n → unsigned_abs (P.a i j) ≤ a)
      (λ i. test_numbers P.n (λ j. unsigned_abs (P.a i j) ≤ a) (λ j. test_at_most (unsigned_abs (P.a i j)) a))

  abbrev test_right : Option ((i : ℕ) → i < P.m → unsigned_abs (P.b i) ≤ a)
  test_right = test_numbers P.m (λ i. unsigned_abs (P.b i) ≤ a) (λ i. test_at_most (unsigned_abs (P.b i)) a)

  abbrev test_cost : Option ((j : ℕ) → j < P.n → unsigned_abs (P.c j) ≤ a)
  test_cost = test_numbers P.n (λ j. unsigned_abs (P.c j) ≤ a) (λ j. test_at_most (unsigned_abs (P.c j)) a)

  sized_by : Found test_left → Found test_right → Found test_cost → IsOfSize a P
  sized_by left right cost = record {
    left = λ i j il jl. found test_left left i il j jl;
    right = found test_right right;
    cost = found test_cost cost;
  }

set_narrow : IsNarrow greatest (set_program empty_interval)
unfolding ratio
set_narrow = record {
  size = 12;
  positive = omega arith;
  sized = sized_by 12 (set_program empty_interval) tt tt tt;
  bound = leb-true (row_bound (set_program empty_interval).m 12) greatest refl;
}

counterpart_narrow : IsNarrow greatest (counterpart empty_interval)
unfolding ratio
counterpart_narrow = record {
  size = 12;
  positive = omega arith;
  sized = sized_by 12 (counterpart empty_interval) tt tt tt;
  bound = leb-true (row_bound (counterpart empty_interval).m 12) greatest refl;
}

empty_interval_narrow : IsNarrowModel greatest empty_interval
empty_interval_narrow = record { set = set_narrow; counterpart = counterpart_narrow }

-- so this call has to answer that the set is empty, with weights that show it
pub empty_interval_is_not_wide : (result : Ended) → MustEnd (solve_call empty_interval) result
    → IsShownAnswer empty_interval result
empty_interval_is_not_wide result must =
    must.narrow_empty line empty_interval empty_interval_forms refl empty_interval_narrow empty_interval_admits_none

-- by cutting planes too
pub empty_interval_is_cut : (result : Ended) → MustEnd (cuts_call empty_interval) result
    → IsShownAnswer empty_interval result
empty_interval_is_cut result must =
    must.narrow_empty by_cuts empty_interval
    (cut_forms empty_interval empty_interval_comes empty_interval_reads empty_interval_none_wide) refl
    empty_interval_narrow empty_interval_admits_none
