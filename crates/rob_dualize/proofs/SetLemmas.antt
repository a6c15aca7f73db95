-- The solved program of a set: that of the model, with a scenario at its last basis, or why there is none.
use Rattle.std.proofs.Common.{◌≡◌, ℕ, ◌+◌, ◌^◌, ◌<◌, ◌≤◌, List, [], ◌∷◌, length, sym, ap, ◌∙◌, subst, arith}
use Rattle.std.proofs.lemmas.List.{length-map}
use lib.IntN.{ℤ, pos, nat_abs}
use Rattle.rob_linear.specs.Programs.{Program}
use Rattle.rob_meaning.specs.RobustModel.{RobustModel}
use Rattle.rob_meaning.specs.SetRows.{set_rows}
use Rattle.rob_meaning.specs.UncertaintySet.{Admits}
use Rattle.rob_meaning.specs.WellFormed.{IsModel}
use Rattle.rob_meaning.specs.Places.{Each}
use Rattle.rob_number.specs.declared.lp_kind.LpKind.{LpKind}
use Rattle.rob_number.specs.declared.lp_kind.LpKind.TheVariants as kind
use Rattle.rob_rows.specs.declared.program.Lp.{Lp}
use Rattle.rob_rows.specs.LinearPrograms.{program_of}
use Rattle.rob_simplex.specs.Endings.{HasSolved, HasAnswered, IsOptimumOf, IsRayOf}
use Rattle.rob_simplex.specs.Solvers.{Solver}
use Rattle.rob_simplex.specs.Solutions.{point_of, weights_of}
use Rattle.rob_simplex.specs.declared.state.LpStop.{LpStop}
use Rattle.rob_model.specs.declared.place.Spot.{Spot}
use Rattle.rob_model.specs.declared.place.Spot.TheVariants as spot
use Rattle.rob_model.specs.declared.place.Program.TheVariants as named
use Rattle.rob_cert.specs.declared.ending.Stop.{Stop}
use Rattle.rob_cert.specs.declared.ending.Stop.TheVariants.{EmptySet, Wide, Memory}
use Rattle.rob_counterpart.specs.Counterpart.{set_program}
use Rattle.rob_counterpart.specs.ReadCertificates.{scenario_read}
use Rattle.rob_counterpart.specs.SamePrograms.{AreSame}
use Rattle.rob_counterpart.specs.Splitting.{plus, minus, OneIsZero}
use Rattle.rob_counterpart.proofs.Positions.SameSystems.{over_set_same}
use Rattle.rob_counterpart.proofs.Sets.SetLemmas.{over_set_is, cost_is}
use Rattle.rob_sets.specs.SetForm.{IsSetForm, RowFits, cleared_row}
use Rattle.rob_sets.specs.declared.set_form.SetRow.{SetRow}
use Rattle.rob_sets.specs.declared.set_form.SetForm.{SetForm}
use Rattle.rob_dualize.specs.SetProgram.{IsOverRobust, robust_set}
use Rattle.rob_dualize.specs.Ending.{HasEnded, HasLastPoint, IsSolvedAs, IsStoppedAt, StopsAt, TellsWeights, position_of}
use Rattle.rob_dualize.specs.SetSolving.{program_of_set, IsFewSet, IsSolved, IsWideInSet, HasSetCause}
use Rattle.rob_dualize.specs.Refusals.{IsRefusedAt}
use Rattle.rob_dualize.specs.Solving.{IsLastScenario, IsWideOnPath, HasCause}
use Rattle.rob_dualize.proofs.MakingLemmas.{set_pairs}
use Rattle.rob_dualize.proofs.RefusalLemmas.{refused_at}
use Rattle.rob_dualize.proofs.SetProgramLemmas.{same_program}
use Rattle.rob_dualize.proofs.SolvingLemmas.{scenario_found, weights_told}

pub same_trans : (P Q R : Program) → AreSame P Q → AreSame Q R → AreSame P R
same_trans P Q R h k =
    let m : P.m ≡ Q.m = h.height in
    let n : P.n ≡ Q.n = h.width in
    record {
      height = h.height ∙ k.height;
      width = h.width ∙ k.width;
      rows = λ t j tl jl. h.rows t j tl jl ∙ k.rows t j (omega arith) (omega arith);
      rights = λ t tl. h.rights t tl ∙ k.rights t (omega arith);
      costs = λ j jl. h.costs j jl ∙ k.costs j (omega arith);
    }

-- ---- the program that is made
-- numbers within a limit are within a greater one
numbers_weaker : (limit bigger : ℕ) (xs : List ℤ) → limit ≤ bigger → Each (λ a. nat_abs a ≤ limit) xs
    → Each (λ a. nat_abs a ≤ bigger) xs
numbers_weaker limit bigger [] l h = tt
numbers_weaker limit bigger (x ∷ xs) l h = (
  let k : nat_abs x ≤ limit = h.0 in
      omega arith,
  numbers_weaker limit bigger xs l h.1,
)

pub fits_weaker : (limit bigger : ℕ) (rows : List SetRow) → limit ≤ bigger → Each (RowFits limit) rows
    → Each (RowFits bigger) rows
fits_weaker limit bigger [] l h = tt
fits_weaker limit bigger (x ∷ rows) l h = (
  record {
    coefficients = numbers_weaker limit bigger x.g l h.0.coefficients;
    right_side = let k : nat_abs x.h ≤ limit = h.0.right_side in omega arith;
  },
  fits_weaker limit bigger rows l h.1,
)

pub set_is_few : (set : SetForm) (lp : Lp) → IsOverRobust (robust_set set) (program_of lp) → IsFewSet set
    → length lp.c + length lp.b < 2 ^ 31
set_is_few set lp h few =
    let b : length lp.b ≡ length set.rows = h.over_set.height in
    let c : length lp.c ≡ set.columns + set.columns = h.over_set.width in
    omega arith

pub set_made : (set : SetForm) (lp : Lp) → IsOverRobust (robust_set set) (program_of lp)
    → AreSame (program_of lp) (program_of_set set)
set_made set lp h = over_set_same (robust_set set) (λ c. pos 0) (program_of lp) h.over_set h.cost

-- ---- its solver
module _ (N : Type 0) (Q : Program) (now : Solver) where
  pub solved_at_optimum : (k : LpKind) → k ≡ kind.Optimal → IsSolvedAs {N = N} Q (record { solver = now; kind = k })
      → IsSolved Q now
  solved_at_optimum k e h =
      let o : IsOptimumOf h.program now = subst (λ (t : LpKind). HasSolved h.program t now) e h.answer.answer in
      let a : HasAnswered kind.Optimal now = subst (λ (t : LpKind). HasAnswered t now) e h.answer.answered in
      record {
        last = record { program = h.program; same = h.same; point = o.point; feasible = o.ends.feasible };
        stands = h.answer.resumable a.1;
        rows = h.answer.rows;
        columns = h.answer.columns;
      }

  pub solved_at_ray : (k : LpKind) → k ≡ kind.Unbounded → IsSolvedAs {N = N} Q (record { solver = now; kind = k })
      → IsSolved Q now
  solved_at_ray k e h =
      let o : IsRayOf h.program now = subst (λ (t : LpKind). HasSolved h.program t now) e h.answer.answer in
      let a : HasAnswered kind.Unbounded now = subst (λ (t : LpKind). HasAnswered t now) e h.answer.answered in
      record {
        last = record { program = h.program; same = h.same; point = o.point; feasible = o.ends.feasible };
        stands = h.answer.resumable a.1;
        rows = h.answer.rows;
        columns = h.answer.columns;
      }

-- of each pair of the point of the set's program one number is 0
pub solved_pairs : (set : SetForm) (s : Solver) → HasLastPoint (program_of_set set) s → (c : ℕ) → c < set.columns
    → OneIsZero (point_of s (plus c)) (point_of s (minus c))
solved_pairs set s h c l = set_pairs (robust_set set) s h c l

-- ---- of a model
module _ (m : RobustModel) (set : SetForm) (is : IsSetForm m set) where
  pub set_same : AreSame (program_of_set set) (set_program m)
  set_same = same_program m set is (program_of_set set) (record
      { over_set = over_set_is (robust_set set) (λ c. pos 0); cost = cost_is (robust_set set) (λ c. pos 0) })

  pub of_model : (P : Program) → AreSame P (program_of_set set) → AreSame P (set_program m)
  of_model P h = same_trans P (program_of_set set) (set_program m) h set_same

  pub rows_count : length set.rows ≡ length (set_rows m)
  rows_count = ap length is.rows ∙ length-map (set_rows m) (cleared_row m)

  pub last_of_model : (s : Solver) → HasLastPoint (program_of_set set) s → HasLastPoint (set_program m) s
  last_of_model s h = record {
    program = h.program;
    same = of_model h.program h.same;
    point = h.point;
    feasible = h.feasible;
  }

  pub solved_scenario : IsModel m → (s : Solver) → IsSolved (program_of_set set) s
      → Admits m (scenario_read m (point_of s)) × IsLastScenario m (scenario_read m (point_of s))
  solved_scenario model s h = scenario_found m model s (last_of_model s h.last)

  -- ---- refusals
  ended_of_model : (s : Solver) → HasEnded (program_of_set set) kind.Infeasible s
      → HasEnded (set_program m) kind.Infeasible s
  ended_of_model s h = record {
    program = h.program;
    same = of_model h.program h.same;
    rows = h.rows;
    columns = h.columns;
    solved = h.solved;
    answered = h.answered;
  }

  pub empty_cause : (limit : ℕ) → IsModel m → (s : Solver) → HasEnded (program_of_set set) kind.Infeasible s
      → (n : ℕ) (stop : Stop) → n ≡ length set.rows → TellsWeights limit n (weights_of s) stop
      → HasSetCause limit m stop
  empty_cause limit model s h n (EmptySet weights) e w = record {
    shown = weights_told m model s (ended_of_model s h) weights n w.0 (e ∙ rows_count);
    fits = w.1;
  }
  empty_cause limit model s h n (Wide place trace) e w = absurd w
  empty_cause limit model s h n Memory e w = tt

  wide_cause : (limit : ℕ) (stop : Stop) (basis : List ℕ) (p : ℕ) → StopsAt basis named.Set p stop
      → IsRefusedAt limit (set_program m) basis p → HasSetCause limit m stop
  wide_cause limit (EmptySet weights) basis p h w = absurd h
  wide_cause limit (Wide place trace) basis p h w = (subst (IsWideInSet limit m) (sym h.0) w, h.1)
  wide_cause limit Memory basis p h w = tt

  pub stopped_cause : (limit : ℕ) (now : Solver) (lp_stop : LpStop) → IsStoppedAt limit (program_of_set set) now lp_stop
      → (p : ℕ) → p ≡ position_of lp_stop → (stop : Stop) → StopsAt now.basis named.Set p stop
      → HasSetCause limit m stop
  stopped_cause limit now lp_stop h p e stop at =
      wide_cause limit stop now.basis p at
      (subst (λ (k : ℕ). IsRefusedAt limit (set_program m) now.basis k) (sym e)
      (refused_at limit h.program (set_program m) (of_model h.program h.same) now h.rows lp_stop h.wide h.caused))

-- ---- the route's causes
wide_on_path : (limit : ℕ) (m : RobustModel) (place : Spot) → IsWideInSet limit m place → IsWideOnPath limit m place
wide_on_path limit m (spot.Dictionary named.Set basis i) h = h
wide_on_path limit m other h = absurd h

pub set_cause : (limit : ℕ) (m : RobustModel) (stop : Stop) → HasSetCause limit m stop → HasCause limit m stop
set_cause limit m (EmptySet weights) h = h
set_cause limit m (Wide place trace) h = (wide_on_path limit m place h.0, h.1)
set_cause limit m Memory h = tt
