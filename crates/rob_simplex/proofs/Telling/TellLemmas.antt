-- What is known of a solver whose dictionary has followed the path, by how that ended.
use Rattle.std.proofs.Common.{◌≡◌, ℕ, ◌+◌, ◌<◌, ◌≤◌, ◌∙◌, refl, sym, subst, arith, List, length, nat_abs, Result, Ok, Err, IfErr, MatchResult}
use lib.IntN.{ℤ}
use Rattle.rob_linear.specs.Vectors.{at}
use Rattle.rob_linear.specs.Programs.{Program}
use Rattle.rob_linear.specs.Paths.{Last}
use Rattle.rob_linear.specs.WideRows.{HasWideRow}
pub use Rattle.rob_number.proofs.CastLemmas.{limit_seen}
use Rattle.rob_simplex.specs.declared.first_phase.FirstEnding.TheVariants as first
use Rattle.rob_simplex.specs.declared.path.Ending.{Ending}
use Rattle.rob_simplex.specs.declared.path.Ending.TheVariants as ending
use Rattle.rob_simplex.specs.declared.state.Cause.{Cause}
use Rattle.rob_simplex.specs.declared.state.Cause.TheVariants.{Told}
use Rattle.rob_simplex.specs.declared.state.Halt.{Halt}
use Rattle.rob_simplex.specs.declared.state.State.TheVariants.{Optimal, Infeasible, Unbounded, Stopped}
use Rattle.rob_simplex.specs.Begun.{HaltsAt}
use Rattle.rob_simplex.specs.Dictionaries.{Table, columns_of, IsSized}
use Rattle.rob_simplex.specs.Endings.{IsOptimumOf, IsRayOf, HasWeightsFor, HasWideWeight, halted_by, IsTold}
use Rattle.rob_simplex.specs.Explicit.{FirstEnds}
use Rattle.rob_simplex.specs.PathEnds.{PathEnds, PathTells, PathStops, AreWeights}
use Rattle.rob_simplex.specs.Phases.{InSecond}
use Rattle.rob_simplex.specs.Solvers.{Solver, positions, IsSound}
use Rattle.rob_simplex.proofs.Pivoting.BegunTurns.{halted_path}
use Rattle.rob_simplex.proofs.Telling.Causes.{wide_weight}
use Rattle.rob_simplex.proofs.Telling.JudgingLemmas.{one_wide, greatest_wide}
use Rattle.rob_simplex.proofs.Telling.Solved.{optimum, ray_found, weights_found}
use Rattle.rob_simplex.proofs.Places.Sizes.{sized_same}
use Rattle.rob_simplex.proofs.Telling.Solving.{sound_optimal, sound_unbounded, sound_infeasible}
use Rattle.rob_simplex.proofs.Telling.WeightLemmas.{within_from}

module _ {limit : ℕ} {P : Program} {v s : Solver} (view : v ≡ s) {ended : Result Ending Halt} where
  told_ok : {e : Ending} → ended ≡ Ok e → IsTold limit P ended s → PathEnds P e v.dictionary
      × PathTells limit e v.dictionary
  told_ok {e = e} is h =
      subst (λ (u : Solver). PathEnds P e u.dictionary × PathTells limit e u.dictionary) (sym view)
      (subst (λ r. MatchResult r (λ x. PathEnds P x s.dictionary × PathTells limit x s.dictionary)
      (λ halt. HasWideRow limit P (columns_of s.basis) halt.position)) is h.told)

  -- by what the ending is
  pub told_as : {e f : Ending} → ended ≡ Ok e → e ≡ f → IsTold limit P ended s → PathEnds P f v.dictionary
      × PathTells limit f v.dictionary
  told_as is same h = subst (λ x. PathEnds P x v.dictionary × PathTells limit x v.dictionary) same (told_ok is h)

  pub told_err : {halt : Halt} → ended ≡ Err halt → IsTold limit P ended s
      → HasWideRow limit P (columns_of v.basis) halt.position
  told_err {halt = halt} is h =
      subst (λ (u : Solver). HasWideRow limit P (columns_of u.basis) halt.position) (sym view)
      (subst (λ r. MatchResult r (λ x. PathEnds P x s.dictionary × PathTells limit x s.dictionary)
      (λ w. HasWideRow limit P (columns_of s.basis) w.position)) is h.told)

  pub caused_err : {halt : Halt} → ended ≡ Err halt → IsTold limit P ended s
      → PathStops limit P v.dictionary halt.position
  caused_err {halt = halt} is h =
      subst (λ (u : Solver). PathStops limit P u.dictionary halt.position) (sym view)
      (subst (λ r. IfErr r (λ w. PathStops limit P s.dictionary w.position)) is h.caused)

  pub position_err : {halt : Halt} → ended ≡ Err halt → IsTold limit P ended s → halt.position ≤ positions v
  position_err {halt = halt} is h =
      subst (λ (u : Solver). halt.position ≤ positions u) (sym view)
      (subst (λ r. IfErr r (λ w. w.position ≤ positions s)) is h.position)

  pub told_rows : IsTold limit P ended s → P.m ≡ positions v
  told_rows h = subst (λ (u : Solver). P.m ≡ positions u) (sym view) h.rows

  -- ---- what it answers
  pub optimum_told : {e : Ending} (w : List ℤ) → ended ≡ Ok e → e ≡ ending.Optimal → IsTold limit P ended s
      → IsOptimumOf P (record { state = Optimal; dictionary = v.dictionary; weights = w })
  optimum_told w is same h =
      let told = told_as is same h in
      optimum P (record { state = Optimal; dictionary = v.dictionary; weights = w }) told.0.0 refl told.0.1

  pub ray_told : {e : Ending} {column : ℕ} (w : List ℤ) → ended ≡ Ok e → e ≡ ending.Unbounded column
      → IsTold limit P ended s
      → IsRayOf P (record { state = Unbounded column; dictionary = v.dictionary; weights = w })
  ray_told {column = column} w is same h =
      let told = told_as is same h in
      ray_found P (record { state = Unbounded column; dictionary = v.dictionary; weights = w }) told.0.0 refl told.0.1

  -- ---- it stays sound
  pub optimum_sound : {top : ℕ} {e : Ending} → IsSound top limit v → ended ≡ Ok e → e ≡ ending.Optimal
      → IsTold limit P ended s
      → IsSound top limit (record { state = Optimal; dictionary = v.dictionary; weights = v.weights })
  optimum_sound sound is same h =
      let told = told_as is same h in
      sound_optimal sound sized_same v.weights sound.weights_size told.0.0.own told.1

  pub ray_sound : {top : ℕ} {e : Ending} {column : ℕ} → IsSound top limit v → ended ≡ Ok e
      → e ≡ ending.Unbounded column → IsTold limit P ended s
      → IsSound top limit (record { state = Unbounded column; dictionary = v.dictionary; weights = v.weights })
  ray_sound {column = column} sound is same h =
      let told = told_as is same h in
      sound_unbounded sound sized_same v.weights sound.weights_size told.0.0.own column told.0.1.0.inside told.1

pub halted_told : (limit : ℕ) (P : Program) {v s : Solver} → v ≡ s → {ended : Result Ending Halt} {halt : Halt}
    (w : List ℤ) → ended ≡ Err halt
    → IfErr ended (λ h. HaltsAt (Last P) (InSecond P) limit P h.position h.cause s.dictionary)
    → (cause : Cause) × (Stopped halt.cause ≡ Stopped cause)
    × halted_by limit P halt.position (record { state = Stopped halt.cause; dictionary = v.dictionary; weights = w })
    cause
halted_told limit P {v = v} {s = s} view {halt = halt} w is h = (
  halt.cause,
  refl,
  halted_path limit P (record { state = Stopped halt.cause; dictionary = v.dictionary; weights = w }) halt.position
      halt.cause
      (subst (λ (u : Solver). HaltsAt (Last P) (InSecond P) limit P halt.position halt.cause u.dictionary) (sym view)
      (subst (λ r. IfErr r (λ h. HaltsAt (Last P) (InSecond P) limit P h.position h.cause s.dictionary)) is h)),
)

-- ---- the weights, of which the greatest is known
-- it is over the limit
pub weight_stops : {P : Program} {v s : Solver} → v ≡ s → {ended : Result Ending Halt} {e : Ending} {row : ℕ}
    → ended ≡ Ok e → e ≡ ending.Infeasible row → (t : Table) (w : List ℤ)
    → (FirstEnds P (first.Infeasible row) v.dictionary → AreWeights P t.basis w) → {m : ℕ} → m ≡ positions v
    → (limit greatest : ℕ) → limit < greatest
    → (0 < greatest → (k : ℕ) × (k < m) × (nat_abs (at w (0 + k)) ≡ greatest)) → IsTold limit P ended s
    → HasWideRow limit P (columns_of t.basis) m
    × HasWideWeight limit P (record { state = Stopped Told; dictionary = t; weights = w }) m
weight_stops {P = P} view is same t w shown {m = m} size limit greatest over reached h =
    let told = told_as view is same h in
    let em : m ≡ P.m = size ∙ sym (told_rows view h) in (
      greatest_wide limit P t.basis w (shown told.0) m greatest em over reached,
      wide_weight limit P (record { state = Stopped Told; dictionary = t; weights = w }) m em (shown told.0)
          (one_wide limit P w m greatest em over reached),
    )

-- or it is not
pub weights_told : {limit : ℕ} {P : Program} {v s : Solver} → v ≡ s → {ended : Result Ending Halt} {e : Ending}
    {row : ℕ} → ended ≡ Ok e → e ≡ ending.Infeasible row → (t : Table) (w : List ℤ)
    → (FirstEnds P (first.Infeasible row) v.dictionary → AreWeights P t.basis w) → IsTold limit P ended s
    → HasWeightsFor P (record { state = Infeasible; dictionary = t; weights = w })
weights_told {P = P} view is same t w shown h =
    weights_found P (record { state = Infeasible; dictionary = t; weights = w }) refl
    (shown (told_as view is same h).0)

pub weights_sound : {top limit : ℕ} {v : Solver} {t : Table} → IsSound top limit v → IsSized v.dictionary t
    → (w : List ℤ) → length w ≡ length v.weights → {m : ℕ} → m ≡ length t.basis → (greatest : ℕ)
    → ((k : ℕ) → k < m → nat_abs (at w (0 + k)) ≤ greatest) → greatest ≤ limit
    → IsSound top limit (record { state = Infeasible; dictionary = t; weights = w })
weights_sound {limit = limit} sound sized w size em n bound low =
    sound_infeasible sound sized w (size ∙ sound.weights_size)
    (within_from limit w (λ i l.
    let z : 0 + i ≡ i = omega arith in
    let b : nat_abs (at w i) ≤ n =
    subst (λ k. nat_abs (at w k) ≤ n) z (bound i (omega (arith, em, size, sized.positions, sound.weights_size))) in
    omega arith))

-- the end of a path that its dictionary has followed
pub is_told : (limit : ℕ) (P : Program) (v : Solver) (t : Table) (ended : Result Ending Halt) → P.m ≡ positions v
    → length t.basis ≡ positions v
    → MatchResult ended (λ e. PathEnds P e t × PathTells limit e t)
    (λ halt. HasWideRow limit P (columns_of t.basis) halt.position)
    → IfErr ended (λ halt. PathStops limit P t halt.position) → IfErr ended (λ halt. halt.position ≤ positions v)
    → IsTold limit P ended (record { state = v.state; dictionary = t; weights = v.weights })
is_told limit P v t ended rows size told caused position = record {
  rows = rows ∙ sym size;
  told = told;
  caused = caused;
  position = subst (λ m. IfErr ended (λ halt. halt.position ≤ m)) (sym size) position;
}
