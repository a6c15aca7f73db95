-- What a solver is after its dictionary has followed the path.
use Rattle.std.proofs.Common.{◌≡◌, ℕ, ◌+◌, ◌^◌, ◌<◌, ◌∙◌, sym, subst, arith, List, length, Option, Some, None}
use Rattle.std.specs.Prelude.{⊤}
use lib.IntN.{ℤ}
use Rattle.rob_linear.specs.Vectors.{Columns}
use Rattle.rob_linear.specs.Programs.{Program}
use Rattle.rob_rows.specs.PrimitiveParts.{IsWithin}
use Rattle.rob_simplex.specs.declared.state.State.{State}
use Rattle.rob_simplex.specs.declared.state.State.TheVariants.{New, Optimal, Infeasible, Unbounded, Stopped}
use Rattle.rob_simplex.specs.declared.state.Cause.{Cause}
use Rattle.rob_simplex.specs.Dictionaries.{Table, IsSized}
use Rattle.rob_simplex.specs.Judging.{Tells}
use Rattle.rob_simplex.specs.Phases.{StandsFor, EndsFrom}
use Rattle.rob_simplex.specs.Resuming.{CanResume}
use Rattle.rob_simplex.specs.Starts.{IsStartingTable}
use Rattle.rob_simplex.specs.Solvers.{Solver, positions, IsSound, IsMadeFor}
use Rattle.rob_simplex.proofs.Telling.Solved.{own_in_range, objective_entry}

-- a solver that was made for a program has its starting rows
pub made_start : (P : Program) (v s : Solver) → v ≡ s → IsMadeFor P s → IsStartingTable P v.dictionary
made_start P v s e h = subst (λ (t : Solver). IsStartingTable P t.dictionary) (sym e) h.starting

-- a solver that can resume has rows that stand
pub resumed_stands : {P : Program} {v s : Solver} → v ≡ s → CanResume P s → StandsFor P v.dictionary
resumed_stands {P = P} e h = subst (λ (u : Solver). StandsFor P u.dictionary) (sym e) h.own

-- how the path from there ended
pub ends_as : {P : Program} {start : Columns} {limit : ℕ} {t : Table} {e f : Option ℕ} → e ≡ f
    → EndsFrom P start e t × Tells limit e t → EndsFrom P start f t × Tells limit f t
ends_as {P = P} {start = start} {limit = limit} {t = t} is h =
    subst (λ x. EndsFrom P start x t × Tells limit x t) is h

-- it has not told anything: it is new, or has stopped
abbrev pub untold : State → Type 0
untold New = ⊤
untold (Stopped cause) = ⊤
untold Optimal = ⊥
untold Infeasible = ⊥
untold (Unbounded column) = ⊥

-- ---- it stays sound, with another dictionary of its size and other weights
module _ {top limit : ℕ} {v : Solver} (sound : IsSound top limit v) {t : Table} (sized : IsSized v.dictionary t)
    (w : List ℤ) (size : length w ≡ positions v) where
  el : t.limit ≡ v.limit
  el = sized.limit

  em : length t.basis ≡ positions v
  em = sized.positions

  few_columns : t.columns + length t.basis < 2 ^ 31
  few_columns = omega (arith, sound.few, sized.columns, em)

  -- without a point
  pub sound_infeasible : IsWithin limit w
      → IsSound top limit (record { state = Infeasible; dictionary = t; weights = w })
  sound_infeasible within = record {
    limit_is = el ∙ sound.limit_is;
    few = few_columns;
    weights_size = size ∙ sym em;
    weights_within = λ e. within;
    own = λ x. absurd x;
    column = omega arith;
    growing = λ e. absurd (let f : Infeasible ≡ Unbounded 0 = e in cc);
    objective = λ x. absurd x;
    told = λ x. absurd x;
  }

  pub sound_stopped : (cause : Cause)
      → IsSound top limit (record { state = Stopped cause; dictionary = t; weights = w })
  sound_stopped cause = record {
    limit_is = el ∙ sound.limit_is;
    few = few_columns;
    weights_size = size ∙ sym em;
    weights_within = λ e. absurd (let f : Stopped cause ≡ Infeasible = e in cc);
    own = λ x. absurd x;
    column = omega arith;
    growing = λ e. absurd (let f : Stopped cause ≡ Unbounded 0 = e in cc);
    objective = λ x. absurd x;
    told = λ x. absurd x;
  }

  pub sound_untold : (x : State) → untold x → IsSound top limit (record { state = x; dictionary = t; weights = w })
  sound_untold (Stopped cause) u = sound_stopped cause
  sound_untold New u = record {
    limit_is = el ∙ sound.limit_is;
    few = few_columns;
    weights_size = size ∙ sym em;
    weights_within = λ e. absurd (let f : New ≡ Infeasible = e in cc);
    own = λ x. absurd x;
    column = omega arith;
    growing = λ e. absurd (let f : New ≡ Unbounded 0 = e in cc);
    objective = λ x. absurd x;
    told = λ x. absurd x;
  }
  sound_untold Optimal u = absurd u
  sound_untold Infeasible u = absurd u
  sound_untold (Unbounded column) u = absurd u

  -- with one
  module _ {P : Program} (h : StandsFor P t) where
    pub sound_optimal : Tells limit None t → IsSound top limit (record { state = Optimal; dictionary = t; weights = w })
    sound_optimal told = record {
      limit_is = el ∙ sound.limit_is;
      few = few_columns;
      weights_size = size ∙ sym em;
      weights_within = λ e. absurd (let f : Optimal ≡ Infeasible = e in cc);
      own = λ x. own_in_range P (record { state = Optimal; dictionary = t; weights = w }) h;
      column = omega arith;
      growing = λ e. absurd (let f : Optimal ≡ Unbounded 0 = e in cc);
      objective = λ x. objective_entry P (record { state = Optimal; dictionary = t; weights = w }) h;
      told = λ x. told;
    }

    pub sound_unbounded : (column : ℕ) → column < P.n + P.m → Tells limit (Some column) t
        → IsSound top limit (record { state = Unbounded column; dictionary = t; weights = w })
    sound_unbounded column l told = record {
      limit_is = el ∙ sound.limit_is;
      few = few_columns;
      weights_size = size ∙ sym em;
      weights_within = λ e. absurd (let f : Unbounded column ≡ Infeasible = e in cc);
      own = λ x. own_in_range P (record { state = Unbounded column; dictionary = t; weights = w }) h;
      column = omega (arith, few_columns, h.rows_are, h.columns_are);
      growing = λ e. omega (arith, h.rows_are, h.columns_are);
      objective = λ x. objective_entry P (record { state = Unbounded column; dictionary = t; weights = w }) h;
      told = λ x. told;
    }
