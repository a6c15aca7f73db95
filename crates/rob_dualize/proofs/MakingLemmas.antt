-- Solvers that are made for the set's program and for the counterpart.
use Rattle.std.proofs.Common.{◌≡◌, ℕ, zero, suc, ◌+◌, ◌*◌, ◌<◌, ◌≤◌, List, length, sym, ap, subst, arith, Result, Ok, Err}
use Rattle.std.specs.Prelude.{IfErr}
use lib.IntN.{pos}
use Rattle.rob_algebra.specs.Fraction.{Fraction}
use Rattle.rob_linear.specs.Programs.{Program, system_of}
use Rattle.rob_linear.specs.Turns.{own_of}
use Rattle.rob_meaning.specs.RobustModel.{RobustModel}
use Rattle.rob_simplex.specs.Dictionaries.{columns_of}
use Rattle.rob_number.specs.declared.lp_kind.LpKind.{LpKind}
use Rattle.rob_simplex.specs.declared.state.LpStop.{LpStop}
use Rattle.rob_solver.specs.Solving.{IsStopped, IsCausedDeep}
use Rattle.rob_solver.specs.declared.solving.Stopped.{Stopped}
use Rattle.rob_solver.specs.declared.solving.Stopped.TheVariants as unsolved
use Rattle.rob_simplex.specs.Solvers.{Solver, entries}
use Rattle.rob_simplex.specs.Solutions.{point_of}
use Rattle.rob_sets.specs.SetForm.{IsSetForm}
use Rattle.rob_sets.specs.declared.set_form.SetForm.{SetForm}
use Rattle.rob_elab.specs.Forms.{IsForms}
use Rattle.rob_elab.specs.declared.forms.Forms.{Forms}
use Rattle.rob_counterpart.specs.RobustProgram.{RobustProgram}
use Rattle.rob_counterpart.specs.Counterpart.{counterpart, robust_of}
use Rattle.rob_counterpart.specs.Reform.{reform, block}
use Rattle.rob_counterpart.specs.SamePrograms.{AreSame}
use Rattle.rob_counterpart.specs.SetPrograms.{set_of}
use Rattle.rob_counterpart.specs.Splitting.{plus, minus, OneIsZero}
use Rattle.rob_counterpart.proofs.Sets.SetLemmas.{over_set_is, cost_is}
use Rattle.rob_counterpart.proofs.Pairs.SplitLemmas.{point_opposite, set_pair}
use Rattle.rob_dualize.specs.Ending.{HasLastPoint, HasEnded, IsSolvedAs, IsStoppedAt, IsStoppedAs, read_from, position_of}
use Rattle.rob_dualize.specs.Refusals.{IsRefusedAt}
use Rattle.rob_elab.specs.Elaborated.{AreElaborated}
use Rattle.rob_dualize.specs.SetSolving.{IsFewSet, IsSetOfModel}
use Rattle.rob_dualize.specs.Wholes.{wholes, counterpart_of, IsFew}
use Rattle.rob_dualize.proofs.Soundness.{wholes_are}
use Rattle.rob_dualize.proofs.RefusalLemmas.{refused_at}
use Rattle.rob_dualize.proofs.SolvingLemmas.{last_basis, last_point}

pub one_block : (n b : ℕ) → 0 < n → b ≤ n * b
one_block zero b l = absurd (omega arith)
one_block (suc n) b l = let e : suc n * b ≡ (n * b) + b = grind arith in omega arith

module _ {limit : ℕ} (forms : Forms) (set : SetForm) (one : AreElaborated limit forms set) where
  pub some_form : 0 < length forms.matrices
  some_form = subst (λ (n : ℕ). 0 < n) (sym (ap length one.are_forms.matrices)) (omega arith)

  pub parameters_low : forms.params ≤ set.columns
  parameters_low = omega (arith, one.are_forms.params, one.is_set.columns)

  -- the set is that of a model
  pub set_of_one : IsSetOfModel limit set
  set_of_one = record { model = one.model; is_set = one.is_set; fits = one.set_fits }

  -- its program has as few rows and columns
  pub set_of_few : IsFew (counterpart_of forms set) → IsFewSet set
  set_of_few few =
      let u : block (wholes forms set) ≤ length forms.matrices * block (wholes forms set) =
      one_block (length forms.matrices) (block (wholes forms set)) some_form in
      let v : length set.rows ≤ length forms.matrices * length set.rows =
      one_block (length forms.matrices) (length set.rows) some_form in
      omega (arith, few)

-- of each pair of the set's point one number is 0
pub set_pairs : (d : RobustProgram) (s : Solver) → HasLastPoint (set_of d) s → (c : ℕ) → c < d.set_columns
    → OneIsZero (point_of s (plus c)) (point_of s (minus c))
set_pairs d s h c l =
    point_opposite (set_of d) (plus c) (minus c) (set_pair d (λ k. pos 0) (set_of d) (over_set_is d (λ k. pos 0))
    (cost_is d (λ k. pos 0)) c l)
    (own_of (system_of (set_of d)) (columns_of s.basis)) (entries s) (last_basis (set_of d) s h) (point_of s)
    (last_point (set_of d) s h)

-- ---- the answer of a solver
pub has_ended : (N : Type 0) (Q : Program) (solver : Solver) (kind : LpKind)
    → IsSolvedAs {N = N} Q (record { solver = solver; kind = kind }) → HasEnded Q kind solver
has_ended N Q solver kind h = record {
  program = h.program;
  same = h.same;
  rows = h.answer.rows;
  columns = h.answer.columns;
  solved = h.answer.answer;
  answered = h.answer.answered;
}

-- the stop of a program with the numbers of Q
stopped_as : {N : Type 0} (limit : ℕ) (P Q : Program) → AreSame P Q → (stopped : Stopped N) → IsStopped limit P stopped
    → IsCausedDeep limit P stopped → IsStoppedAs limit Q stopped
stopped_as limit P Q same (unsolved.Wide s stop) h c =
    record { program = P; same = same; rows = h.0; wide = h.1; caused = c }
stopped_as limit P Q same unsolved.Memory h c = tt

pub has_stopped : {A N : Type 0} (limit : ℕ) (P Q : Program) → AreSame P Q → (r : Result A (Stopped N))
    → IfErr r (IsStopped limit P) → IfErr r (IsCausedDeep limit P) → IfErr r (IsStoppedAs limit Q)
has_stopped limit P Q same (Ok x) h c = tt
has_stopped limit P Q same (Err stopped) h c = stopped_as limit P Q same stopped h c

-- ---- of a model
module _ (forms : Forms) (set : SetForm) (m : RobustModel) (f : IsForms m forms) (st : IsSetForm m set) where
  same_wholes : wholes forms set ≡ robust_of m
  same_wholes = wholes_are m forms set f st

  pub counterpart_ended : (k : LpKind) (s : Solver) → HasEnded (counterpart_of forms set) k s
      → HasEnded (counterpart m) k s
  counterpart_ended k s = subst (λ (q : RobustProgram). HasEnded (reform q) k s) same_wholes

  pub counterpart_few : IsFew (counterpart_of forms set) → IsFew (counterpart m)
  counterpart_few = subst (λ (q : RobustProgram). IsFew (reform q)) same_wholes

  pub read_same : (inside : List Fraction) (k : LpKind) (s : Solver)
      → read_from (wholes forms set) inside k s ≡ read_from (robust_of m) inside k s
  read_same inside k s = ap (λ (q : RobustProgram). read_from q inside k s) same_wholes

  pub counterpart_refused : (limit : ℕ) (now : Solver) (stop : LpStop)
      → IsStoppedAt limit (counterpart_of forms set) now stop
      → IsRefusedAt limit (counterpart m) now.basis (position_of stop)
  counterpart_refused limit now stop h =
      refused_at limit h.program (counterpart m)
      (subst (λ (q : RobustProgram). AreSame h.program (reform q)) same_wholes h.same) now h.rows stop h.wide h.caused
