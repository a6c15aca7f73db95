-- What a finder's calls answer, from what their steps answer.
use Rattle.std.proofs.Common.{◌≡◌, ℕ, ◌<◌, List, map, length, sym, ap, ◌∙◌, subst, Bool, inl, inr, Result, Ok, Err}
use lib.IntN.{ℤ}
use Rattle.rob_algebra.specs.Fraction.{Fraction, of_int}
use Rattle.rob_linear.specs.Vectors.{at}
use Rattle.rob_linear.specs.Programs.{Program, with_cost}
use Rattle.rob_linear.specs.Paths.{HasAuxiliary, Last}
use Rattle.rob_meaning.specs.Forms.{matrices, form_columns}
use Rattle.rob_meaning.specs.Multipliers.{set_limits}
use Rattle.rob_meaning.specs.Places.{tabulate}
use Rattle.rob_meaning.specs.Vectors.{dot}
use Rattle.rob_meaning.specs.RobustModel.{RobustModel}
use Rattle.rob_number.specs.declared.lp_kind.LpKind.{LpKind}
use Rattle.rob_number.specs.declared.lp_kind.LpKind.TheVariants as kind
use Rattle.rob_simplex.specs.Dictionaries.{columns_of}
use Rattle.rob_simplex.specs.Endings.{HasAnswered}
use Rattle.rob_simplex.specs.Resuming.{HasResumed, HasStoppedFrom, IsCausedFrom}
use Rattle.rob_simplex.specs.Solvers.{Solver, positions, entries, column_of}
use Rattle.rob_simplex.specs.Solutions.{point_of, dual_of, ray_of, value_of}
use Rattle.rob_simplex.specs.declared.state.LpStop.{LpStop}
use Rattle.rob_counterpart.specs.Counterpart.{set_program}
use Rattle.rob_counterpart.specs.ReadNumbers.{differences}
use Rattle.rob_counterpart.specs.SamePrograms.{AreSame}
use Rattle.rob_counterpart.specs.WorstCases.{row_amounts}
use Rattle.rob_cert.specs.declared.ending.Stop.{Stop}
use Rattle.rob_cert.specs.declared.ending.Worst.{Worst}
use Rattle.rob_cert.specs.declared.ending.Worst.TheVariants.{At, Along}
use Rattle.rob_runs.specs.Searches.{FindsScenario, FindsRay, search_at}
use Rattle.rob_linear.specs.WideRows.{TellsWideRow}
use Rattle.rob_runs.proofs.Searching.ResumeLemmas.{own_without}
use Rattle.rob_runs.proofs.Clearing.SumLemmas.{constant_is_sum}
use Rattle.rob_sets.specs.SetForm.{IsSetForm}
use Rattle.rob_sets.specs.declared.set_form.SetForm.{SetForm}
use Rattle.rob_dualize.specs.Ending.{StopsAt, IsMadeAs, position_of}
use Rattle.rob_dualize.specs.Solving.{CountsStop, HasScenario}
use Rattle.rob_dualize.specs.SetSolving.{program_of_set, IsSolved}
use Rattle.rob_worst.specs.Finders.{HasSearched, HasStoppedSearch}
use Rattle.rob_dualize.specs.SetSolving.{HasSetCause}
use Rattle.rob_worst.specs.Finding.{IsRefusedSearch, Tells, HasSearchCause, Searches, FindsWorst}
use Rattle.rob_worst.specs.Refusals.{program_for}
use Rattle.rob_worst.specs.Tasks.{IsTaskOf}
use Rattle.rob_worst.specs.declared.task.Task.{Task}
use Rattle.rob_solver.specs.Depths.{deep_limit}
use Rattle.rob_worst.proofs.DeepLemmas.{refused_search}
use Rattle.rob_worst.proofs.SearchLemmas.{scenario_found, ray_found, peak_found, wide_found}
use Rattle.rob_dualize.proofs.SetLemmas.{of_model, rows_count}
use Rattle.rob_worst.proofs.StopLemmas.{row_cause}

-- ---- going on from the set's last basis
module _ (Q : Program) (solved : Solver) (h : IsSolved Q solved) (start now : Solver) (same : start ≡ solved)
    (rows : positions now ≡ positions start) (columns : now.columns ≡ start.columns) where
  starts : Last h.last.program (columns_of start.basis)
  starts = subst (λ (s : Solver). Last h.last.program (columns_of s.basis)) (sym same) h.last.point.last

  starts_without : ¬ (HasAuxiliary h.last.program (columns_of start.basis))
  starts_without =
      subst (λ (s : Solver). ¬ (HasAuxiliary h.last.program (columns_of s.basis))) (sym same)
      (own_without h.last.program (columns_of solved.basis) (entries solved) h.last.point.basis)

  now_rows : h.last.program.m ≡ positions now
  now_rows = h.rows ∙ sym (ap positions same) ∙ sym rows

  pub searched : (cost : List ℤ) (k : LpKind) → HasResumed (with_cost h.last.program (at cost))
      (columns_of start.basis) k now → HasAnswered k now → HasSearched Q cost k now
  searched cost k r a = record {
    program = h.last.program;
    same = h.last.same;
    start = columns_of start.basis;
    last = starts;
    without = starts_without;
    rows = now_rows;
    columns = h.columns ∙ sym (ap (λ (s : Solver). s.columns) same) ∙ sym columns;
    resumed = r;
    answered = a;
  }

  pub stopped_search : (limit : ℕ) (cost : List ℤ) (stop : LpStop)
      → HasStoppedFrom limit (with_cost h.last.program (at cost)) (columns_of start.basis) stop now
      → IsCausedFrom limit (with_cost h.last.program (at cost)) (columns_of start.basis) stop now
      → HasStoppedSearch limit Q cost stop now
  stopped_search limit cost stop w why = record {
    program = h.last.program;
    same = h.last.same;
    start = columns_of start.basis;
    last = starts;
    without = starts_without;
    rows = now_rows;
    stopped = w;
    caused = why;
  }

-- ---- what is told
module _ {N : Type 0} (value : N → Fraction) (m : RobustModel) (set : SetForm) (is : IsSetForm m set) (step : Bool)
    (i : ℕ) (some : i < length (matrices m)) (z : List Fraction) (size : length z ≡ form_columns m)
    (task : Task) (t : IsTaskOf m step i z task) (s : Solver) where
  searched_of_model : (k : LpKind) → HasSearched (program_of_set set) task.cost k s
      → HasSearched (set_program m) task.cost k s
  searched_of_model k h = record {
    program = h.program;
    same = of_model m set is h.program h.same;
    start = h.start;
    last = h.last;
    without = h.without;
    rows = h.rows;
    columns = h.columns;
    resumed = h.resumed;
    answered = h.answered;
  }

  pub greatest_told : HasSearched (program_of_set set) task.cost kind.Optimal s
      → (denominator peak : N) (constant : ℤ) (values : List N) (basis : List ℕ) (amounts : List N) (n : ℕ)
      → value denominator ≡ of_int task.common → value peak ≡ value_of s → constant ≡ task.constant
      → map value values ≡ differences task.params (point_of s) → basis ≡ s.basis
      → n ≡ length set.rows → map value amounts ≡ tabulate n (dual_of s)
      → Tells value m i z (At denominator peak constant (record { values = values }) basis amounts)
  greatest_told h denominator peak constant values basis amounts n de pe ce ve be ne ae =
      let o : HasSearched (set_program m) task.cost kind.Optimal s = searched_of_model kind.Optimal h in
      let scenario : map value values ≡ differences (length m.parameters) (point_of s) =
      ve ∙ ap (λ k. differences k (point_of s)) t.parameters in
      let dual : map value amounts ≡ row_amounts m (dual_of s) =
      ae ∙ ap (λ k. tabulate k (dual_of s)) (ne ∙ rows_count m set is) in
      let found = scenario_found m i z task.cost s t.costs o in
      record {
        found = subst (λ (b : List ℕ). FindsScenario m i z b (map value values) (map value amounts)) (sym be)
            (subst (λ (u : List Fraction). FindsScenario m i z s.basis u (map value amounts)) (sym scenario)
            (subst (λ (a : List Fraction). FindsScenario m i z s.basis
            (differences (length m.parameters) (point_of s)) a) (sym dual) found));
        denominator_is = de ∙ ap of_int t.common;
        peak_is = pe ∙ peak_found m i z task.cost s t.costs o
            ∙ ap (λ (a : List Fraction). dot a (set_limits m)) (sym dual);
        constant_is = ap of_int (ce ∙ t.constant) ∙ sym (constant_is_sum m i some z size);
      }

  pub along_told : HasSearched (program_of_set set) task.cost kind.Unbounded s
      → (ray : List N) (basis : List ℕ) (column : ℕ)
      → map value ray ≡ differences task.params (ray_of s) → basis ≡ s.basis → column ≡ column_of s.state
      → Tells value m i z (Along ray basis column)
  along_told h ray basis column re be ce =
      let o : HasSearched (set_program m) task.cost kind.Unbounded s = searched_of_model kind.Unbounded h in
      let direction : map value ray ≡ differences (length m.parameters) (ray_of s) =
      re ∙ ap (λ k. differences k (ray_of s)) t.parameters in
      let found = ray_found m i z task.cost s t.costs o in
      subst (λ (b : List ℕ). FindsRay m i z b column (map value ray)) (sym be)
      (subst (λ (c : ℕ). FindsRay m i z s.basis c (map value ray)) (sym ce)
      (subst (λ (r : List Fraction). FindsRay m i z s.basis (column_of s.state) r) (sym direction) found))

-- ---- a row that is wide
pub row_stop : (limit : ℕ) (m : RobustModel) (set : SetForm) → IsSetForm m set → (step : Bool) (i : ℕ)
    (z : List Fraction) (task : Task) → IsTaskOf m step i z task → (now : Solver) → now.limit ≡ deep_limit
    → (lp_stop : LpStop) → HasStoppedSearch limit (program_of_set set) task.cost lp_stop now
    → (p : ℕ) → p ≡ position_of lp_stop → (stop : Stop)
    → StopsAt now.basis (program_for task.by_step task.form) p stop → HasSearchCause limit m step i z stop
row_stop limit m set is step i z task t now deep lp_stop h p e stop at_row =
    let same : AreSame h.program (set_program m) = of_model m set is h.program h.same in
    let wide : TellsWideRow limit (search_at m i z) now.basis (position_of lp_stop) =
    wide_found limit m i z task.cost now t.costs h.program same h.start h.last h.without h.rows lp_stop h.stopped in
    let refused : IsRefusedSearch limit (search_at m i z) now.basis (position_of lp_stop) =
    refused_search m i z task.cost t.costs h.program same h.start h.last h.without now h.rows deep limit lp_stop
    h.caused in
    row_cause limit m step i z stop now.basis p
    (subst (λ (f : ℕ). StopsAt now.basis (program_for step f) p stop) t.form
    (subst (λ (b : Bool). StopsAt now.basis (program_for b task.form) p stop) t.step at_row))
    (subst (λ (k : ℕ). TellsWideRow limit (search_at m i z) now.basis k) (sym e) wide)
    (subst (λ (k : ℕ). IsRefusedSearch limit (search_at m i z) now.basis k) (sym e) refused)

-- ---- the answers
module _ {N : Type 0} (value : N → Fraction) (limit : ℕ) (m : RobustModel) (step : Bool) (i : ℕ) (z : List Fraction)
    (before now : ℕ) where
  pub search_stopped : (stop : Stop) → HasSearchCause limit m step i z stop → CountsStop before now stop
      → Searches value limit m step i z before now (Err stop)
  search_stopped stop h k = record { found = tt; stopped = h; counted = k }

  pub search_found : (worst : Worst N) → Tells value m i z worst → now ≡ before
      → Searches value limit m step i z before now (Ok worst)
  search_found worst h e = record { found = h; stopped = tt; counted = e }

  -- ---- with the set's program solved first
  pub set_stopped : (stop : Stop) → HasSetCause limit m stop → CountsStop before now stop
      → FindsWorst value limit m step i z before now (Err stop)
  set_stopped stop h k = record { found = tt; stopped = inl h; counted = k }

  pub then_searched : (middle : ℕ) (result : Result (Worst N) Stop) → middle ≡ before → HasScenario m
      → Searches value limit m step i z middle now result → FindsWorst value limit m step i z before now result
  then_searched middle (Ok x) e some h = record { found = (some, h.found); stopped = tt; counted = h.counted ∙ e }
  then_searched middle (Err stop) e some h = record {
    found = tt;
    stopped = inr (some, h.stopped);
    counted = subst (λ n. CountsStop n now stop) e h.counted;
  }

-- ---- two solvers of one set
pub same_rows : (Q : Program) (solved search : Solver) → IsSolved Q solved → IsMadeAs Q search
    → positions search ≡ positions solved
same_rows Q solved search h made = sym made.made.rows ∙ made.same.height ∙ sym h.last.same.height ∙ h.rows

pub same_columns : (Q : Program) (solved search : Solver) → IsSolved Q solved → IsMadeAs Q search
    → search.columns ≡ solved.columns
same_columns Q solved search h made = sym made.made.columns ∙ made.same.width ∙ sym h.last.same.width ∙ h.columns
