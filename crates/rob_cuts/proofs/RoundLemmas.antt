-- What the ending of a master and what is found at its plan and its direction lead to.
use Rattle.std.proofs.Common.{◌≡◌, inl, inr, ℕ, suc, ◌+◌, ◌<◌, ◌≤◌, ◌^◌, List, length, refl, sym, ap, ◌∙◌, subst, arith, true, false, Result, Ok, Err}
use Rattle.std.specs.Prelude.{IfOk, IfErr, MatchResult}
use Rattle.rob_algebra.specs.Fraction.{Fraction, of_int, ◌*ℚ◌}
use Rattle.rob_linear.specs.Vectors.{Matrix}
use Rattle.rob_meaning.specs.Certificates.{Cover}
use Rattle.rob_meaning.specs.Forms.{matrices}
use Rattle.rob_meaning.specs.RobustModel.{RobustModel, column_count}
use Rattle.rob_meaning.specs.UncertaintySet.{Admits}
use Rattle.rob_meaning.specs.Vectors.{scale}
use Rattle.rob_meaning.specs.WellFormed.{IsModel}
use Rattle.rob_number.specs.declared.lp_kind.LpKind.{LpKind}
use Rattle.rob_number.specs.declared.lp_kind.LpKind.TheVariants as kind
use Rattle.rob_cert.specs.declared.ending.Stop.{Stop}
use Rattle.rob_cert.specs.declared.ending.Stop.TheVariants.{EmptySet, Wide, Memory}
use Rattle.rob_cert.specs.declared.trace.Round.{Round as Traced}
use Rattle.rob_elab.specs.Forms.{IsForms}
use Rattle.rob_elab.specs.declared.forms.Forms.{Forms}
use Rattle.rob_rows.specs.LinearPrograms.{program_of}
use Rattle.rob_rows.specs.declared.program.Lp.{Lp}
use Rattle.rob_simplex.specs.Solvers.{Solver, column_of, positions}
use Rattle.rob_simplex.specs.Solutions.{point_of, dual_of, ray_of, weights_of}
use Rattle.rob_counterpart.specs.ReadCertificates.{plan_read, bound_read, weight_of}
use Rattle.rob_counterpart.specs.Splitting.{plus, minus, OneIsZero}
use Rattle.rob_dualize.specs.Ending.{HasEnded, StopsAt, position_of, infeasible_with}
use Rattle.rob_dualize.specs.Refusals.{IsRefusedAt}
use Rattle.rob_model.specs.declared.place.Program.TheVariants.{Master}
use Rattle.rob_simplex.specs.Endings.{HasSolved, HasAnswered, HasStopped}
use Rattle.rob_simplex.specs.declared.state.LpStop.{LpStop}
use Rattle.rob_solver.specs.Solving.{IsSolved, IsStopped, IsCausedBy}
use Rattle.rob_solver.specs.declared.solving.Solved.{Solved}
use Rattle.rob_solver.specs.declared.solving.Stopped.{Stopped}
use Rattle.rob_solver.specs.declared.solving.Stopped.TheVariants as unsolved
use Rattle.rob_cuts.specs.Stops.{HasFewRows}
use Rattle.rob_dualize.specs.Solving.{IsLastScenario}
use Rattle.rob_runs.specs.Cuts.{Cut, master_over}
use Rattle.rob_runs.specs.Readings.{AreKept, covers_of_amounts, cleared_by}
use Rattle.rob_runs.specs.Runs.{plan_at, direction_at, best, boundless, KeepsForms, CutsOff, MasterIsOptimal, MasterIsUnbounded, MasterIsInfeasible}
use Rattle.rob_runs.specs.Spots.{LooksAt}
use Rattle.rob_runs.proofs.Searching.FoundLemmas.{found_keeps}
use Rattle.rob_runs.proofs.Proving.RunCertificates.{length-direction_at}
use Rattle.rob_cuts.specs.Certificates.{CoveredPlan, optimal_with, unbounded_with, items_told}
use Rattle.rob_cuts.specs.Master.{IsMasterList}
use Rattle.rob_cuts.specs.Rounds.{round_told, cut_of, cuts_told, CutFits, TellsRun}
use Rattle.rob_cuts.specs.Scans.{IsScanStopped}
use Rattle.rob_cuts.specs.Outcomes.{EndsMaster, IsEnd, IsNext, IsWideNext}
use Rattle.rob_cuts.proofs.CertificateLemmas.{IsCoveredAt, optimal_end_is, infeasible_end_is, unbounded_end_is}
use Rattle.rob_cuts.proofs.EndingLemmas.{optimal_master, unbounded_master, infeasible_master}
use Rattle.rob_cuts.proofs.LookLemmas.{best_pairs, boundless_pairs, direction_pairs}
use Rattle.rob_cuts.proofs.MasterLemmas.{master_same, rights_count}
use Rattle.rob_cuts.proofs.RunLemmas.{length-cuts}
use Rattle.rob_cuts.proofs.StopLemmas.{master_place, scan_stopped}
use Rattle.rob_dualize.proofs.RefusalLemmas.{refused_at}
use Rattle.rob_dualize.proofs.SetLemmas.{same_trans}

module _ {m : RobustModel} {forms : Forms} (f : IsForms m forms) (rounds : List Traced) {master : Lp}
    (list : IsMasterList forms (cuts_told rounds) master) (s : Solver) where
  ended_as : (k : LpKind) → HasEnded (program_of master) k s → HasEnded (master_over m (cuts_told rounds)) k s
  ended_as k h = record {
    program = h.program;
    same = same_trans h.program (program_of master) (master_over m (cuts_told rounds)) h.same
        (master_same list f);
    rows = h.rows;
    columns = h.columns;
    solved = h.solved;
    answered = h.answered;
  }

  pub rounds_made : length master.b ≡ positions s → length rounds ≡ positions s
  rounds_made h = sym (length-cuts rounds) ∙ sym (rights_count list) ∙ h

  -- the row where the master's solver stopped is wide, and the master is refused for it
  refused_master : (limit : ℕ) (stop : LpStop) → (program_of master).m ≡ positions s
      → HasStopped limit (program_of master) stop s → IsCausedBy limit (program_of master) stop s
      → IsRefusedAt limit (master_over m (cuts_told rounds)) s.basis (position_of stop)
  refused_master limit stop rows wide caused =
      refused_at limit (program_of master) (master_over m (cuts_told rounds))
      (master_same list f) s rows stop wide caused

  master_stops : (limit i : ℕ) → IsRefusedAt limit (master_over m (cuts_told rounds)) s.basis i → (stop : Stop)
      → StopsAt s.basis Master i stop → IsWideNext limit m rounds stop
  master_stops limit i r (EmptySet weights) h = absurd h
  master_stops limit i r (Wide place trace) h =
      master_place limit m (cuts_told rounds) place s.basis i r.0 r.1 h.0
  master_stops limit i r Memory h = tt

  pub master_refused : (limit : ℕ) (stop : LpStop) {i : ℕ} → i ≡ position_of stop → (program_of master).m ≡ positions s
      → HasStopped limit (program_of master) stop s → IsCausedBy limit (program_of master) stop s → (told : Stop)
      → StopsAt s.basis Master i told → IsWideNext limit m rounds told
  master_refused limit stop {i = i} is rows wide caused =
      master_stops limit i
      (subst (IsRefusedAt limit (master_over m (cuts_told rounds)) s.basis) (sym is)
      (refused_master limit stop rows wide caused))

-- ---- a master over the rounds that has ended so
pub record IsEndedMaster (m : RobustModel) (forms : Forms) (rounds : List Traced) (master : Lp) (k : LpKind)
    (s : Solver) : Type 0 where
  pub are_forms : IsForms m forms
  pub list : IsMasterList forms (cuts_told rounds) master
  pub ended : HasEnded (program_of master) k s

pub round_of : {m : RobustModel} {forms : Forms} {rounds : List Traced} {master : Lp} {k : LpKind} {s : Solver}
    → IsForms m forms → IsMasterList forms (cuts_told rounds) master → HasEnded (program_of master) k s
    → IsEndedMaster m forms rounds master k s
round_of f list ended = record { are_forms = f; list = list; ended = ended }

module _ {m : RobustModel} {forms : Forms} {rounds : List Traced} {master : Lp} {k : LpKind} {s : Solver}
    (r : IsEndedMaster m forms rounds master k s) where
  pub master_ended : HasEnded (master_over m (cuts_told rounds)) k s
  master_ended = ended_as r.are_forms rounds r.list s k r.ended

  pub rounds_are_rows : length rounds ≡ positions s
  rounds_are_rows = let e = master_ended in sym (length-cuts rounds) ∙ sym e.same.height ∙ e.rows

  pub few_rounds : positions s < 2 ^ 31 → length rounds < 2 ^ 32
  few_rounds few = omega (arith, rounds_are_rows)

  pub columns_are_pairs : suc forms.columns + suc forms.columns ≡ s.columns
  columns_are_pairs =
      let e = master_ended in
      ap (λ (n : ℕ). suc n + suc n) r.are_forms.columns ∙ sym e.same.width ∙ e.columns

-- ---- with a best plan
module _ {m : RobustModel} {forms : Forms} {rounds : List Traced} {master : Lp} {s : Solver}
    (r : IsEndedMaster m forms rounds master kind.Optimal s) where
  best_master : MasterIsOptimal m (cuts_told rounds) s.basis (point_of s) (dual_of s)
  best_master = optimal_master m (cuts_told rounds) s (master_ended r)

  pub best_one : (j : ℕ) → j ≤ forms.columns → OneIsZero (point_of s (plus j)) (point_of s (minus j))
  best_one j l =
      let e : forms.columns ≡ column_count m = r.are_forms.columns in
      best_pairs m (cuts_told rounds) s.basis (point_of s) (dual_of s) best_master j (omega arith)

  best_looks : LooksAt m (cuts_told rounds) false (plan_at m (point_of s))
  best_looks = inl (record { basis = s.basis; x = point_of s; y = dual_of s; master = best_master; is = refl })

  pub best_stopped : (limit : ℕ) (stop : Stop) → IsScanStopped limit m false (plan_at m (point_of s)) stop
      → IsWideNext limit m rounds stop
  best_stopped limit = scan_stopped limit m (cuts_told rounds) false (plan_at m (point_of s)) best_looks

  pub best_next : (limit : ℕ) (c : Cut) → CutsOff m (plan_at m (point_of s)) c → CutFits limit (length m.parameters) c
      → (round : Traced) → round ≡ round_told (record { kind = best; by_step = false; basis = s.basis; cut = c })
      → IsNext limit m rounds round
  best_next limit c o fits round e = record {
    next = record { kind = best; by_step = false; basis = s.basis; cut = c };
    is_round = (point_of s, dual_of s, best_master, o);
    told = e;
    fits = subst (λ (r : Traced). CutFits limit (length m.parameters) (cut_of r)) (sym e) fits;
  }

  pub best_end : TellsRun m rounds → length rounds < 2 ^ 32 → (inside : List Fraction) → Admits m inside
      → IsLastScenario m inside
      → (amounts : ℕ → List Fraction) (p : CoveredPlan) → IsCoveredAt m (point_of s) amounts p
      → IsEnd m (cuts_told rounds) (optimal_with inside p (items_told (length (matrices m)) rounds (dual_of s)))
  best_end t few inside admitted last amounts p k =
      optimal_end_is m rounds t few inside admitted last s.basis (point_of s) (dual_of s) amounts p best_master k

-- ---- without any plan
module _ {m : RobustModel} {forms : Forms} {rounds : List Traced} {master : Lp} {s : Solver}
    (r : IsEndedMaster m forms rounds master kind.Infeasible s) where
  pub empty_end : TellsRun m rounds → length rounds < 2 ^ 32 → (inside : List Fraction) → Admits m inside
      → IsLastScenario m inside
      → IsEnd m (cuts_told rounds) (infeasible_with inside
      (items_told (length (matrices m)) rounds (λ q. of_int (weights_of s q))))
  empty_end t few inside admitted last =
      let o : (rows : Matrix) × MasterIsInfeasible m (cuts_told rounds) s.basis rows
      × ((q : ℕ) → q < length (cuts_told rounds) → of_int (weights_of s q)
      ≡ weight_of (master_over m (cuts_told rounds)) rows q) =
      infeasible_master m (cuts_told rounds) s (master_ended r) in
      let n : length (cuts_told rounds) ≡ length rounds = length-cuts rounds in
      infeasible_end_is m rounds t few inside admitted last s.basis o.0 (λ q. of_int (weights_of s q)) o.1
      (λ q l. o.2 q (omega arith))

-- ---- without a best plan
module _ {m : RobustModel} {forms : Forms} {rounds : List Traced} {master : Lp} {s : Solver}
    (r : IsEndedMaster m forms rounds master kind.Unbounded s) where
  boundless_master : MasterIsUnbounded m (cuts_told rounds) s.basis (column_of s.state) (point_of s) (ray_of s)
  boundless_master = unbounded_master m (cuts_told rounds) s (master_ended r)

  pub boundless_one : (j : ℕ) → j ≤ forms.columns → OneIsZero (point_of s (plus j)) (point_of s (minus j))
  boundless_one j l =
      let e : forms.columns ≡ column_count m = r.are_forms.columns in
      boundless_pairs m (cuts_told rounds) s.basis (column_of s.state) (point_of s) (ray_of s) boundless_master j
      (omega arith)

  pub direction_one : (j : ℕ) → j ≤ forms.columns → OneIsZero (ray_of s (plus j)) (ray_of s (minus j))
  direction_one j l =
      let e : forms.columns ≡ column_count m = r.are_forms.columns in
      direction_pairs m (cuts_told rounds) s.basis (column_of s.state) (point_of s) (ray_of s) boundless_master j
      (omega arith)

  pub step_looks : LooksAt m (cuts_told rounds) true (direction_at m (ray_of s))
  step_looks = record {
    basis = s.basis;
    column = column_of s.state;
    x = point_of s;
    r = ray_of s;
    master = boundless_master;
    is = refl;
  }

  pub step_stopped : (limit : ℕ) (stop : Stop) → IsScanStopped limit m true (direction_at m (ray_of s)) stop
      → IsWideNext limit m rounds stop
  step_stopped limit = scan_stopped limit m (cuts_told rounds) true (direction_at m (ray_of s)) step_looks

  pub step_next : (limit : ℕ) (c : Cut) → CutsOff m (direction_at m (ray_of s)) c
      → CutFits limit (length m.parameters) c → (round : Traced)
      → round ≡ round_told (record {
        kind = boundless (column_of s.state);
        by_step = true;
        basis = s.basis;
        cut = c;
      }) → IsNext limit m rounds round
  step_next limit c o fits round e = record {
    next = record { kind = boundless (column_of s.state); by_step = true; basis = s.basis; cut = c };
    is_round = (point_of s, ray_of s, boundless_master, o);
    told = e;
    fits = subst (λ (r : Traced). CutFits limit (length m.parameters) (cut_of r)) (sym e) fits;
  }

  -- where the direction keeps all forms
  module _ (model : IsModel m) (step_amounts : ℕ → List Fraction)
      (held : AreKept m (direction_at m (ray_of s)) step_amounts) where
    direction_keeps_all : KeepsForms m (direction_at m (ray_of s))
    direction_keeps_all i l =
        found_keeps m model i l (direction_at m (ray_of s)) (length-direction_at m (ray_of s))
        (held i l).basis (held i l).scenario (step_amounts i) (held i l).found (held i l).kept

    point_looks : LooksAt m (cuts_told rounds) false (plan_at m (point_of s))
    point_looks = inr (record {
      basis = s.basis;
      column = column_of s.state;
      x = point_of s;
      r = ray_of s;
      master = boundless_master;
      held = direction_keeps_all;
      is = refl;
    })

    pub point_stopped : (limit : ℕ) (stop : Stop) → IsScanStopped limit m false (plan_at m (point_of s)) stop
        → IsWideNext limit m rounds stop
    point_stopped limit = scan_stopped limit m (cuts_told rounds) false (plan_at m (point_of s)) point_looks

    pub point_next : (limit : ℕ) (c : Cut) → CutsOff m (plan_at m (point_of s)) c
        → CutFits limit (length m.parameters) c → (round : Traced)
        → round ≡ round_told (record {
          kind = boundless (column_of s.state);
          by_step = false;
          basis = s.basis;
          cut = c;
        }) → IsNext limit m rounds round
    point_next limit c o fits round e = record {
      next = record { kind = boundless (column_of s.state); by_step = false; basis = s.basis; cut = c };
      is_round = (point_of s, ray_of s, boundless_master, direction_keeps_all, o);
      told = e;
      fits = subst (λ (r : Traced). CutFits limit (length m.parameters) (cut_of r)) (sym e) fits;
    }

    pub boundless_end : TellsRun m rounds → length rounds < 2 ^ 32 → (inside : List Fraction) → Admits m inside
        → IsLastScenario m inside
        → (amounts : ℕ → List Fraction) (p : CoveredPlan) (step : List Fraction) (step_bound : Fraction)
        (holds : List Cover)
        → IsCoveredAt m (point_of s) amounts p
        → holds ≡ covers_of_amounts m step_amounts → step ≡ scale (cleared_by (direction_at m (ray_of s)))
        (plan_read m (ray_of s))
        → step_bound ≡ cleared_by (direction_at m (ray_of s)) *ℚ bound_read m (ray_of s)
        → IsEnd m (cuts_told rounds) (unbounded_with inside p step step_bound holds)
    boundless_end t few inside admitted last amounts p step step_bound holds k hh hs hb =
        unbounded_end_is m rounds t few inside admitted last s.basis (column_of s.state) (point_of s) (ray_of s)
        amounts step_amounts p step step_bound holds
        boundless_master k held hh hs hb

-- ---- how a program that was solved has ended
pub ended_so : {N : Type 0} (lp : Lp) {solver : Solver} {k named : LpKind}
    → IsSolved {N = N} (program_of lp) (record { solver = solver; kind = k }) → k ≡ named
    → HasEnded (program_of lp) named solver
ended_so lp {solver = solver} h e = record {
  program = program_of lp;
  same = record { height = refl; width = refl; rows = λ q k ql kl. refl; rights = λ q ql. refl; costs = λ k kl. refl };
  rows = h.rows;
  columns = h.columns;
  solved = subst (λ (j : LpKind). HasSolved (program_of lp) j solver) e h.answer;
  answered = subst (λ (j : LpKind). HasAnswered j solver) e h.answered;
}

pub ends_so : {N : Type 0} (lp : Lp) {solver : Solver} {k named : LpKind}
    → IsSolved {N = N} (program_of lp) (record { solver = solver; kind = k }) → k ≡ named → positions solver < 2 ^ 31
    → EndsMaster lp named solver
ends_so lp h e few = record { answer = ended_so lp h e; few = few }

pub few_rows : {N : Type 0} (limit : ℕ) (lp : Lp) (r : Result (Solved N) (Stopped N)) → length lp.b < 2 ^ 31
    → IfOk r (IsSolved (program_of lp)) → IfErr r (IsStopped limit (program_of lp))
    → MatchResult r (λ solved. positions solved.solver < 2 ^ 31) HasFewRows
few_rows limit lp (Ok solved) l h k = subst (λ (n : ℕ). n < 2 ^ 31) h.rows l
few_rows limit lp (Err (unsolved.Wide solver stop)) l h k = subst (λ (n : ℕ). n < 2 ^ 31) k.0 l
few_rows limit lp (Err unsolved.Memory) l h k = tt
