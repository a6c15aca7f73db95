-- What the route answers, from what its steps answer.
use Rattle.std.proofs.Common.{◌≡◌, ℕ, ◌<◌, ◌≤◌, List, map, length, refl, sym, ap, ◌∙◌, subst, arith, Result, Ok, Err}
use Rattle.std.specs.Prelude.{MatchResult, IfOk}
use Rattle.rob_algebra.specs.Fraction.{Fraction, of_int}
use lib.IntN.{ℤ}
use Rattle.rob_linear.specs.Vectors.{Matrix}
use Rattle.rob_linear.specs.Systems.{System, IsBasis, Feasible}
use Rattle.rob_linear.specs.Programs.{Program, system_of, auxiliary_of}
use Rattle.rob_linear.specs.Turns.{own_of}
use Rattle.rob_linear.specs.Optimality.{IsBasicPoint}
use Rattle.rob_bounds.specs.Bounds.{IsNarrow, row_bound}
use Rattle.rob_bounds.proofs.NarrowPaths.{narrow_path}
use Rattle.std.specs.Int.RustNames.{unsigned_abs}
use Rattle.rob_counterpart.specs.SamePrograms.{AreSame}
use Rattle.rob_model.specs.declared.place.Spot.TheVariants as spot
use Rattle.rob_meaning.specs.Certificates.{Certificate}
use Rattle.rob_meaning.specs.Places.{tabulate}
use Rattle.rob_meaning.specs.RobustModel.{RobustModel}
use Rattle.rob_meaning.specs.SetRows.{set_rows}
use Rattle.rob_meaning.specs.UncertaintySet.{Admits}
use Rattle.rob_meaning.specs.WellFormed.{IsModel}
use Rattle.rob_meaning.proofs.Conditions.EmptyInLemmas.{shows_empty_in}
use Rattle.rob_meaning.proofs.Conditions.EmptyLemmas.{shows_empty}
use Rattle.rob_model.specs.declared.place.Spot.{Spot}
use Rattle.rob_model.specs.declared.place.Program.{Program as Named}
use Rattle.rob_model.specs.declared.place.Program.TheVariants as named
use Rattle.rob_number.specs.Counts.{raised}
use Rattle.rob_number.specs.declared.lp_kind.LpKind.TheVariants as kind
use Rattle.rob_number.specs.declared.memory.Memory.{Memory as NoMemory}
use Rattle.rob_simplex.specs.Dictionaries.{columns_of}
use Rattle.rob_simplex.specs.Solvers.{Solver, entries}
use Rattle.rob_simplex.specs.Solutions.{point_of, weights_of}
use Rattle.rob_simplex.specs.Endings.{HasWeightsFor}
use Rattle.rob_cert.specs.View.{certificate_of}
use Rattle.rob_cert.specs.declared.certificate.Cert.{Cert}
use Rattle.rob_cert.specs.declared.ending.Stop.{Stop}
use Rattle.rob_cert.specs.declared.ending.Stop.TheVariants.{EmptySet, Wide, Memory}
use Rattle.rob_counterpart.specs.Counterpart.{set_program, counterpart}
use Rattle.rob_counterpart.specs.Endings.{InfeasibleEnding}
use Rattle.rob_counterpart.specs.ReadCertificates.{weight_of, weights_read, scenario_read}
use Rattle.rob_counterpart.proofs.Positions.SamePaths.{last_same}
use Rattle.rob_counterpart.proofs.Positions.SameSystems.{systems_same}
use Rattle.rob_counterpart.proofs.Sets.OwnSetLemmas.{weights_in}
use Rattle.rob_counterpart.proofs.Sets.ScenarioLemmas.{set_weights, basis_admitted}
use Rattle.rob_counterpart.proofs.Pairs.TabulateLemmas.{tabulate-same}
use Rattle.rob_dualize.specs.Ending.{HasEnded, HasLastPoint, IsWideStop, StopsAt}
use Rattle.rob_dualize.specs.Refusals.{IsRefusedAt}
use Rattle.rob_dualize.specs.SetSolving.{Finds, HasSetCause}
use Rattle.rob_dualize.specs.Solving.{IsLastScenario, IsSolution, IsShownEmpty, IsWideOnPath, HasCause, CountsStop, IsNarrowModel, IsNotWide, Solves}
use Rattle.rob_dualize.proofs.EndingLemmas.{infeasible_end}
use Rattle.rob_dualize.proofs.TabulateLemmas.{map-tabulate}

rises : (n : ℕ) → n ≤ raised n
rises n = omega arith

-- ---- a wide row
-- the stop names a row of the basis
pub stops_at : (basis columns : List ℕ) (program : Named) (i : ℕ) (stop : Stop) → columns ≡ basis
    → IsWideStop (spot.Dictionary program columns i) stop
    → StopsAt basis program i stop
stops_at basis columns program i stop e h =
    subst (StopsAt basis program i) (sym h) (ap (λ b. spot.Dictionary program b i) e, refl)

module _ (limit : ℕ) (m : RobustModel) where
  pub wide_in_counterpart : (basis : List ℕ) (i : ℕ) (stop : Stop) (scenario : List Fraction) → Admits m scenario
      → IsRefusedAt limit (counterpart m) basis i
      → StopsAt basis named.Reform i stop → HasCause limit m stop
  wide_in_counterpart basis i (EmptySet weights) u a w h = absurd h
  wide_in_counterpart basis i (Wide place trace) u a w h = (
    subst (λ (p : Spot). IsWideOnPath limit m p) (sym h.0)
        ((u, a), w),
    h.1,
  )
  wide_in_counterpart basis i Memory u a w h = tt

pub wide_counted : (before now : ℕ) (basis : List ℕ) (program : Named) (i : ℕ) (stop : Stop) → now ≡ raised before
    → StopsAt basis program i stop → CountsStop before now stop
wide_counted before now basis program i (EmptySet weights) e h = absurd h
wide_counted before now basis program i (Wide place trace) e h = e
wide_counted before now basis program i Memory e h = subst (λ n. before ≤ n) (sym e) (rises before)

-- ---- want of memory
pub refused_counted : (before now : ℕ) (stop : Stop) → before ≤ now → stop ≡ Memory → CountsStop before now stop
refused_counted before now (EmptySet weights) l e = cc
refused_counted before now (Wide place trace) l e = cc
refused_counted before now Memory l e = l

pub refused_cause : (limit : ℕ) (m : RobustModel) (stop : Stop) → stop ≡ Memory → HasCause limit m stop
refused_cause limit m stop e = subst (HasCause limit m) (sym e) tt

-- ---- narrow models
pub narrow_spot : (limit : ℕ) (m : RobustModel) (place : Spot) → IsNarrowModel limit m → ¬ (IsWideOnPath limit m place)
narrow_spot limit m (spot.Dictionary named.Set basis i) n w =
    narrow_path limit (set_program m) n.set (columns_of basis) i w.0.row
narrow_spot limit m (spot.Dictionary named.Reform basis i) n w =
    narrow_path limit (counterpart m) n.counterpart (columns_of basis) i w.1.0.row
narrow_spot limit m other n w = absurd w

pub narrow_stop : (limit : ℕ) (m : RobustModel) (stop : Stop) → HasCause limit m stop → IsNarrowModel limit m
    → IsNotWide stop
narrow_stop limit m (EmptySet weights) h n = tt
narrow_stop limit m (Wide place trace) h n = narrow_spot limit m place n h.0
narrow_stop limit m Memory h n = tt

-- programs with the same numbers are narrow alike
pub narrow_same : (limit : ℕ) (P Q : Program) → AreSame P Q → IsNarrow limit P → IsNarrow limit Q
narrow_same limit P Q s n =
    let height : P.m ≡ Q.m = s.height in
    let width : P.n ≡ Q.n = s.width in
    record {
      size = n.size;
      positive = n.positive;
      sized = record {
        left = λ i j il jl. subst (λ v. unsigned_abs v ≤ n.size) (s.rows i j (omega arith) (omega arith))
            (n.sized.left i j (omega arith) (omega arith));
        right = λ i l. subst (λ v. unsigned_abs v ≤ n.size) (s.rights i (omega arith)) (n.sized.right i (omega arith));
        cost = λ j l. subst (λ v. unsigned_abs v ≤ n.size) (s.costs j (omega arith)) (n.sized.cost j (omega arith));
      };
      bound = subst (λ v. row_bound v n.size ≤ limit) height n.bound;
    }

-- ---- the certificate
module _ {N : Type 0} (value : N → Fraction) (limit : ℕ) (m : RobustModel) (before now : ℕ) where
  pub stopped_with : (stop : Stop) → HasCause limit m stop → CountsStop before now stop
      → Solves value limit m before now (Err stop)
  stopped_with stop h k = record { solved = tt; stopped = h; narrow = narrow_stop limit m stop h; counted = k }

  pub answered : (c : Certificate) → IsSolution m c → now ≡ before → (answer : Result (Cert N) NoMemory)
      → IfOk answer (λ cert. certificate_of value cert ≡ c)
      → (result : Result (Cert N) Stop) → MatchResult result (λ x. answer ≡ Ok x) (λ stop. stop ≡ Memory)
      → Solves value limit m before now result
  answered c s e answer h (Ok x) is = record {
    solved = subst (IsSolution m) (sym (subst (λ (r : Result (Cert N) NoMemory). IfOk r
        (λ cert. certificate_of value cert ≡ c)) is h)) s;
    stopped = tt;
    narrow = λ n. tt;
    counted = e;
  }
  answered c s e answer h (Err stop) is = stopped_with stop (refused_cause limit m stop is)
      (refused_counted before now stop (omega arith) is)

-- ---- the scenario
module _ (Q : Program) (s : Solver) (h : HasLastPoint Q s) where
  systems : system_of h.program ≡ system_of Q
  systems = systems_same h.program Q h.same

  pub last_basis : IsBasis (system_of Q) (own_of (system_of Q) (columns_of s.basis)) (entries s)
  last_basis = subst (λ (S : System). IsBasis S (own_of S (columns_of s.basis)) (entries s)) systems h.point.basis

  pub last_feasible : Feasible (system_of Q) (entries s)
  last_feasible = subst (λ (S : System). Feasible S (entries s)) systems h.feasible

  pub last_point : IsBasicPoint (system_of Q) (own_of (system_of Q) (columns_of s.basis)) (entries s) (point_of s)
  last_point = subst (λ (S : System). IsBasicPoint S (own_of S (columns_of s.basis)) (entries s) (point_of s)) systems
      h.point.basic

module _ (m : RobustModel) (model : IsModel m) (s : Solver) where
  pub scenario_found : HasLastPoint (set_program m) s → Admits m (scenario_read m (point_of s))
      × IsLastScenario m (scenario_read m (point_of s))
  scenario_found h = (
    basis_admitted m model (own_of (system_of (set_program m)) (columns_of s.basis)) (entries s) (point_of s)
        (last_basis (set_program m) s h) (last_feasible (set_program m) s h) (last_point (set_program m) s h),
    record {
      basis = columns_of s.basis;
      rows = entries s;
      point = point_of s;
      last = last_same h.program (set_program m) h.same (columns_of s.basis) h.point.last;
      is_basis = last_basis (set_program m) s h;
      is_point = last_point (set_program m) s h;
      scenario_is = refl;
    },
  )

  weights_shown : HasEnded (set_program m) kind.Infeasible s
      → IsShownEmpty m (tabulate (length (set_rows m)) (λ i. of_int (weights_of s i)))
  weights_shown h =
      let o : HasWeightsFor h.program s = h.solved in
      let en : (rows : Matrix) × InfeasibleEnding (set_program m)
      (own_of (auxiliary_of (set_program m)) (columns_of s.basis)) rows
      × ((t : ℕ) → t < (set_program m).m → of_int (weights_of s t) ≡ weight_of (set_program m) rows t) =
      infeasible_end (set_program m) s h in
      let e : tabulate (length (set_rows m)) (λ i. of_int (weights_of s i)) ≡ weights_read m en.0 =
      tabulate-same (length (set_rows m)) (λ i. of_int (weights_of s i)) (weight_of (set_program m) en.0) en.2 in
      let shown = set_weights m (own_of (auxiliary_of (set_program m)) (columns_of s.basis)) en.0 en.1 in
      let of_one = weights_in m model (own_of (auxiliary_of (set_program m)) (columns_of s.basis)) en.0 en.1 in
      subst (IsShownEmpty m) (sym e)
      (record {
        empty = shows_empty m model (weights_read m en.0) shown;
        shows = shown;
        set = of_one.0;
        shows_in = of_one.1;
        empty_in = shows_empty_in m model of_one.0 (weights_read m en.0) of_one.1;
        basis = columns_of s.basis;
        rows = en.0;
        last = last_same h.program (set_program m) h.same (columns_of s.basis) o.last;
        ending = en.1;
        weights_are = refl;
      })

  pub weights_told : HasEnded (set_program m) kind.Infeasible s → (weights : List ℤ) (n : ℕ)
      → weights ≡ tabulate n (weights_of s) → n ≡ length (set_rows m) → IsShownEmpty m (map of_int weights)
  weights_told h weights n e l =
      subst (IsShownEmpty m) (sym (ap (map of_int) (e ∙ ap (λ k. tabulate k (weights_of s)) l)
      ∙ map-tabulate of_int (length (set_rows m)) (weights_of s))) (weights_shown h)

-- ---- what is found of scenarios
module _ {N : Type 0} (value : N → Fraction) (limit : ℕ) (m : RobustModel) where
  pub not_found : (before now : ℕ) (stop : Stop) → HasSetCause limit m stop → CountsStop before now stop
      → Finds value limit m before now (Err stop)
  not_found before now stop h k = record { found = tt; stopped = h; counted = k }
