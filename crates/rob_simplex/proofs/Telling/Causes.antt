-- Why a path isn't followed to an answer.
use Rattle.std.proofs.Common.{◌≡◌, ℕ, ◌<◌, refl, inl, inr, [], Option, Some, None}
use lib.IntN.{nat_abs}
use Rattle.rob_linear.specs.Vectors.{Columns, at}
use Rattle.rob_linear.specs.Programs.{Program}
use Rattle.rob_linear.specs.Paths.{Last, LastFrom}
use Rattle.rob_simplex.specs.declared.state.State.TheVariants.{Optimal, Infeasible, Unbounded}
use Rattle.rob_simplex.specs.Dictionaries.{Table, columns_of}
use Rattle.rob_simplex.specs.Endings.{HasWideWeight}
use Rattle.rob_simplex.specs.Judging.{TellsWideFirst}
use Rattle.rob_simplex.specs.PathEnds.{AreWeights, EndsWide, PathStops, PathStopsFrom}
use Rattle.rob_simplex.specs.Phases.{InSecond, EndsIn, EndsFrom}
use Rattle.rob_simplex.specs.Solvers.{Solver}
use Rattle.rob_simplex.proofs.Turns.PathsFrom.{second_from, wide_from}
use Rattle.rob_simplex.proofs.Telling.Solved.{optimum, ray_found, optimum_from, ray_from, weights_found}

-- ---- at the end of a path a number is told that is wide
pub ends_wide : (limit : ℕ) (P : Program) (t : Table) (growing : Option ℕ) (i : ℕ) → InSecond P t → EndsIn P growing t
    → TellsWideFirst limit growing t i → EndsWide (Last P) limit P t i
ends_wide limit P t None i h e w =
    let s : Solver = record { state = Optimal; dictionary = t; weights = [] } in
    record { last = (optimum P s h refl e).point.last; own = h.own; growing = None; ends = e; wide = w }
ends_wide limit P t (Some column) i h e w =
    let s : Solver = record { state = Unbounded column; dictionary = t; weights = [] } in
    record { last = (ray_found P s h refl e).point.last; own = h.own; growing = Some column; ends = e; wide = w }

pub ends_wide_from : (limit : ℕ) (P : Program) (start : Columns) (t : Table) (growing : Option ℕ) (i : ℕ)
    → EndsFrom P start growing t → TellsWideFirst limit growing t i → EndsWide (LastFrom P start) limit P t i
ends_wide_from limit P start t None i h w =
    let s : Solver = record { state = Optimal; dictionary = t; weights = [] } in
    record { last = (optimum_from s refl h).point.last; own = h.own; growing = None; ends = h.ends; wide = w }
ends_wide_from limit P start t (Some column) i h w =
    let s : Solver = record { state = Unbounded column; dictionary = t; weights = [] } in
    record {
      last = (ray_from s refl h).point.last;
      own = h.own;
      growing = Some column;
      ends = h.ends;
      wide =
          w;
    }

-- ---- a stop on the path that goes on from a basis of the program's path is one on that
pub stops_on : (limit : ℕ) (P : Program) (t t' : Table) (i : ℕ) → InSecond P t
    → PathStopsFrom limit P (columns_of t.basis) t' i → PathStops limit P t' i
stops_on limit P t t' i h (inl w) = inl (wide_from t'.limit P t (columns_of t'.basis) i h w)
stops_on limit P t t' i h (inr w) =
    let e : EndsFrom P (columns_of t.basis) w.growing t' =
    record { own = w.own; reached = w.last.reached; ends = w.ends } in
    let b : InSecond P t' × EndsIn P w.growing t' = second_from P t t' w.growing h e in
    inr (ends_wide limit P t' w.growing i b.0 b.1 w.wide)

-- ---- a weight is wide
pub wide_weight : (limit : ℕ) (P : Program) (s : Solver) (i : ℕ) → i ≡ P.m → AreWeights P s.basis s.weights → (k : ℕ)
    × (k < P.m) × (limit < nat_abs (at s.weights k)) → HasWideWeight limit P s i
wide_weight limit P s i e h k =
    let u : Solver = record { state = Infeasible; dictionary = s.dictionary; weights = s.weights } in
    let f = weights_found P u refl h in
    record {
      position = e;
      last = f.last;
      ending =
          record {
            rows = f.ending.rows;
            basis = f.ending.basis;
            ends = f.ending.ends;
            weights_are =
                f.ending.weights_are;
          };
      primitive = f.primitive;
      weight = k.0;
      inside = k.1;
      wide = k.2;
    }
