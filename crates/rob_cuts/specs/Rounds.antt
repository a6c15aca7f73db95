-- The rounds that the route tells, and the run that they are.
use Rattle.std.specs.Prelude.{◌≡◌, ◌≤◌, ℕ, pos, nat_abs, List, map, length}
use Rattle.rob_algebra.specs.Fraction.{Fraction}
use Rattle.rob_meaning.specs.Clearing.{denominator}
use Rattle.rob_number.specs.declared.lp_kind.LpKind.{LpKind}
use Rattle.rob_number.specs.declared.lp_kind.LpKind.TheVariants.{Optimal, Unbounded}
use Rattle.rob_cert.specs.declared.trace.Round.{Round as Traced}
use Rattle.rob_meaning.specs.Places.{Each}
use Rattle.rob_meaning.specs.RobustModel.{RobustModel}
use Rattle.rob_runs.specs.Cuts.{Cut, wholes}
use Rattle.rob_runs.specs.Runs.{Round, RoundKind, best, boundless, kind_column, IsRun}

-- the solver's name for how a round's master ends
abbrev pub kind_told : RoundKind → LpKind
kind_told best = Optimal
kind_told (boundless column) = Unbounded

-- a round as it is told
abbrev pub round_told : Round → Traced
round_told r = record {
  kind = kind_told r.kind;
  by_step = r.by_step;
  basis = r.basis;
  column = kind_column r.kind;
  form = r.cut.form;
  base = r.cut.base;
  vector = r.cut.vector;
}

-- the cut of a told round
abbrev pub cut_of : Traced → Cut
cut_of r = record { form = r.form; base = r.base; vector = r.vector }

-- the cuts of told rounds
abbrev pub cuts_told : List Traced → List Cut
cuts_told rounds = map cut_of rounds

-- the rounds are what is told of a run
pub record TellsRun (m : RobustModel) (rounds : List Traced) : Type 0 where
  pub trace : List Round
  pub run : IsRun m trace
  pub told : rounds ≡ map round_told trace

-- the cut of a form at a scenario: times its least common denominator, which is the base
abbrev pub scenario_cut_of : ℕ → List Fraction → Cut
scenario_cut_of form scenario = record { form = form; base = pos (denominator scenario); vector = wholes scenario }

-- the cut of a form at a ray, likewise, the base being 0
abbrev pub ray_cut_of : ℕ → List Fraction → Cut
ray_cut_of form ray = record { form = form; base = pos 0; vector = wholes ray }

-- no number of the cut is over the limit in size, and it has one for each of n parameters
pub record CutFits (limit n : ℕ) (c : Cut) : Type 0 where
  pub base : nat_abs c.base ≤ limit
  pub vector : Each (λ a. nat_abs a ≤ limit) c.vector
  pub count : length c.vector ≡ n

-- the same of a told round, whatever the number of parameters
pub record RoundFits (limit : ℕ) (r : Traced) : Type 0 where
  pub base : nat_abs r.base ≤ limit
  pub vector : Each (λ a. nat_abs a ≤ limit) r.vector
