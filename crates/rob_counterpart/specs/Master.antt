-- The master program of the cutting-plane method: each cut is a form at one point or ray of the set.
-- Kelley, The cutting-plane method for solving convex programs (1960); for robust programs: Mutapcic and Boyd (2009).
use Rattle.std.specs.Prelude.{◌≡◌, ℕ, suc, ◌/◌, ◌<◌, ◌≤◌, ℤ, neg_ℤ}
use Rattle.rob_linear.specs.Programs.{Program}
use Rattle.rob_counterpart.specs.RobustProgram.{RobustProgram, item_entry}
use Rattle.rob_counterpart.specs.Splitting.{plus, minus, signed_entry}
use Rattle.rob_counterpart.specs.Reform.{pairs, HasTauCost, tau_cost}

-- cuts by number: a form, a base and a vector each
pub record Cuts : Type 0 where
  pub count : ℕ
  pub form : ℕ → ℕ
  pub base : ℕ → ℤ
  pub vector : ℕ → ℕ → ℤ

-- cut q's number at plan column j
abbrev pub cut_entry : RobustProgram → Cuts → ℕ → ℕ → ℤ
cut_entry d cuts q j = item_entry d (cuts.form q) (cuts.base q) (cuts.vector q) j

-- P's columns are the plan's pairs, and each of its rows is a cut that is at most 0
pub record IsMaster (d : RobustProgram) (cuts : Cuts) (P : Program) : Type 0 where
  pub height : P.m ≡ cuts.count
  pub width : P.n ≡ pairs d
  pub at_plus : (q j : ℕ) → q < cuts.count → j ≤ d.decisions → P.a q (plus j) ≡ cut_entry d cuts q (suc j)
  pub at_minus : (q j : ℕ) → q < cuts.count → j ≤ d.decisions → P.a q (minus j) ≡ neg_ℤ (cut_entry d cuts q (suc j))
  pub at_right : (q : ℕ) → q < cuts.count → P.b q ≡ neg_ℤ (cut_entry d cuts q 0)
  pub cost : HasTauCost d P
  pub open cost use *

-- the master over these cuts
abbrev pub master_of : RobustProgram → Cuts → Program
master_of d cuts = record {
  m = cuts.count;
  n = pairs d;
  a = λ q k. signed_entry k (cut_entry d cuts q (suc (k / 2)));
  b = λ q. neg_ℤ (cut_entry d cuts q 0);
  c = tau_cost d;
}
