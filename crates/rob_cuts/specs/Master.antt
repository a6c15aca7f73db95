-- The master program over cuts, as the code lists it: a row for each cut, and the cost of tau.
-- Kelley, The cutting-plane method for solving convex programs (1960).
use Rattle.std.specs.Prelude.{◌≡◌, ℕ, suc, ◌+◌, ◌/◌, ℤ, ◌*ℤ◌, neg_ℤ, List, [], ◌∷◌, ◌++◌, map}
use Rattle.rob_linear.specs.Vectors.{Vector, at, sum_to}
use Rattle.rob_meaning.specs.Forms.{matrix_at}
use Rattle.rob_meaning.specs.Places.{tabulate}
use Rattle.rob_elab.specs.declared.forms.Forms.{Forms}
use Rattle.rob_rows.specs.declared.program.Lp.{Lp}
use Rattle.rob_counterpart.specs.Counterpart.{cell}
use Rattle.rob_counterpart.specs.Splitting.{signed_entry}
use Rattle.rob_dualize.specs.Wholes.{cost_of}
use Rattle.rob_runs.specs.Cuts.{Cut}

-- the products that are summed for the cut's number in column j
abbrev pub cut_product : Forms → Cut → ℕ → Vector
cut_product forms c j k = cell (matrix_at forms.matrices c.form) k j *ℤ at (c.base ∷ c.vector) k

-- the cut's number in column j: column 0 is the constant, the last is tau
abbrev pub cut_number : Forms → Cut → ℕ → ℤ
cut_number forms c j = sum_to (suc forms.params) (cut_product forms c j)

-- the number of the master's columns: a pair for each decision column, and one for tau
abbrev pub plan_pairs : Forms → ℕ
plan_pairs forms = suc forms.columns + suc forms.columns

-- the cut's number at column k of the master
abbrev pub cut_entry : Forms → Cut → ℕ → ℤ
cut_entry forms c k = signed_entry k (cut_number forms c (suc (k / 2)))

-- the row of a cut, which is to be at most its right side
abbrev pub cut_row : Forms → Cut → List ℤ
cut_row forms c = tabulate (plan_pairs forms) (cut_entry forms c)

-- its right side
abbrev pub cut_right : Forms → Cut → ℤ
cut_right forms c = neg_ℤ (cut_number forms c 0)

-- the program lists the master over these cuts
pub record IsMasterList (forms : Forms) (cuts : List Cut) (lp : Lp) : Type 0 where
  pub a : lp.a ≡ map (cut_row forms) cuts
  pub b : lp.b ≡ map (cut_right forms) cuts
  pub c : lp.c ≡ tabulate (plan_pairs forms) (cost_of forms)

-- a cut more
pub record AddsCut (forms : Forms) (cut : Cut) (before now : Lp) : Type 0 where
  pub a : now.a ≡ before.a ++ cut_row forms cut ∷ []
  pub b : now.b ≡ before.b ++ cut_right forms cut ∷ []
  pub c : now.c ≡ before.c
