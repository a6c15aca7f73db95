-- Piecewise policies: shared variables, and in each cell a policy of its own for each adaptive variable. What a piece
-- guarantees, and when a model is optimal, infeasible or unbounded over pieces. The model has one uncertainty set.
-- The general idea of a policy for each part of the set: Bertsimas and Dunning, Multistage Robust Mixed-Integer
-- Optimization with Adaptive Partitions (2016). No condition links the cells' policies.
use Rattle.std.specs.Prelude.{◌≡◌, ℕ, zero, suc, pred, ◌+◌, ◌*◌, List, [], ◌∷◌, ◌++◌, length, get_or, flat_map, take, drop}
use Rattle.rob_algebra.specs.Fraction.{Fraction}
use Rattle.rob_meaning.specs.Guarantee.{IsNoWorse, KeepsIn}
use Rattle.rob_meaning.specs.Places.{at, Each, EachFrom, tabulate}
use Rattle.rob_meaning.specs.RobustModel.{RobustModel, Variable, column_from}
use Rattle.rob_meaning.specs.UncertaintySet.{KeepsBounds, AdmitsIn}
use Rattle.rob_pieces.specs.Cuts.{Cut, cell_count, IsCell, CellHolds}

-- a piece: a number for each variable, and for each cell the numbers of its policies: for each adaptive variable its
-- constant and then its coefficients
pub record Piece : Type 0 where
  pub variables : List Fraction
  pub policies : List (List Fraction)

-- how many numbers the policies of one cell have
abbrev pub policy_columns : RobustModel → ℕ
policy_columns m = column_from 0 m.adaptives (length m.adaptives)

-- the plan that a piece has in cell `c`: the shared variables and that cell's policies
abbrev pub plan_in : Piece → ℕ → List Fraction
plan_in piece c = piece.variables ++ get_or piece.policies (pred c) []

-- the piece has bound tau: it has a number for each variable and each cell's policies; in every admitted scenario and
-- every cell that holds it, that cell's plan keeps all rows, the declared bounds and an objective no worse than tau;
-- and it keeps each declared bound of a variable
pub record PieceBound (m : RobustModel) (cuts : List Cut) (piece : Piece) (tau : Fraction) : Type 0 where
  pub shared : length piece.variables ≡ length m.variables
  pub cells : length piece.policies ≡ cell_count cuts
  pub columns : Each (λ (policy : List Fraction). length policy ≡ policy_columns m) piece.policies
  pub keeps :
      (u : List Fraction) → AdmitsIn m 0 u → (c : ℕ) → IsCell cuts c → CellHolds cuts c u
      → KeepsIn m (plan_in piece c) tau 0 u
  pub variables : EachFrom zero (λ k (x : Variable). KeepsBounds x.lower x.upper (at piece.variables k)) m.variables

-- the model is optimal over pieces at v: some piece has bound v, and no piece has a better one
pub record IsPieceOptimal (m : RobustModel) (cuts : List Cut) (v : Fraction) : Type 0 where
  pub attained : (piece : Piece) × PieceBound m cuts piece v
  pub none_better : (piece : Piece) (tau : Fraction) → PieceBound m cuts piece tau → IsNoWorse m.sense v tau

-- the model is infeasible over pieces: no piece has any bound
abbrev pub IsPieceInfeasible : RobustModel → List Cut → Type 0
IsPieceInfeasible m cuts = (piece : Piece) (tau : Fraction) → PieceBound m cuts piece tau → ⊥

-- the model is unbounded over pieces: every number is a bound of some piece
abbrev pub IsPieceUnbounded : RobustModel → List Cut → Type 0
IsPieceUnbounded m cuts = (tau : Fraction) → (piece : Piece) × PieceBound m cuts piece tau

-- ---- plans of the split model and pieces: the same numbers in another order

-- the numbers of a list of lists, one after another
abbrev pub joined_lists : List (List Fraction) → List Fraction
joined_lists xss = flat_map (λ xs. xs) xss

-- the split model's plan for a piece with bound tau: the shared variables, tau for `cells_worst`, and the cells'
-- policies
abbrev pub plan_of : Piece → Fraction → List Fraction
plan_of piece tau = piece.variables ++ (tau ∷ joined_lists piece.policies)

module _ (m : RobustModel) where
  -- the numbers that a plan of the split model has for the policies of the cell behind `i` others
  abbrev pub policy_at : List Fraction → ℕ → List Fraction
  policy_at all i = tabulate (policy_columns m) (λ j. at all (suc (length m.variables) + i * policy_columns m + j))

  -- the piece in a plan of the split model
  abbrev pub piece_of : List Cut → List Fraction → Piece
  piece_of cuts all = record {
    variables = tabulate (length m.variables) (at all);
    policies = tabulate (cell_count cuts) (policy_at all);
  }

  -- a plan of the model as a piece: the same policies in all cells
  abbrev pub same_in_all : List Cut → List Fraction → Piece
  same_in_all cuts plan = record {
    variables = take (length m.variables) plan;
    policies = tabulate (cell_count cuts) (λ i. drop (length m.variables) plan);
  }
