-- What a split model is good for: its plans are the pieces of the model, its sets the cells.
use Rattle.std.specs.Prelude.{ℕ, List, ◌↔◌}
use Rattle.rob_algebra.specs.Fraction.{Fraction}
use Rattle.rob_meaning.specs.Guarantee.{HasBound, IsNoWorse}
use Rattle.rob_meaning.specs.RobustModel.{RobustModel}
use Rattle.rob_meaning.specs.Status.{IsInfeasible, IsOptimal, IsUnbounded}
use Rattle.rob_meaning.specs.UncertaintySet.{Admits, AdmitsIn}
use Rattle.rob_pieces.specs.Cuts.{CellHolds, Cut, IsCell}
use Rattle.rob_pieces.specs.Pieces.{IsPieceInfeasible, IsPieceOptimal, IsPieceUnbounded, Piece, PieceBound}

-- the model `s` has each status exactly where the model `m` has it over pieces; where a plan of `m` has a bound a piece
-- has it, so an optimum of `s` is no worse than one of `m`
pub record HasPieceStatus (m : RobustModel) (cuts : List Cut) (s : RobustModel) : Type 0 where
  pub optimal : (v : Fraction) → IsOptimal s v ↔ IsPieceOptimal m cuts v
  pub infeasible : IsInfeasible s ↔ IsPieceInfeasible m cuts
  pub unbounded : IsUnbounded s ↔ IsPieceUnbounded m cuts
  pub whole :
      (plan : List Fraction) (tau : Fraction) → HasBound m plan tau → (piece : Piece) × PieceBound m cuts piece tau
  pub never_worse : (v w : Fraction) → IsOptimal m v → IsOptimal s w → IsNoWorse m.sense w v

-- each scenario is in a cell; set c of the model `s` admits what `m` admits and cell c holds; and some joint scenario
-- of `s` is admitted exactly where each cell holds an admitted scenario
pub record HasCellSets (m : RobustModel) (cuts : List Cut) (s : RobustModel) : Type 0 where
  pub covered : (u : List Fraction) → (c : ℕ) × (IsCell cuts c × CellHolds cuts c u)
  pub admitted : (c : ℕ) (u : List Fraction) → IsCell cuts c → AdmitsIn s c u ↔ (AdmitsIn m 0 u × CellHolds cuts c u)
  pub some_admitted :
      ((w : List Fraction) × Admits s w)
      ↔ ((c : ℕ) → IsCell cuts c → (u : List Fraction) × (AdmitsIn m 0 u × CellHolds cuts c u))
