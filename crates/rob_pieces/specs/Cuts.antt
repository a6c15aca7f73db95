-- Cuts of an uncertainty set, and the cells that they make. A cut is a parameter and a number; q cuts make 2^q cells,
-- numbered from 1. A scenario that lies on a cut is in cells on both sides of it. The general idea of a policy for
-- each part of the set: Bertsimas and Dunning, Multistage Robust Mixed-Integer Optimization with Adaptive Partitions
-- (2016). Cells that are made by cutting single parameters are this project's own choice.
use Rattle.std.specs.Prelude.{ℕ, zero, suc, pred, ◌/◌, ◌%◌, ◌^◌, ◌<◌, ◌≤◌, List, [], ◌∷◌, length}
use Rattle.rob_algebra.specs.Fraction.{Fraction, ◌≤ℚ◌}
use Rattle.rob_meaning.specs.Places.{Each, at, tabulate}
use Rattle.rob_meaning.specs.RobustModel.{RobustModel}

-- a cut: a written parameter's number, and the number at which it is cut
pub record Cut : Type 0 where
  pub parameter : ℕ
  pub level : Fraction

-- the cuts are at parameters of the model
abbrev pub AreCuts : RobustModel → List Cut → Type 0
AreCuts m cuts = Each (λ (cut : Cut). cut.parameter < length m.parameters) cuts

-- bit `k` of a number, bit 0 being the lowest
abbrev pub bit : ℕ → ℕ → ℕ
bit k n = n / 2 ^ k % 2

-- the number of cells
abbrev pub cell_count : List Cut → ℕ
cell_count cuts = 2 ^ length cuts

-- the cells in order: 1, 2 ..
abbrev pub cell_numbers : List Cut → List ℕ
cell_numbers cuts = tabulate (cell_count cuts) suc

-- `c` is one of the cells
abbrev pub IsCell : List Cut → ℕ → Type 0
IsCell cuts c = (0 < c) × (c ≤ cell_count cuts)

-- the scenario is on the side of the cut: at most its number on side 0, at least it on the other
abbrev pub IsOnSide : Cut → ℕ → List Fraction → Type 0
IsOnSide cut zero u = at u cut.parameter ≤ℚ cut.level
IsOnSide cut (suc side) u = cut.level ≤ℚ at u cut.parameter

-- cell `c` holds the scenario: it is on the cell's side of each cut; cut j of q takes bit q - j of c - 1
abbrev pub CellHolds : List Cut → ℕ → List Fraction → Type 0
CellHolds [] c u = Unit {0}
CellHolds (cut ∷ cuts) c u = IsOnSide cut (bit (length cuts) (pred c)) u × CellHolds cuts c u
