-- A model that is the split model of another is valid, named where that one is, and stands for its pieces.
use Rattle.std.proofs.Common.{◌≡◌, ◌≤◌, List, length, sym, subst, arith}
use Rattle.rob_algebra.specs.Fraction.{Fraction}
use Rattle.rob_cells.specs.Meaning.{HasCellSets, HasPieceStatus}
use Rattle.rob_cells.specs.Rules.{KeepsRules}
use Rattle.rob_meaning.specs.Named.{IsNamed}
use Rattle.rob_meaning.specs.RobustModel.{RobustModel}
use Rattle.rob_meaning.specs.WellFormed.{IsModel}
use Rattle.rob_model.specs.Limits.{IsWithinLimits}
use Rattle.rob_model.specs.Valid.{IsValid}
use Rattle.rob_model.specs.View.{robust}
use Rattle.rob_model.specs.declared.model.Model.{Model}
use Rattle.rob_pieces.proofs.CellLemmas.{some_cell}
use Rattle.rob_pieces.proofs.FormedLemmas.{split_is_model}
use Rattle.rob_pieces.proofs.NamedSplitLemmas.{split_is_named}
use Rattle.rob_pieces.proofs.PieceLemmas.{infeasible_agree, never_worse, optimal_agree, plan_is_piece, unbounded_agree}
use Rattle.rob_pieces.proofs.ScenarioLemmas.{cell_admits, cell_admitted, some_in_each}
use Rattle.rob_pieces.specs.Cuts.{AreCuts, Cut}
use Rattle.rob_pieces.specs.Pieces.{same_in_all}
use Rattle.rob_pieces.specs.SplitModel.{split_model}

module _ (m : RobustModel) (cuts : List Cut) (kept : KeepsRules m cuts) where
  pub split_named : length cuts ≤ 3 → IsNamed m → IsNamed (split_model m cuts)
  split_named few named =
      split_is_named m kept.alone cuts few named kept.names
      (let l = kept.limits.set_lines in omega (arith, l))

  module _ (model : IsModel m) (are : AreCuts m cuts) where
    pub piece_status : HasPieceStatus m cuts (split_model m cuts)
    piece_status = record {
      optimal = optimal_agree m model kept.alone cuts are;
      infeasible = infeasible_agree m model kept.alone cuts are;
      unbounded = unbounded_agree m model kept.alone cuts are;
      whole = λ plan tau h. (same_in_all m cuts plan, plan_is_piece m cuts plan tau h);
      never_worse = λ v w h k. never_worse m cuts v w h ((optimal_agree m model kept.alone cuts are w).0 k);
    }

    pub cell_sets : HasCellSets m cuts (split_model m cuts)
    cell_sets = record {
      covered = some_cell cuts;
      admitted = λ c u cell. (
        cell_admitted m model kept.alone cuts are u c cell,
        λ h. cell_admits m model kept.alone cuts are u c cell h.0 h.1,
      );
      some_admitted = some_in_each m model kept.alone cuts are;
    }

module _ {N : Type 0} (value : N → Fraction) (model other : Model N) (cuts : List Cut)
    (kept : KeepsRules (robust value model) cuts)
    (same : robust value other ≡ split_model (robust value model) cuts) (are : AreCuts (robust value model) cuts)
    (valid : IsValid value model) where
  pub valid_split : IsValid value other
  valid_split = record {
    well_formed = subst IsModel (sym same) (split_is_model (robust value model) valid.well_formed kept.alone cuts are);
    limits = subst IsWithinLimits (sym same) kept.limits;
  }

  pub named_split : length cuts ≤ 3 → IsNamed (robust value model) → IsNamed (robust value other)
  named_split few named = subst IsNamed (sym same) (split_named (robust value model) cuts kept few named)

  pub status_of_pieces : HasPieceStatus (robust value model) cuts (robust value other)
  status_of_pieces =
      subst (HasPieceStatus (robust value model) cuts) (sym same)
      (piece_status (robust value model) cuts kept valid.well_formed are)

  pub sets_of_cells : HasCellSets (robust value model) cuts (robust value other)
  sets_of_cells =
      subst (HasCellSets (robust value model) cuts) (sym same)
      (cell_sets (robust value model) cuts kept valid.well_formed are)
