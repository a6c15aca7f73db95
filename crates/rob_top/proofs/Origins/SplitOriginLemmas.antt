-- What stands behind an answer of `cells` and `celltext`.
use Rattle.std.proofs.Common.{◌≡◌, ℕ, ℤ, List, map, refl}
use Rattle.rob_algebra.specs.Fraction.{Fraction, of_int}
use Rattle.rob_dualize.specs.Models.{IsWideIn}
use Rattle.rob_dualize.specs.Solving.{IsShownEmpty}
use Rattle.rob_meaning.specs.Certificates.{Status}
use Rattle.rob_meaning.specs.RobustModel.{RobustModel}
use Rattle.rob_model.specs.declared.place.Spot.{Spot}
use Rattle.rob_pieces.specs.Cuts.{Cut}
use Rattle.rob_pieces.specs.SplitModel.{split_model}
use Rattle.rob_top.specs.Calls.{Call, limit_of}
use Rattle.rob_top.specs.Inputs.{HasModel}
use Rattle.rob_top.specs.Split.{BreaksCells, EachCellAdmits, HasSplit, HasStatusOverPieces, IsEmptyCell, IsPieced, IsSplitText, IsWideSplit, named_set, no_parameter, of_split}
use Rattle.rob_top.specs.Commands.{IsSplitting}
use Rattle.rob_commands.specs.Replies.{ended_of}
use Rattle.rob_commands.specs.declared.ended.Ended.{Ended}
use Rattle.rob_commands.specs.declared.ended.Ended.TheVariants.{Printed, EmptySet, TooWide, Cells as CellsRule}
use Rattle.rob_words.specs.Commands.{Line}
use Rattle.rob_words.specs.declared.verb.Verb.TheVariants.{Cells, CellText}
use Rattle.rob_elab.specs.Written.{IsWritten}

-- a rule that is broken; a status over pieces, where each cell holds an admitted
-- scenario, or an empty set, and no number of the split model's set rows and
-- forms is wide; a number that is wide in the split model; or that model's text
pub data SplitOrigin (call : Call) (line : Line) (m : RobustModel) (ended : Ended) : Type 0 where
  breaks_cells : (rule : ℕ) → BreaksCells call line m rule → ended ≡ CellsRule rule → SplitOrigin call line m ended
  finds_pieces : (cuts : List Cut) (status : Status) (v : Fraction) → HasSplit call line m cuts → line.verb ≡ Cells
      → IsWritten (limit_of line) (split_model m cuts) → EachCellAdmits m cuts → HasStatusOverPieces m cuts status v
      → ended ≡ ended_of status → SplitOrigin call line m ended
  shows_empty_cell : (cuts : List Cut) (weights : List ℤ) → HasSplit call line m cuts → line.verb ≡ Cells
      → IsWritten (limit_of line) (split_model m cuts) → IsShownEmpty (split_model m cuts) (map of_int weights)
      → (EachCellAdmits m cuts → ⊥) → ended ≡ EmptySet weights
      → SplitOrigin call line m ended
  wide_cell : (cuts : List Cut) (spot : Spot) → HasSplit call line m cuts → line.verb ≡ Cells
      → IsWideIn (limit_of line) (split_model m cuts) spot → ended ≡ TooWide spot → SplitOrigin call line m ended
  writes_split : (cuts : List Cut) → HasSplit call line m cuts → line.verb ≡ CellText → ended ≡ Printed
      → SplitOrigin call line m ended

module _ (call : Call) where
  pub cells_model : (line : Line) (m : RobustModel) (rule : ℕ) → BreaksCells call line m rule → HasModel call line m
  cells_model line m rule (named_set word has some e) = has.model
  cells_model line m rule (no_parameter word has alone none e) = has.model
  cells_model line m rule (of_split cuts has breaks) = has.has_word.model

  pub cells_splits : (line : Line) (m : RobustModel) (rule : ℕ) → BreaksCells call line m rule → IsSplitting line.verb
  cells_splits line m rule (named_set word has some e) = has.is_splitting
  cells_splits line m rule (no_parameter word has alone none e) = has.is_splitting
  cells_splits line m rule (of_split cuts has breaks) = has.has_word.is_splitting

  pub pieced_origin : (status : Status) (text : List ℕ) (h : IsPieced call status text)
      → SplitOrigin call h.line h.m (ended_of status)
  pieced_origin status text h = finds_pieces h.cuts status h.c.value h.has h.is_cells h.written h.admits h.holds refl

  pub written_origin : (text : List ℕ) (h : IsSplitText call text) → SplitOrigin call h.line h.m Printed
  written_origin text h = writes_split h.cuts h.has h.is_text refl

  pub empty_cell_origin : (weights : List ℤ) (text : List ℕ) (h : IsEmptyCell call weights text)
      → SplitOrigin call h.line h.m (EmptySet weights)
  empty_cell_origin weights text h = shows_empty_cell h.cuts weights h.has h.is_cells h.written h.shown h.not_each refl

  pub wide_split_origin : (spot : Spot) (text : List ℕ) (h : IsWideSplit call spot text)
      → SplitOrigin call h.line h.m (TooWide spot)
  wide_split_origin spot text h = wide_cell h.cuts spot h.has h.is_cells h.wide refl
