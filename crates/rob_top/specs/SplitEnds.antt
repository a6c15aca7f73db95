-- Which answer has to come at `cells` and `celltext`.
use Rattle.std.specs.Prelude.{◌≡◌, ℕ, List, map}
use Rattle.rob_algebra.specs.Fraction.{Fraction, of_int}
use Rattle.rob_dualize.specs.Models.{IsWideIn}
use Rattle.rob_dualize.specs.Solving.{IsShownEmpty}
use Rattle.rob_meaning.specs.Certificates.{Status, optimal, infeasible, unbounded}
use Rattle.rob_meaning.specs.RobustModel.{RobustModel}
use Rattle.rob_model.specs.declared.place.Spot.{Spot}
use Rattle.rob_pieces.specs.Cuts.{Cut}
use Rattle.rob_pieces.specs.SplitModel.{split_model}
use Rattle.rob_sets.specs.FirstWide.{IsFirstWide}
use Rattle.rob_top.specs.Calls.{Call, limit_of}
use Rattle.rob_top.specs.Endings.{EndsAs, IsOutside, IsWideBefore}
use Rattle.rob_top.specs.Split.{BreaksCells, EachCellAdmits, HasSplit, HasStatusOverPieces}
use Rattle.rob_commands.specs.Replies.{ended_of}
use Rattle.rob_commands.specs.declared.ended.Ended.{Ended}
use Rattle.rob_commands.specs.declared.ended.Ended.TheVariants.{Optimal, Infeasible, Unbounded, Printed, EmptySet, TooWide, Cells as CellsRule}
use Rattle.rob_words.specs.Commands.{Line}
use Rattle.rob_words.specs.declared.verb.Verb.TheVariants.{Cells, CellText}
use Rattle.rob_elab.specs.Written.{judged}

-- an answer of `cells`: a status that the model has over pieces; or an empty set, where not each cell holds an
-- admitted scenario; or a number that is wide in the split model. No other is
abbrev pub IsCellsAnswer : ℕ → RobustModel → List Cut → Ended → Type 0
IsCellsAnswer limit m cuts Optimal = (v : Fraction) × HasStatusOverPieces m cuts optimal v
IsCellsAnswer limit m cuts Infeasible = (v : Fraction) × HasStatusOverPieces m cuts infeasible v
IsCellsAnswer limit m cuts Unbounded = (v : Fraction) × HasStatusOverPieces m cuts unbounded v
IsCellsAnswer limit m cuts (EmptySet weights) = EachCellAdmits m cuts → ⊥
IsCellsAnswer limit m cuts (TooWide spot) = IsWideIn limit (split_model m cuts) spot
IsCellsAnswer limit m cuts ended = IsOutside ended

-- one of them where not each cell holds an admitted scenario: weights that show it, or a number that is wide before
-- that is known. So no status is answered
abbrev pub IsEmptyCellsAnswer : ℕ → RobustModel → List Cut → Ended → Type 0
IsEmptyCellsAnswer limit m cuts (EmptySet weights) = IsShownEmpty (split_model m cuts) (map of_int weights)
IsEmptyCellsAnswer limit m cuts (TooWide spot) = IsWideBefore limit (split_model m cuts) spot
IsEmptyCellsAnswer limit m cuts ended = IsOutside ended

-- no number is wide in the split model
abbrev pub IsNarrowSplit : ℕ → RobustModel → List Cut → Type 0
IsNarrowSplit limit m cuts = (spot : Spot) → IsWideIn limit (split_model m cuts) spot → ⊥

module _ (call : Call) (result : Ended) where
  -- how a call of these commands must end
  pub record MustEndSplit : Type 0 where
    -- a rule is broken, so the first is named
    pub rule : (line : Line) (m : RobustModel) (rule : ℕ) → BreaksCells call line m rule
        → EndsAs (CellsRule rule) result
    -- `cells`: none is, so the answer is a status that the model has over pieces, or an empty set, or a number that
    -- is wide in the split model
    pub cells : (line : Line) (m : RobustModel) (cuts : List Cut) → HasSplit call line m cuts → line.verb ≡ Cells
        → IsCellsAnswer (limit_of line) m cuts result
    -- a number of the split model's set rows and forms is wide, so the first such number is named
    pub wide : (line : Line) (m : RobustModel) (cuts : List Cut) (spot : Spot) → HasSplit call line m cuts
        → line.verb ≡ Cells → IsFirstWide (limit_of line) (split_model m cuts) (judged (split_model m cuts)) spot
        → EndsAs (TooWide spot) result
    -- not each cell holds an admitted scenario, so it is that, with the weights that show it, or a wide number of the
    -- split model's set rows and forms, or of its sets' program
    pub empty : (line : Line) (m : RobustModel) (cuts : List Cut) → HasSplit call line m cuts → line.verb ≡ Cells
        → (EachCellAdmits m cuts → ⊥) → IsEmptyCellsAnswer (limit_of line) m cuts result
    -- each does, and no number is wide, so it is the status over pieces, which the model has
    pub status : (line : Line) (m : RobustModel) (cuts : List Cut) → HasSplit call line m cuts → line.verb ≡ Cells
        → EachCellAdmits m cuts → IsNarrowSplit (limit_of line) m cuts
        → (status : Status) × (v : Fraction) × HasStatusOverPieces m cuts status v × EndsAs (ended_of status) result
    -- `celltext`: no rule is broken, so the split model's text is printed
    pub written : (line : Line) (m : RobustModel) (cuts : List Cut) → HasSplit call line m cuts → line.verb ≡ CellText
        → EndsAs Printed result
