-- The text that `celltext` printed, as the model's file of a later call, and how `solve` and `prove` may end on it.
use Rattle.std.specs.Prelude.{◌≡◌, ◌⊎◌, ℕ, List}
use Rattle.rob_algebra.specs.Fraction.{Fraction}
use Rattle.rob_meaning.specs.Certificates.{optimal, infeasible, unbounded}
use Rattle.rob_meaning.specs.RobustModel.{RobustModel}
use Rattle.rob_model.specs.declared.place.Spot.{Spot}
use Rattle.rob_pieces.specs.Cuts.{Cut}
use Rattle.rob_pieces.specs.SplitModel.{split_model}
use Rattle.rob_sets.specs.FirstWide.{IsFirstWide}
use Rattle.rob_split_text.specs.SplitTexts.{HasFewTokens}
use Rattle.rob_top.specs.Calls.{Call}
use Rattle.rob_top.specs.Endings.{IsOutside}
use Rattle.rob_top.specs.Inputs.{HasModelText}
use Rattle.rob_top.specs.Routes.{IsWideOnWay}
use Rattle.rob_top.specs.Split.{EachCellAdmits, HasStatusOverPieces, IsSplitText}
use Rattle.rob_commands.specs.declared.ended.Ended.{Ended}
use Rattle.rob_commands.specs.declared.ended.Ended.TheVariants.{Optimal, Infeasible, Unbounded, EmptySet, TooWide}
use Rattle.rob_words.specs.Commands.{Line}
use Rattle.rob_words.specs.declared.route.Route.{Route}
use Rattle.rob_elab.specs.Written.{judged, IsWritten}

-- the model whose text was printed
abbrev pub written_split : {printing : Call} {text : List ℕ} → IsSplitText printing text → RobustModel
written_split split = split_model split.m split.cuts

-- the call takes the text that was printed: it is the text of its model, its line has the width of the line that
-- printed it, and it has no more tokens than a text may have
pub record TakesSplit {printing : Call} {text : List ℕ} (split : IsSplitText printing text) (call : Call) (line : Line)
    : Type 0 where
  pub given : HasModelText call line text
  pub width : line.width ≡ split.line.width
  pub few : HasFewTokens (written_split split)

-- an answer of `solve` and `prove` on the text of a split model, by a route: a status that the model has over pieces;
-- or an empty set, where not each cell holds an admitted scenario; or a number of the split model that is wide: the
-- first of its set rows and forms, or one on the route's way; or the outside failed, or memory was refused. No other is
abbrev pub IsPiecesAnswer : Route → ℕ → RobustModel → List Cut → Ended → Type 0
IsPiecesAnswer way limit m cuts Optimal = (v : Fraction) × HasStatusOverPieces m cuts optimal v
IsPiecesAnswer way limit m cuts Infeasible = (v : Fraction) × HasStatusOverPieces m cuts infeasible v
IsPiecesAnswer way limit m cuts Unbounded = (v : Fraction) × HasStatusOverPieces m cuts unbounded v
IsPiecesAnswer way limit m cuts (EmptySet weights) = EachCellAdmits m cuts → ⊥
IsPiecesAnswer way limit m cuts (TooWide spot) =
    IsFirstWide limit (split_model m cuts) (judged (split_model m cuts)) spot
    ⊎ IsWideOnWay way limit (split_model m cuts) spot
IsPiecesAnswer way limit m cuts ended = IsOutside ended

-- no number of the model's set rows and forms is wide, and none on the route's way
pub record IsNarrowOnWay (way : Route) (limit : ℕ) (m : RobustModel) : Type 0 where
  pub forms : IsWritten limit m
  pub none : (spot : Spot) → IsWideOnWay way limit m spot → ⊥
