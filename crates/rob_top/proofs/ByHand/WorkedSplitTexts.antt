-- The text that `celltext` prints of the smallest model cut at 9, worked by hand: a call of `solve` takes it.
use Rattle.std.proofs.Common.{refl, arith}
use Rattle.std.proofs.lemmas.Bool.{leb-true}
use Rattle.std.specs.Fmt.{digits}
use Rattle.std.specs.Prelude.{codes}
use Rattle.rob_algebra.specs.Fraction.{ratio}
use Rattle.rob_cells.proofs.MeaningLemmas.{cell_sets, piece_status}
use Rattle.rob_dualize.proofs.NarrowModels.{one_demand_model}
use Rattle.rob_dualize.specs.SmallestModel.{one_demand}
use Rattle.rob_meaning.specs.RobustModel.{RobustModel}
use Rattle.rob_pieces.specs.Cuts.{AreCuts}
use Rattle.rob_pieces.specs.SplitModel.{split_model}
use Rattle.rob_split_text.specs.SplitTexts.{HasFewTokens}
use Rattle.rob_top.proofs.ByHand.WorkedCalls.{Comes, line_spelled}
use Rattle.rob_top.proofs.ByHand.WorkedCalls as solving
use Rattle.rob_top.proofs.ByHand.WorkedCells as cutting
use Rattle.rob_top.proofs.ByHand.WorkedCells.{keeps_9, text_at_9}
use Rattle.rob_top.specs.Split.{IsSplitText}
use Rattle.rob_top.specs.SplitTexts.{TakesSplit}
use Rattle.rob_top.specs.WorkedCalls.{cells_call, model_request, solve_call}
use Rattle.rob_top.specs.WorkedModels.{at_9}
use Rattle.rob_words.specs.Commands.{Line}
use Rattle.rob_words.specs.declared.verb.Verb.TheVariants.{CellText}
use Rattle.rob_write.specs.Canonical.{model_text}

abbrev s : RobustModel
s = split_model one_demand at_9

at_its_parameter : AreCuts one_demand at_9
at_its_parameter = (omega arith, tt)

printed : IsSplitText (cells_call (codes "celltext") (codes "d=9") one_demand) (model_text s)
printed = record {
  line = cutting.line CellText (codes "d=9");
  m = one_demand;
  cuts = at_9;
  has = text_at_9;
  is_text = refl;
  pieces = piece_status one_demand at_9 keeps_9 one_demand_model at_its_parameter;
  sets = cell_sets one_demand at_9 keeps_9 one_demand_model at_its_parameter;
  printed = refl;
}

split_comes : Comes s
unfolding ratio digits
split_comes = refl

split_is_few : HasFewTokens s
unfolding ratio digits
split_is_few = leb-true _ _ refl

pub split_is_taken : (split : IsSplitText (cells_call (codes "celltext") (codes "d=9") one_demand)
    (model_text (split_model one_demand at_9)))
    × ((line : Line) × TakesSplit split (solve_call (split_model one_demand at_9)) line)
unfolding printed
split_is_taken = (
  printed,
  (
    solving.line,
    record {
      given = record {
        spelled = line_spelled;
        came = ((model_text s, (split_comes, tt)), tt);
        file = record {
          request = model_request;
          named = refl;
          found = (split_comes, tt);
        };
      };
      width = refl;
      few = split_is_few;
    },
  ),
)
