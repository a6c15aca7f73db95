use Rattle.rob_parse.proofs.Building.OneModel.{some_model, one_model, model_alike, not_both}
use Rattle.rob_parse.proofs.laws.one_model.Goals as goal

pub returns : goal.returns
returns c = record { some = some_model; model = one_model; widths = model_alike; not_both = not_both }
