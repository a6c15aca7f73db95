use Rattle.rob_reach.proofs.NameLemmas.{named_behind, column_names-behind, form_names-behind}
use Rattle.rob_reach.proofs.boxes.box_name_laws.Goals as goal

pub returns : goal.returns
returns c = record { named = named_behind; columns = column_names-behind; forms = form_names-behind }
