use Rattle.rob_reach.proofs.BoxLemmas.{path_model, path_admits, path_bound, whole_split}
use Rattle.rob_reach.proofs.boxes.box_laws.Goals as goal

pub returns : goal.returns
returns c = record { model = path_model; admitted = path_admits; bound = path_bound; split = whole_split }
