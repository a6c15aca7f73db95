use Rattle.rob_report.proofs.SpotLemmas.{forms_spot, set_spot}
use Rattle.rob_report.proofs.laws.spot_laws.Goals as goal

pub returns : goal.returns
returns c = record { set = set_spot; forms = forms_spot }
