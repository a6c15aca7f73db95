use Rattle.rob_case.proofs.LawLemmas.{spelled-shown_bytes}
use Rattle.rob_case.proofs.laws.shown_is_spelled.Goals as goal

pub returns : goal.returns
returns c = record { spelled = spelled-shown_bytes c.args.bytes.now (λ i. (c.type_inv.bytes i).fits) }
