use Rattle.rob_syntax.proofs.Fronts.PartLemmas.{refused_up}
use Rattle.rob_syntax.proofs.Fronts.OptionLemmas.{over_optional, nothing_found, something_found, something_missing}
use Rattle.rob_syntax.proofs.indexed.line.over.Goals as goal

pub returns-in_default : goal.returns-in_default
returns-in_default c = record { read = nothing_found over_optional c.in_default.ensures.read }

pub returns-in_err-set : goal.returns-in_err-set
returns-in_err-set c = record {
  read = refused_up _ _ _ c.from_residual.ensures.1 (something_missing over_optional c.in-Some.ensures.read)
      c.in_err-set.ensures.read;
}

pub returns : goal.returns
returns c = record { read = something_found over_optional c.in-Some.ensures.read c.in_ok-set.ensures.read }
