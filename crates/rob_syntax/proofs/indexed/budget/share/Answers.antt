use Rattle.rob_syntax.proofs.Fronts.PartLemmas.{refused_up}
use Rattle.rob_syntax.proofs.Fronts.ListLemmas.{no_share_name, no_at, no_centre, no_by, no_deviation, share_found}
use Rattle.rob_syntax.proofs.indexed.budget.share.Goals as goal

pub returns-in_err-name : goal.returns-in_err-name
returns-in_err-name c =
    record { read = refused_up _ _ _ c.from_residual.ensures.1 no_share_name c.in_err-name.ensures.read }

pub returns-in_default : goal.returns-in_default
returns-in_default c = record { read = no_at c.in_ok-name.ensures.read c.in_default.ensures.read }

pub returns-in_default-signed : goal.returns-in_default-signed
returns-in_default-signed c =
    record { read = no_centre c.in_ok-name.ensures.read c.in-Some.ensures.read c.in_default-signed.ensures.read }

pub returns-in_default-behind_word : goal.returns-in_default-behind_word
returns-in_default-behind_word c =
    record {
      read = no_by c.in_ok-name.ensures.read c.in-Some.ensures.read c.in-Some-signed.ensures.read
          c.in_default-behind_word.ensures.read;
    }

pub returns-in_default-number : goal.returns-in_default-number
returns-in_default-number c =
    record {
      read = no_deviation c.in_ok-name.ensures.read c.in-Some.ensures.read c.in-Some-signed.ensures.read
          c.in-Some-behind_word.ensures.read c.in_default-number.ensures.read;
    }

pub returns : goal.returns
returns c =
    record {
      read = share_found c.in_ok-name.ensures.read c.in-Some.ensures.read c.in-Some-signed.ensures.read
          c.in-Some-behind_word.ensures.read c.in-Some-number.ensures.read;
    }
