use Rattle.rob_syntax.proofs.Fronts.PartLemmas.{refused_up}
use Rattle.rob_syntax.proofs.Fronts.RangeLemmas.{no_range, no_equal, no_from, no_to, no_upto, range_found}
use Rattle.rob_syntax.proofs.indexed.range.range.Goals as goal

pub returns-in_default : goal.returns-in_default
returns-in_default c = record { read = no_range c.in_default.ensures.read }

pub returns-in_default-behind_mark : goal.returns-in_default-behind_mark
returns-in_default-behind_mark c =
    record { read = no_equal c.in-Some.name c.in-Some.ensures.read c.in_default-behind_mark.ensures.read }

pub returns-in_err-from : goal.returns-in_err-from
returns-in_err-from c = record {
  read = refused_up _ _ _ c.from_residual.ensures.1
      (no_from c.in-Some.name c.in-Some.ensures.read c.in-Some-behind_mark.ensures.read) c.in_err-from.ensures.read;
}

pub returns-in_default-behind_word : goal.returns-in_default-behind_word
returns-in_default-behind_word c =
    record {
      read = no_to c.in-Some.name c.in-Some.ensures.read c.in-Some-behind_mark.ensures.read
          c.in_ok-from.ensures.read c.in_default-behind_word.ensures.read;
    }

pub returns-in_err-upto : goal.returns-in_err-upto
returns-in_err-upto c = record {
  read =
      refused_up _ _ _ c.from_residual-in_err-upto.ensures.1 (λ missing. no_upto c.in-Some.name c.in-Some.ensures.read
      c.in-Some-behind_mark.ensures.read c.in_ok-from.ensures.read c.in-Some-behind_word.ensures.read missing)
      c.in_err-upto.ensures.read;
}

pub returns : goal.returns
returns c =
    record {
      read = range_found c.in-Some.name c.in-Some.ensures.read c.in-Some-behind_mark.ensures.read
          c.in_ok-from.ensures.read c.in-Some-behind_word.ensures.read c.in_ok-upto.ensures.read;
    }
