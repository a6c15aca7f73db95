use Rattle.rob_syntax.proofs.Fronts.PartLemmas.{refused_up}
use Rattle.rob_syntax.proofs.Fronts.KindLemmas.{no_limit, no_limit_colon, no_members, no_budget_over, budget_found}
use Rattle.rob_syntax.proofs.indexed.budget.budget.Goals as goal

pub returns-in_default : goal.returns-in_default
returns-in_default c = record { read = no_limit c.in_default.ensures.read }

pub returns-in_default-behind_mark : goal.returns-in_default-behind_mark
returns-in_default-behind_mark c =
    record { read = no_limit_colon c.in-Some.ensures.read c.in_default-behind_mark.ensures.read }

pub returns-in_err-members : goal.returns-in_err-members
returns-in_err-members c = record {
  read = refused_up _ _ _ c.from_residual.ensures.1
      (no_members c.in-Some.ensures.read c.in-Some-behind_mark.ensures.read) c.in_err-members.ensures.read;
}

pub returns-in_err-over : goal.returns-in_err-over
returns-in_err-over c = record {
  read = refused_up _ _ _ c.from_residual-in_err-over.ensures.1
      (no_budget_over c.in-Some.ensures.read c.in-Some-behind_mark.ensures.read c.in_ok-members.ensures.read)
      c.in_err-over.ensures.read;
}

pub returns : goal.returns
returns c =
    record {
      read = budget_found c.in-Some.ensures.read c.in-Some-behind_mark.ensures.read c.in_ok-members.ensures.read
          c.in_ok-over.ensures.read;
    }
