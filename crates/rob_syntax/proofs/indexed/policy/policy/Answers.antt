use Rattle.rob_syntax.proofs.Fronts.PartLemmas.{refused_up}
use Rattle.rob_syntax.proofs.Fronts.KindLemmas.{no_policy, no_opening, no_entries, no_closing, no_policy_bounds, policy_found}
use Rattle.rob_syntax.proofs.indexed.policy.policy.Goals as goal

pub returns-in_err-name : goal.returns-in_err-name
returns-in_err-name c =
    record { read = refused_up _ _ _ c.from_residual.ensures.1 no_policy c.in_err-name.ensures.read }

pub returns-in_default : goal.returns-in_default
returns-in_default c = record { read = no_opening c.in_ok-name.ensures.read c.in_default.ensures.read }

pub returns-in_err-on : goal.returns-in_err-on
returns-in_err-on c = record {
  read = refused_up _ _ _ c.from_residual-in_err-on.ensures.1
      (no_entries c.in_ok-name.ensures.read c.in-Some.ensures.read) c.in_err-on.ensures.read;
}

pub returns-in_default-behind_mark : goal.returns-in_default-behind_mark
returns-in_default-behind_mark c =
    record {
      read = no_closing c.in_ok-name.ensures.read c.in-Some.ensures.read c.in_ok-on.ensures.read
          c.in_default-behind_mark.ensures.read;
    }

pub returns-in_err-bounds : goal.returns-in_err-bounds
returns-in_err-bounds c = record {
  read =
      refused_up _ _ _ c.from_residual-in_err-bounds.ensures.1 (λ missing. no_policy_bounds c.in_ok-name.ensures.read
      c.in-Some.ensures.read c.in_ok-on.ensures.read c.in-Some-behind_mark.ensures.read missing)
      c.in_err-bounds.ensures.read;
}

pub returns : goal.returns
returns c =
    record {
      read = policy_found c.in_ok-name.ensures.read c.in-Some.ensures.read c.in_ok-on.ensures.read
          c.in-Some-behind_mark.ensures.read c.in_ok-bounds.ensures.read;
    }
