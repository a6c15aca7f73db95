use Rattle.rob_syntax.proofs.Fronts.BoundsLemmas.{interval_found, no_bracket, no_comma, no_end, no_lower, no_upper}
use Rattle.rob_syntax.proofs.indexed.bounds.interval.Goals as goal

pub returns-in_err-inside : goal.returns-in_err-inside
returns-in_err-inside c = record {
  read = rw c.from_residual.ensures (no_bracket c.in_err-inside.ensures.read);
}

pub returns-in_err-lower : goal.returns-in_err-lower
returns-in_err-lower c = record {
  read = rw c.from_residual-in_err-lower.ensures
      (no_lower c.in_ok-inside.ensures.read c.in_err-lower.ensures.read);
}

pub returns-in_err-rest : goal.returns-in_err-rest
returns-in_err-rest c = record {
  read = rw c.from_residual-in_err-rest.ensures
      (no_comma c.in_ok-inside.ensures.read c.in_ok-lower.ensures.read c.in_err-rest.ensures.read);
}

pub returns-in_err-upper : goal.returns-in_err-upper
returns-in_err-upper c = record {
  read = rw c.from_residual-in_err-upper.ensures
      (no_upper c.in_ok-inside.ensures.read c.in_ok-lower.ensures.read c.in_ok-rest.ensures.read
      c.in_err-upper.ensures.read);
}

pub returns-in_err-rest-2 : goal.returns-in_err-rest-2
returns-in_err-rest-2 c = record {
  read = rw c.from_residual-in_err-rest-2.ensures
      (no_end c.in_ok-inside.ensures.read c.in_ok-lower.ensures.read c.in_ok-rest.ensures.read
      c.in_ok-upper.ensures.read c.in_err-rest-2.ensures.read);
}

pub returns : goal.returns
returns c = record {
  read = interval_found c.in_ok-inside.ensures.read c.in_ok-lower.ensures.read c.in_ok-rest.ensures.read
      c.in_ok-upper.ensures.read c.in_ok-rest-2.ensures.read;
}
