use Rattle.rob_syntax.proofs.Fronts.PartLemmas.{refused_up}
use Rattle.rob_syntax.proofs.Fronts.RangeLemmas.{no_first_range, no_more_ranges, ranges_found}
use Rattle.rob_syntax.proofs.indexed.range.ranges.Goals as goal

pub returns-in_err-first : goal.returns-in_err-first
returns-in_err-first c = record {
  read = refused_up _ _ _ c.from_residual.ensures.1 (no_first_range c.in-Some.ensures.read) c.in_err-first.ensures.read;
}

pub returns-in_err-list : goal.returns-in_err-list
returns-in_err-list c = record {
  read = refused_up _ _ _ c.from_residual-in_err-list.ensures.1
      (no_more_ranges c.in-Some.ensures.read c.in_ok-first.ensures.read) c.in_err-list.ensures.read;
}

pub returns : goal.returns
returns c = record { read = ranges_found c.in-Some.ensures.read c.in_ok-first.ensures.read c.in_ok-list.ensures.read }
