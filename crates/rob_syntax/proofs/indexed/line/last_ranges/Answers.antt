use Rattle.rob_syntax.proofs.Fronts.PartLemmas.{refused_up}
use Rattle.rob_syntax.proofs.Seeing.{seen_empty, seen_some}
use Rattle.rob_syntax.proofs.Fronts.LineLemmas.{empty_ranges, last_found, not_last, last_missing}
use Rattle.rob_syntax.proofs.indexed.line.last_ranges.Goals as goal

pub returns-in_err-ranges : goal.returns-in_err-ranges
returns-in_err-ranges c = record {
  read = refused_up _ _ _ c.from_residual.ensures.1 (last_missing empty_ranges) c.in_err-ranges.ensures.read;
}

pub returns-then-is_empty : goal.returns-then-is_empty
returns-then-is_empty c = record {
  read = last_found empty_ranges c.in_ok-ranges.ensures.read (seen_empty c.in_ok-ranges.rest.now c.if-is_empty.ensures);
}

pub returns-else-is_empty : goal.returns-else-is_empty
returns-else-is_empty c = record {
  read = not_last empty_ranges c.in_ok-ranges.ensures.read (seen_some c.in_ok-ranges.rest.now c.if-is_empty.ensures);
}
