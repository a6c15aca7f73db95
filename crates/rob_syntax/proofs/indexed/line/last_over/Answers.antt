use Rattle.rob_syntax.proofs.Fronts.PartLemmas.{refused_up}
use Rattle.rob_syntax.proofs.Seeing.{seen_empty, seen_some}
use Rattle.rob_syntax.proofs.Fronts.LineLemmas.{empty_over, last_found, not_last, last_missing}
use Rattle.rob_syntax.proofs.indexed.line.last_over.Goals as goal

pub returns-in_err-set : goal.returns-in_err-set
returns-in_err-set c =
    record { read = refused_up _ _ _ c.from_residual.ensures.1 (last_missing empty_over) c.in_err-set.ensures.read }

pub returns-then-is_empty : goal.returns-then-is_empty
returns-then-is_empty c = record {
  read = last_found empty_over c.in_ok-set.ensures.read (seen_empty c.in_ok-set.rest.now c.if-is_empty.ensures);
}

pub returns-else-is_empty : goal.returns-else-is_empty
returns-else-is_empty c = record {
  read = not_last empty_over c.in_ok-set.ensures.read (seen_some c.in_ok-set.rest.now c.if-is_empty.ensures);
}
