use Rattle.rob_syntax.proofs.Fronts.PartLemmas.{refused_up}
use Rattle.rob_syntax.proofs.Fronts.LineLemmas.{no_bounded, no_bounded_ranges, bounded_found}
use Rattle.rob_syntax.proofs.indexed.line.bounded.Goals as goal

pub returns-in_default : goal.returns-in_default
returns-in_default c = record { read = no_bounded c.in_default.ensures.read }

pub returns-in_err-ranges : goal.returns-in_err-ranges
returns-in_err-ranges c = record {
  read = refused_up _ _ _ c.from_residual.ensures.1 (no_bounded_ranges c.in-Some.ensures.read)
      c.in_err-ranges.ensures.read;
}

pub returns : goal.returns
returns c = record { read = bounded_found c.in-Some.ensures.read c.in_ok-ranges.ensures.read }
