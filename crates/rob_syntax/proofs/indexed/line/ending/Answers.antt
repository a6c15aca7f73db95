use Rattle.rob_syntax.proofs.Fronts.PartLemmas.{refused_up}
use Rattle.rob_syntax.proofs.Fronts.LineLemmas.{no_ending, no_ending_over, ending_read}
use Rattle.rob_syntax.proofs.indexed.line.ending.Goals as goal

pub returns-in_err-tree : goal.returns-in_err-tree
returns-in_err-tree c =
    record { read = refused_up _ _ _ c.from_residual.ensures.1 no_ending c.in_err-tree.ensures.read }

pub returns-in_err-over : goal.returns-in_err-over
returns-in_err-over c = record {
  read = refused_up _ _ _ c.from_residual-in_err-over.ensures.1 (no_ending_over c.in_ok-tree.ensures.read)
      c.in_err-over.ensures.read;
}

pub returns : goal.returns
returns c = record { read = ending_read c.in_ok-tree.ensures.read c.in_ok-over.ensures.read }
