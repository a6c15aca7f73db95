use Rattle.rob_syntax.proofs.Fronts.BoundsLemmas.{no_between}
use Rattle.rob_syntax.proofs.indexed.bounds.bounds.Goals as goal

pub returns-in_err-both : goal.returns-in_err-both
returns-in_err-both c = record {
  read = rw c.from_residual-in_err-both.ensures
      (no_between c.in-Some-behind_word.ensures.read c.in_err-both.ensures.read);
}
