use Rattle.rob_syntax.proofs.Fronts.LineLemmas.{no_rel}
use Rattle.rob_syntax.proofs.indexed.line.front_rel.Goals as goal

pub returns-in_err-rest : goal.returns-in_err-rest
returns-in_err-rest c =
    record {
      read =
          rw c.from_residual.ensures
          (no_rel c.in_default.ensures.read c.in_default-behind_mark.ensures.read c.in_err-rest.ensures.read);
    }
