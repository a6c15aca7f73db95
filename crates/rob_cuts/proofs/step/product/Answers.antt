use Rattle.rob_algebra.specs.Fraction.{◌*ℚ◌}
use Rattle.rob_number.proofs.AnswerLaws.{ok_tells, err_tells}
use Rattle.rob_cuts.proofs.step.product.Goals as goal

pub returns-in-Ok : goal.returns-in-Ok
returns-in-Ok g c = record {
  product = (ok_tells g.N.Exact.limit (g.N.Exact.value c.args.scale *ℚ g.N.Exact.value c.args.number)
      (g.N.Exact.value c.in-Ok.x) c.in-Ok.ensures.exact).0;
}

pub returns-in-Err : goal.returns-in-Err
returns-in-Err g c = record {
  product = err_tells g.N.Exact.limit
      (g.N.Exact.value c.args.scale *ℚ g.N.Exact.value c.args.number) c.in-Err.ensures.exact;
}
