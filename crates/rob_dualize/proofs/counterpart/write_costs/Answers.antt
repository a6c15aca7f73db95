use Rattle.std.proofs.Common.{length, arith}
use Rattle.rob_dualize.specs.Wholes.{cost_of}
use Rattle.rob_dualize.proofs.ToldLemmas.{written_out}
use Rattle.rob_dualize.proofs.counterpart.write_costs.Goals as goal

pub returns : goal.returns
returns c = record {
  costs = written_out c.loop-k.numbers (length c.args.numbers.now) (cost_of c.args.forms.now) c.loop-k.auto.numbers
      (λ k l. c.loop-k.invariant k (omega (arith, c.loop-k-test.false)));
}
