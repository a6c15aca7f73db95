use Rattle.std.proofs.Common.{◌+◌, arith}
use Rattle.rob_worst.proofs.CostLemmas.{told_inside}
use Rattle.rob_worst.proofs.cost.column.Goals as goal

pub returns-then-c-forms : goal.returns-then-c-forms
returns-then-c-forms g c = record {
  number = told_inside c.args.forms.now c.args.i c.args.whole.now g.N.Exact.limit c.args.c (c.args.c + 1)
      c.if-c-forms.true (omega arith) c.part.result c.part.ensures.number;
}
