use Rattle.std.proofs.Common.{arith}
use Rattle.rob_meaning.proofs.Naming.NameLemmas.{length-set_column_names}
use Rattle.rob_model.specs.View.{robust}
use Rattle.rob_report.proofs.labels.set_columns.Goals as goal

pub put_set_column-requires-clause-inside : goal.put_set_column-requires-clause-inside
put_set_column-requires-clause-inside g c =
    omega (
      arith,
      c.loop-index-test.true,
      c.set_column_count-index-end.ensures.count,
      length-set_column_names (robust g.N.Exact.value c.args.model.now),
    )
