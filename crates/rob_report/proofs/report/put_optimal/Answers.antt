use Rattle.std.proofs.Common.{arith, ap, length}
use Rattle.std.proofs.lemmas.List.{length-map}
use Rattle.rob_model.specs.View.{robust, variable_of}
use Rattle.rob_report.proofs.ColumnLemmas.{end_grows}
use Rattle.rob_report.proofs.report.put_optimal.Goals as goal

pub put_variables-requires : goal.put_variables-requires
put_variables-requires g c =
    let m = robust g.N.Exact.value c.args.model.now in
    record {
      columns = omega (
        arith,
        ap length c.items.ensures.list,
        c.requires.columns,
        end_grows (length m.variables) m.adaptives,
        length-map c.args.model.now.vars (variable_of g.N.Exact.value),
      );
    }
