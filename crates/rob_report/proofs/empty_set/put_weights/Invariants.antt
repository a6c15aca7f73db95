use Rattle.std.proofs.Common.{◌≡◌, ◌++◌, drop}
use Rattle.rob_meaning.specs.Names.{set_row_names}
use Rattle.rob_model.specs.View.{robust}
use Rattle.rob_report.specs.Lines.{for_pairs}
use Rattle.rob_report.specs.Spots.{weight_line, weight_lines}
use Rattle.rob_report.proofs.empty_set.put_weights.Given as goal

abbrev pub invariant-loop-index : goal.invariant-loop-index
invariant-loop-index g l =
    let m = robust g.N.Exact.value l.model in
    l.out ++ for_pairs weight_line (drop l.index (set_row_names m)) (drop l.index l.weights)
    ≡ l.fn.out ++ weight_lines m l.weights
