use Rattle.std.proofs.Common.{◌≡◌, ◌++◌, suc, drop}
use Rattle.rob_model.specs.View.{robust}
use Rattle.rob_report.specs.Rounds.{round_lines, rounds_text}
use Rattle.rob_report.proofs.rounds.put_rounds.Given as goal

abbrev pub invariant-loop-index : goal.invariant-loop-index
invariant-loop-index g l =
    let m = robust g.N.Exact.value l.model in
    l.out ++ round_lines m (suc l.index) (drop l.index l.rounds) ≡ l.fn.out ++ rounds_text m l.rounds
