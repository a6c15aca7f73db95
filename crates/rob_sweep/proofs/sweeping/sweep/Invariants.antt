use Rattle.std.proofs.Common.{◌≡◌, map, drop}
use Rattle.rob_model.specs.View.{robust}
use Rattle.rob_number.specs.Counts.{NeverFell}
use Rattle.rob_sweep.proofs.SweepLemmas.{HasSwept}
use Rattle.rob_sweep.specs.View.{answer_of}
use Rattle.rob_sweep.proofs.sweeping.sweep.Given as goal

-- the limits so far have their answers, and neither count fell
abbrev pub invariant-loop-limit : goal.invariant-loop-limit
invariant-loop-limit g l =
    let value = g.N.Exact.value in
    record {
      answered : HasSwept g.N.Exact.limit (robust value l.model) l.n (map value l.limits)
          (map value (drop l.limit-index l.limits)) l.number
          (map (answer_of value) l.answers);
      counted : NeverFell g.L.Ledger.ops g.L.Ledger.wides l.fn.ledger l.ledger;
      number : l.number ≡ l.limit-index;
    }
