use Rattle.std.proofs.Common.{◌≡◌, map, drop}
use Rattle.rob_number.specs.Counts.{NeverFell}
use Rattle.rob_cert.specs.View.{item_of}
use Rattle.rob_check.specs.Conditions.{items_tests}
use Rattle.rob_check.specs.Verdicts.{verdict}
use Rattle.rob_model.specs.View.{robust}
use Rattle.rob_check.proofs.items.check_items.Given as goal

-- the items so far are right, so the verdict is that on the items that are left
abbrev pub invariant-loop-index : goal.invariant-loop-index
invariant-loop-index g l =
    let value = g.N.Exact.value in
    record {
      rest : verdict
          (items_tests g.N.Exact.limit (robust value l.model) l.index (map (item_of value) (drop l.index l.items)))
          ≡ verdict (items_tests g.N.Exact.limit (robust value l.model) 0 (map (item_of value) l.items));
      counted : NeverFell g.L.Ledger.ops g.L.Ledger.wides l.fn.ledger l.ledger;
    }
