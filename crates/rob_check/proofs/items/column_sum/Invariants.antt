use Rattle.std.proofs.Common.{◌≡◌, map, drop}
use Rattle.rob_number.specs.Counts.{NeverFell}
use Rattle.rob_cert.specs.View.{item_of}
use Rattle.rob_check.specs.Conditions.{column_within}
use Rattle.rob_check.specs.View.{TakesForm}
use Rattle.rob_check.proofs.ItemLemmas.{column_left}
use Rattle.rob_meaning.specs.Places.{Each}
use Rattle.rob_check.proofs.items.column_sum.Given as goal

-- the sum so far, with the items that are left, is the whole
abbrev pub invariant-loop-item : goal.invariant-loop-item
invariant-loop-item g l =
    let value = g.N.Exact.value in
    record {
      rest : column_left value g.N.Exact.limit l.forms.matrices l.column l.items l.item-index (value l.sum)
          ≡ column_within g.N.Exact.limit l.forms.matrices (map (item_of value) l.items) l.column;
      items : Each (TakesForm l.forms.matrices) (map (item_of value) (drop l.item-index l.items));
      counted : NeverFell g.L.Ledger.ops g.L.Ledger.wides l.fn.ledger l.ledger;
    }
