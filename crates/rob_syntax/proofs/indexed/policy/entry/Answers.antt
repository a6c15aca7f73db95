use Rattle.rob_syntax.proofs.Fronts.PartLemmas.{refused_up}
use Rattle.rob_syntax.proofs.Fronts.ListLemmas.{ranged_found, no_item, no_item_ranges, entry_ranges, entry_stop}
use Rattle.rob_syntax.proofs.indexed.policy.entry.Goals as goal

pub returns-in_err-item : goal.returns-in_err-item
returns-in_err-item c = record {
  read = refused_up _ _ _ c.from_residual.ensures.1 (no_item entry_ranges entry_stop) c.in_err-item.ensures.read;
}

pub returns-in_err-ranges : goal.returns-in_err-ranges
returns-in_err-ranges c = record {
  read = refused_up _ _ _ c.from_residual-in_err-ranges.ensures.1
      (no_item_ranges entry_ranges entry_stop c.in_ok-item.ensures.read) c.in_err-ranges.ensures.read;
}

pub returns : goal.returns
returns c = record { read = ranged_found entry_ranges entry_stop c.in_ok-item.ensures.read c.in_ok-ranges.ensures.read }
