use Rattle.rob_top.proofs.Coming.CompletenessLemmas.{means_complete}
use Rattle.rob_top.proofs.Relations.PrintedTreeLemmas.{accepted_status, grown_then_checked}
use Rattle.rob_top.proofs.laws.tree_then_checktree.Goals as goal

pub returns : goal.returns
returns c = record {
  accepted = λ growing checking status text shown branched is_tree known line width file ended means.
      grown_then_checked growing checking known status text branched line width is_tree file ended
      (means_complete checking ended shown means known);
  one_status = accepted_status;
}
