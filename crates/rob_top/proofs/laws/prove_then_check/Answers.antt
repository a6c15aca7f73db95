use Rattle.rob_top.proofs.Coming.CompletenessLemmas.{means_complete, proved_then_checked}
use Rattle.rob_top.proofs.laws.prove_then_check.Goals as goal

pub returns : goal.returns
returns c = record {
  accepted = λ proving checking status text shown solved is_prove known line width file ended means.
      proved_then_checked proving checking known status text solved line ended is_prove width file
      (means_complete checking ended shown means known);
}
