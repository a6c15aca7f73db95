use Rattle.rob_top.proofs.Coming.CompletenessLemmas.{means_complete}
use Rattle.rob_top.proofs.Relations.SplitTextLemmas.{printed_few, printed_reads, taken_answer, taken_certificate, taken_has_status, taken_model, taken_once, taken_status, taken_unbroken}
use Rattle.rob_top.proofs.laws.celltext_then_solve.Goals as goal

pub returns : goal.returns
returns c = record {
  read = λ printing text split. (printed_reads printing text split, printed_few printing text split);
  model = taken_model;
  one_model = taken_once;
  unbroken = taken_unbroken;
  status = taken_status;
  answer = taken_answer;
  answered = λ printing text split later known line takes solves each narrow ended shown means.
      taken_has_status _ _ split later known line takes solves each narrow ended (means_complete _ _ _ means known);
  accepted = λ printing text split proving known line takes checking again other takes_too status certificate solved
      is_prove is_check file ended shown means.
      taken_certificate _ _ split proving known line takes checking again other takes_too status certificate solved
      is_prove is_check file ended (means_complete _ _ _ means again);
}
