use Rattle.rob_meaning.proofs.Naming.NameLemmas as names
use Rattle.rob_meaning.proofs.names.name_laws.Goals as goal

pub returns : goal.returns
returns c = record {
  columns = names.length-column_names;
  columns_with_tau = names.length-column_names_with_tau;
  forms = names.length-form_names;
  set_rows = names.length-set_row_names;
  set_columns = names.length-set_column_names;
  set_conditions = names.length-set_condition_names;
}
