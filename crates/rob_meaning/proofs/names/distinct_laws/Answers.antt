use Rattle.rob_meaning.proofs.Naming.DeclaredLemmas.{parameters_distinct}
use Rattle.rob_meaning.proofs.Naming.NamedFormLemmas.{distinct_columns, distinct_forms}
use Rattle.rob_meaning.proofs.Naming.NamedSetLemmas.{distinct_set_conditions, distinct_set_rows, distinct_set_columns}
use Rattle.rob_meaning.proofs.names.distinct_laws.Goals as goal

pub returns : goal.returns
returns c = record {
  parameters = parameters_distinct;
  columns = distinct_columns;
  forms = distinct_forms;
  set_rows = distinct_set_rows;
  set_columns = distinct_set_columns;
  set_conditions = distinct_set_conditions;
}
