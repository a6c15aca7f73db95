-- The names that a `Names` holds.
use Rattle.rob_cert.specs.Spelling.{Naming}
use Rattle.rob_cert.specs.declared.names.Names.{Names}

-- the names that lines speak with, as the reader keeps them
abbrev pub naming : Names → Naming
naming names = record {
  parameters = names.parameters;
  columns = names.columns;
  forms = names.forms;
  set_rows = names.set_rows;
}
