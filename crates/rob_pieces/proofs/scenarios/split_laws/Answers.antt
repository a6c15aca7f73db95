use Rattle.rob_pieces.proofs.CellLemmas.{some_cell}
use Rattle.rob_pieces.proofs.ColumnLemmas.{sets_count}
use Rattle.rob_pieces.proofs.FormedLemmas.{split_is_model}
use Rattle.rob_pieces.proofs.NamedSplitLemmas.{split_is_named}
use Rattle.rob_pieces.proofs.ScenarioLemmas.{cell_admits, cell_admitted, empty_cell, some_in_each}
use Rattle.rob_pieces.proofs.scenarios.split_laws.Goals as goal

pub returns : goal.returns
returns c = record {
  covered = some_cell;
  formed = λ m cuts model alone are. split_is_model m model alone cuts are;
  sets = sets_count;
  named = λ m cuts alone few named good short. split_is_named m alone cuts few named good short;
  admitted = λ m cuts k u model alone are cell.
      (cell_admitted m model alone cuts are u k cell, λ h. cell_admits m model alone cuts are u k cell h.0 h.1);
  empty = λ m cuts k model alone are cell none. empty_cell m model alone cuts are k cell none;
  some_admitted = λ m cuts model alone are. some_in_each m model alone cuts are;
}
