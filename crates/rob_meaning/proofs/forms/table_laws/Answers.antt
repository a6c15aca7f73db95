use Rattle.rob_meaning.proofs.Tables.EntryLemmas.{entry_constant, entry_parameter, entry_column, entry_both}
use Rattle.rob_meaning.proofs.Lists.LeastLemmas.{whole_by_denominator, denominator_least}
use Rattle.rob_meaning.proofs.Tables.MatrixLemmas.{sum_at-table}
use Rattle.rob_meaning.proofs.Tables.TableLemmas.{value-table}
use Rattle.rob_meaning.proofs.forms.table_laws.Goals as goal

pub returns : goal.returns
returns c = record {
  table = λ m e plan u linear. value-table m u plan e linear;
  constant = entry_constant;
  of_parameter = λ m e k linear. entry_parameter m e linear k;
  of_column = λ m e j linear. entry_column m e linear j;
  of_both = λ m e k j linear. entry_both m e linear k j;
  matrix = sum_at-table;
  whole = whole_by_denominator;
  least = denominator_least;
}
