use Rattle.rob_model.proofs.GroupCounts.{columns_fit, count_columns, count_forms, count_parameters, count_places, count_set_rows, forms_fit, lines_fit, places_fit, rows_fit, set_rows_fit}
use Rattle.rob_model.proofs.groups.group_count.Goals as goal

pub overflow_add-result : goal.overflow_add-result
overflow_add-result g c = columns_fit c.requires.valid c.items-vars.ensures.list c.items-adaptives.ensures.list

pub overflow_add-result-in-Form : goal.overflow_add-result-in-Form
overflow_add-result-in-Form g c =
    rows_fit c.requires.valid c.items.ensures.list c.items-vars.ensures.list c.items-adaptives.ensures.list

pub overflow_add-result-in-Form-2 : goal.overflow_add-result-in-Form-2
overflow_add-result-in-Form-2 g c =
    forms_fit c.requires.valid c.items.ensures.list c.items-vars.ensures.list c.items-adaptives.ensures.list

pub overflow_add-result-in-Column : goal.overflow_add-result-in-Column
overflow_add-result-in-Column g c =
    columns_fit c.requires.valid c.items-vars.ensures.list c.items-adaptives.ensures.list

pub overflow_add-result-in-SetRow : goal.overflow_add-result-in-SetRow
overflow_add-result-in-SetRow g c =
    set_rows_fit c.requires.valid c.items-params.ensures.list c.items-lines.ensures.list

pub overflow_add-result-in-SetPlace : goal.overflow_add-result-in-SetPlace
overflow_add-result-in-SetPlace g c =
    set_rows_fit c.requires.valid c.items-params.ensures.list c.items-lines.ensures.list

pub overflow_add-result-in-SetPlace-2 : goal.overflow_add-result-in-SetPlace-2
overflow_add-result-in-SetPlace-2 g c =
    lines_fit c.requires.valid c.items-params.ensures.list c.items-lines.ensures.list

pub overflow_add-result-in-SetPlace-3 : goal.overflow_add-result-in-SetPlace-3
overflow_add-result-in-SetPlace-3 g c =
    places_fit c.requires.valid c.items-params.ensures.list c.items-lines.ensures.list

-- ---- the number is that of the groups
pub returns-in-Form : goal.returns-in-Form
returns-in-Form g c =
    rw c.in-Form.is record {
      count = count_forms g.N.Exact.value c.args.model.now c.items.ensures.list
          c.items-vars.ensures.list c.items-adaptives.ensures.list;
    }

pub returns-in-Column : goal.returns-in-Column
returns-in-Column g c =
    rw c.in-Column.is record {
      count = count_columns g.N.Exact.value c.args.model.now c.items-vars.ensures.list c.items-adaptives.ensures.list;
    }

pub returns-in-SetRow : goal.returns-in-SetRow
returns-in-SetRow g c =
    rw c.in-SetRow.is record {
      count = count_set_rows g.N.Exact.value c.args.model.now c.items-params.ensures.list c.items-lines.ensures.list;
    }

pub returns-in-SetPlace : goal.returns-in-SetPlace
returns-in-SetPlace g c =
    rw c.in-SetPlace.is record {
      count = count_places g.N.Exact.value c.args.model.now c.items-params.ensures.list c.items-lines.ensures.list;
    }

pub returns-in-Parameters : goal.returns-in-Parameters
returns-in-Parameters g c =
    rw c.in-Parameters.is record {
      count = count_parameters g.N.Exact.value c.args.model.now c.items-params.ensures.list;
    }
