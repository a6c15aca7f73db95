use Rattle.rob_cells.proofs.ReadCounts.{all_set_rows_fit, bounds_in_forms, bounds_in_set_rows, bounds_times, columns_fit, columns_times, counts_told, forms_fit, forms_times, lines_fit, lines_times, members_times, members_within, own_forms_fit, params_times, row_bounds_fit, rows_fit, rows_times, set_rows_fit, set_rows_times, vars_fit, vars_in_columns}
use Rattle.rob_model.proofs.GroupCounts.{few_adaptives, few_params, few_vars}
use Rattle.rob_cells.proofs.size.split_counts.Goals as goal

pub variable_bounds-variable_bounds-requires : goal.variable_bounds-variable_bounds-requires
variable_bounds-variable_bounds-requires g c = record { few = few_vars c.requires.valid c.items-4.ensures.list }

pub adaptive_bounds-adaptive_bounds-requires : goal.adaptive_bounds-adaptive_bounds-requires
adaptive_bounds-adaptive_bounds-requires g c = record { few = few_adaptives c.requires.valid c.items-5.ensures.list }

pub bound_count-parameter_bounds-requires : goal.bound_count-parameter_bounds-requires
bound_count-parameter_bounds-requires g c = record { few = few_params c.requires.valid c.items-3.ensures.list }

pub members-members-requires : goal.members-members-requires
members-members-requires g c = record { few = members_within c.requires.valid c.items-6.ensures.list }

pub overflow_sub-columns : goal.overflow_sub-columns
overflow_sub-columns g c =
    vars_in_columns g.N.Exact.value c.args.model.now c.column_count.ensures.count c.items-2.ensures.list

pub overflow_sub-forms : goal.overflow_sub-forms
overflow_sub-forms g c = bounds_in_forms g.N.Exact.value c.args.model.now c.form_count.ensures.count
    c.variable_bounds-variable_bounds.ensures.count c.items-4.ensures.list

pub overflow_sub-set_rows : goal.overflow_sub-set_rows
overflow_sub-set_rows g c = bounds_in_set_rows g.N.Exact.value c.args.model.now c.set_row_count.ensures.count
    c.bound_count-parameter_bounds.ensures.count c.items-3.ensures.list

pub overflow_mul-result : goal.overflow_mul-result
overflow_mul-result g c = params_times c.requires.valid c.cell_count-cells.ensures.few c.items.ensures.list

pub overflow_add-result-2 : goal.overflow_add-result-2
overflow_add-result-2 g c = vars_fit c.requires.valid c.items-2.ensures.list

pub overflow_mul-result-2 : goal.overflow_mul-result-2
overflow_mul-result-2 g c =
    columns_times c.requires.valid c.cell_count-cells.ensures.few c.column_count.ensures.count c.items-2.ensures.list

pub overflow_add-result-3 : goal.overflow_add-result-3
overflow_add-result-3 g c =
    columns_fit c.requires.valid c.cell_count-cells.ensures.few c.column_count.ensures.count c.items-2.ensures.list

pub overflow_add-result-4 : goal.overflow_add-result-4
overflow_add-result-4 g c = rows_fit c.requires.valid c.items-7.ensures.list

pub overflow_add-result-5 : goal.overflow_add-result-5
overflow_add-result-5 g c =
    row_bounds_fit c.requires.valid c.items-7.ensures.list c.adaptive_bounds-adaptive_bounds.ensures.few

pub overflow_mul-result-3 : goal.overflow_mul-result-3
overflow_mul-result-3 g c = rows_times c.requires.valid c.cell_count-cells.ensures.few c.items-7.ensures.list
    c.adaptive_bounds-adaptive_bounds.ensures.few

pub overflow_add-result-6 : goal.overflow_add-result-6
overflow_add-result-6 g c = lines_fit c.requires.valid c.items-8.ensures.list c.requires.three

pub overflow_mul-result-4 : goal.overflow_mul-result-4
overflow_mul-result-4 g c =
    lines_times c.requires.valid c.cell_count-cells.ensures.few c.items-8.ensures.list c.requires.three

pub overflow_mul-result-5 : goal.overflow_mul-result-5
overflow_mul-result-5 g c =
    members_times c.requires.valid c.cell_count-cells.ensures.few c.members-members.ensures.count c.items-6.ensures.list

pub overflow_mul-result-6 : goal.overflow_mul-result-6
overflow_mul-result-6 g c = forms_times c.requires.valid c.cell_count-cells.ensures.few _ c.form_count.ensures.count

pub overflow_add-result-7 : goal.overflow_add-result-7
overflow_add-result-7 g c = own_forms_fit c.requires.valid c.cell_count-cells.ensures.few _ c.form_count.ensures.count

pub overflow_add-result-8 : goal.overflow_add-result-8
overflow_add-result-8 g c = forms_fit c.requires.valid c.cell_count-cells.ensures.few c.form_count.ensures.count
    c.variable_bounds-variable_bounds.ensures.few

pub overflow_mul-result-7 : goal.overflow_mul-result-7
overflow_mul-result-7 g c = bounds_times c.requires.valid c.cell_count-cells.ensures.few c.items-3.ensures.list
    c.bound_count-parameter_bounds.ensures.small

pub overflow_add-result-10 : goal.overflow_add-result-10
overflow_add-result-10 g c = set_rows_fit c.requires.valid _ c.set_row_count.ensures.count c.requires.three

pub overflow_mul-result-8 : goal.overflow_mul-result-8
overflow_mul-result-8 g c =
    set_rows_times c.requires.valid c.cell_count-cells.ensures.few _ c.set_row_count.ensures.count c.requires.three

pub overflow_add-result-11 : goal.overflow_add-result-11
overflow_add-result-11 g c = all_set_rows_fit c.requires.valid c.cell_count-cells.ensures.few
    c.set_row_count.ensures.count c.requires.three c.items-3.ensures.list c.bound_count-parameter_bounds.ensures.small

pub returns : goal.returns
returns g c =
    let told = counts_told g.N.Exact.value c.args.model.now c.args.cuts.now c.cell_count-cells.ensures.count
    c.items.ensures.list c.items-2.ensures.list c.column_count.ensures.count
    c.bound_count-parameter_bounds.ensures.count c.items-3.ensures.list c.variable_bounds-variable_bounds.ensures.count
    c.items-4.ensures.list c.adaptive_bounds-adaptive_bounds.ensures.count c.items-5.ensures.list
    c.members-members.ensures.count c.items-6.ensures.list c.form_count.ensures.count c.set_row_count.ensures.count
    c.items-7.ensures.list c.items-8.ensures.list c.requires.valid c.cell_count-cells.ensures.few c.requires.three
    c.bound_count-parameter_bounds.ensures.small c.variable_bounds-variable_bounds.ensures.few
    c.adaptive_bounds-adaptive_bounds.ensures.few in
    record { counts = told.0; small = told.1 }
