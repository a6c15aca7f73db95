-- What the program counts of a valid model: what is taken away is there, what is multiplied is little, and the counts
-- of the split model are those that come of it.
use Rattle.std.proofs.Common.{◌≡◌, ℕ, ◌+◌, ◌-◌, ◌*◌, ◌≤◌, List, map, length, refl, ap, sym, ◌∙◌, subst, arith, Fits, w64}
use Rattle.std.proofs.lemmas.List.{length-map}
use Rattle.rob_algebra.specs.Fraction.{Fraction}
use Rattle.rob_cells.proofs.CountLemmas.{less_of}
use Rattle.rob_cells.proofs.SetSizeLemmas.{length-parameter_bound_names}
use Rattle.rob_cells.proofs.SplitSizeLemmas.{cell_form_count, counted, counts_are, counts_few, few_times, own_forms, own_set_rows}
use Rattle.rob_cells.specs.Counts.{AreCountsOf, AreSmall}
use Rattle.rob_cells.specs.View.{cut_of}
use Rattle.rob_cells.specs.declared.cut.Cut.{Cut}
use Rattle.rob_cells.specs.declared.size.Counts.{Counts}
use Rattle.rob_meaning.proofs.Naming.NameLemmas.{length-column_names, length-form_names, length-set_row_names}
use Rattle.rob_meaning.specs.Names.{column_names, form_names, set_row_names}
use Rattle.rob_meaning.specs.RobustModel.{RobustModel, column_count}
use Rattle.rob_meaning.specs.SetRows.{lift_count}
use Rattle.rob_meaning.specs.Sizes.{adaptive_bounds, variable_bounds}
use Rattle.rob_meaning.proofs.Tables.SizeLemmas.{parameter_bounds, rows_of}
use Rattle.rob_model.proofs.NameCountLemmas.{columns_many, kind_few}
use Rattle.rob_model.proofs.GroupCounts.{few_lines, few_params, few_rows, few_vars}
use Rattle.rob_model.specs.GroupNames.{parameter_bound_names}
use Rattle.rob_model.specs.Valid.{IsValid}
use Rattle.rob_model.specs.View.{adaptive_of, parameter_of, robust, row_of, set_line_of, variable_of}
use Rattle.rob_model.specs.declared.group.Kind.TheVariants.{Form, SetRow}
use Rattle.rob_model.specs.declared.model.Adaptive.{Adaptive}
use Rattle.rob_model.specs.declared.model.Model.{Model}
use Rattle.rob_model.specs.declared.model.Param.{Param}
use Rattle.rob_model.specs.declared.model.RowDef.{RowDef}
use Rattle.rob_model.specs.declared.model.SetLine.{SetLine}
use Rattle.rob_model.specs.declared.model.Var.{Var}
use Rattle.rob_pieces.specs.Cuts.{cell_count}
use Rattle.rob_pieces.specs.SplitModel.{split_model}

module _ {N : Type 0} {value : N → Fraction} {model : Model N} (valid : IsValid value model) where
  -- ---- what is counted of a valid model is little
  columns_few : {columns : ℕ} → columns ≡ length (column_names (robust value model)) → columns ≤ 600
  columns_few k =
      let all = valid.limits.columns in
      let e = k ∙ length-column_names (robust value model) in subst (λ n. n ≤ 600) (sym e) all

  forms_few : {forms : ℕ} → forms ≡ length (form_names (robust value model)) → forms ≤ 5000
  forms_few f = let few = kind_few (robust value model) valid.limits Form in subst (λ n. n ≤ 5000) (sym f) few

  set_rows_few : {set_rows : ℕ} → set_rows ≡ length (set_row_names (robust value model)) → set_rows ≤ 5000
  set_rows_few r = let few = kind_few (robust value model) valid.limits SetRow in subst (λ n. n ≤ 5000) (sym r) few

  members_few : {lines : List (SetLine N)} {members : ℕ} → members ≡ lift_count (map (set_line_of value) lines)
      → lines ≡ model.set_lines → members ≤ 64
  members_few mem list =
      let all = valid.limits.members in
      let e = mem ∙ ap (λ cs. lift_count (map (set_line_of value) cs)) list in subst (λ n. n ≤ 64) (sym e) all

  pub members_within : {lines : List (SetLine N)} → lines ≡ model.set_lines
      → lift_count (map (set_line_of value) lines) ≤ 64
  members_within list = members_few refl list

  -- ---- what is added up and multiplied by the number of cells fits
  pub vars_fit : {vars : List (Var N)} → vars ≡ model.vars → Fits w64 (length vars + 1)
  vars_fit list = omega (arith, few_vars valid list)

  pub rows_fit : {rows : List (RowDef N)} → rows ≡ model.rows → Fits w64 (1 + length rows)
  rows_fit list = omega (arith, few_rows valid list)

  pub row_bounds_fit : {rows : List (RowDef N)} {bounds : ℕ} → rows ≡ model.rows → bounds ≤ 1200
      → Fits w64 (1 + length rows + bounds)
  row_bounds_fit list b = omega (arith, few_rows valid list, b)

  pub lines_fit : {lines : List (SetLine N)} {sides : ℕ} → lines ≡ model.set_lines → sides ≤ 3
      → Fits w64 (length lines + sides)
  lines_fit list s = omega (arith, few_lines valid list, s)

  pub set_rows_fit : {set_rows sides : ℕ} (bounds : ℕ) → set_rows ≡ length (set_row_names (robust value model))
      → sides ≤ 3 → Fits w64 (set_rows - bounds + sides)
  set_rows_fit bounds r s = omega (arith, set_rows_few r, s)

  module _ {cells : ℕ} (few : cells ≤ 8) where
    times : (n : ℕ) (most : ℕ) → n ≤ most → cells * n ≤ 9 * most
    times n most h = few_times cells n most (omega (arith, few)) h

    pub params_times : {params : List (Param N)} → params ≡ model.params → Fits w64 ((cells + 1) * length params)
    params_times {params = params} list =
        omega (arith, few_times (cells + 1) (length params) 96 (omega (arith, few)) (few_params valid list))

    cell_columns : {columns : ℕ} (vars : ℕ) → columns ≡ length (column_names (robust value model))
        → cells * (columns - vars) ≤ 5400
    cell_columns {columns = columns} vars k = times (columns - vars) 600 (omega (arith, columns_few k))

    pub columns_times : {columns : ℕ} {vars : List (Var N)} → columns ≡ length (column_names (robust value model))
        → vars ≡ model.vars → Fits w64 (cells * (columns - length vars))
    columns_times {vars = vars} k list = omega (arith, cell_columns (length vars) k)

    pub columns_fit : {columns : ℕ} {vars : List (Var N)} → columns ≡ length (column_names (robust value model))
        → vars ≡ model.vars → Fits w64 (length vars + 1 + cells * (columns - length vars))
    columns_fit {vars = vars} k list = omega (arith, cell_columns (length vars) k, few_vars valid list)

    pub rows_times : {rows : List (RowDef N)} {bounds : ℕ} → rows ≡ model.rows → bounds ≤ 1200
        → Fits w64 (cells * (1 + length rows + bounds))
    rows_times {rows = rows} {bounds = bounds} list b =
        omega (arith, times (1 + length rows + bounds) 1501 (omega (arith, few_rows valid list, b)))

    pub lines_times : {lines : List (SetLine N)} {sides : ℕ} → lines ≡ model.set_lines → sides ≤ 3
        → Fits w64 (cells * (length lines + sides))
    lines_times {lines = lines} {sides = sides} list s =
        omega (arith, times (length lines + sides) 67 (omega (arith, few_lines valid list, s)))

    pub members_times : {lines : List (SetLine N)} {members : ℕ}
        → members ≡ lift_count (map (set_line_of value) lines) → lines ≡ model.set_lines
        → Fits w64 (cells * members)
    members_times {members = members} mem list = omega (arith, times members 64 (members_few mem list))

    cell_forms_few : {forms : ℕ} (bounds : ℕ) → forms ≡ length (form_names (robust value model))
        → cells * (forms - bounds) ≤ 45000
    cell_forms_few {forms = forms} bounds f = times (forms - bounds) 5000 (omega (arith, forms_few f))

    pub forms_times : {forms : ℕ} (bounds : ℕ) → forms ≡ length (form_names (robust value model))
        → Fits w64 (cells * (forms - bounds))
    forms_times bounds f = omega (arith, cell_forms_few bounds f)

    pub own_forms_fit : {forms : ℕ} (bounds : ℕ) → forms ≡ length (form_names (robust value model))
        → Fits w64 (1 + cells * (forms - bounds))
    own_forms_fit bounds f = omega (arith, cell_forms_few bounds f)

    pub forms_fit : {forms bounds : ℕ} → forms ≡ length (form_names (robust value model)) → bounds ≤ 1200
        → Fits w64 (1 + cells * (forms - bounds) + bounds)
    forms_fit {bounds = bounds} f b = omega (arith, cell_forms_few bounds f, b)

    cell_set_rows_few : {set_rows sides : ℕ} (bounds : ℕ)
        → set_rows ≡ length (set_row_names (robust value model)) → sides ≤ 3
        → cells * (set_rows - bounds + sides) ≤ 45027
    cell_set_rows_few {set_rows = set_rows} {sides = sides} bounds r s =
        times (set_rows - bounds + sides) 5003 (omega (arith, set_rows_few r, s))

    bounds_few : {params : List (Param N)} {bounds : ℕ} → params ≡ model.params → bounds ≤ 2 * length params
        → (cells + 1) * bounds ≤ 1728
    bounds_few {bounds = bounds} list b =
        few_times (cells + 1) bounds 192 (omega (arith, few)) (omega (arith, b, few_params valid list))

    pub bounds_times : {params : List (Param N)} {bounds : ℕ} → params ≡ model.params → bounds ≤ 2 * length params
        → Fits w64 ((cells + 1) * bounds)
    bounds_times list b = omega (arith, bounds_few list b)

    pub set_rows_times : {set_rows sides : ℕ} (bounds : ℕ) → set_rows ≡ length (set_row_names (robust value model))
        → sides ≤ 3 → Fits w64 (cells * (set_rows - bounds + sides))
    set_rows_times bounds r s = omega (arith, cell_set_rows_few bounds r s)

    pub all_set_rows_fit : {set_rows sides bounds : ℕ} {params : List (Param N)}
        → set_rows ≡ length (set_row_names (robust value model)) → sides ≤ 3 → params ≡ model.params
        → bounds ≤ 2 * length params
        → Fits w64 ((cells + 1) * bounds + cells * (set_rows - bounds + sides))
    all_set_rows_fit {bounds = bounds} r s list b = omega (arith, cell_set_rows_few bounds r s, bounds_few list b)

module _ {N : Type 0} (value : N → Fraction) (model : Model N) where
  abbrev m : RobustModel
  m = robust value model

  -- ---- what is counted of a list that is the model's
  variable_bounds_read : {vars : List (Var N)} {n : ℕ} → n ≡ variable_bounds (map (variable_of value) vars)
      → vars ≡ model.vars → n ≡ variable_bounds m.variables
  variable_bounds_read n list = n ∙ ap (λ xs. variable_bounds (map (variable_of value) xs)) list

  parameter_bounds_read : {params : List (Param N)} {n : ℕ}
      → n ≡ length (parameter_bound_names (map (parameter_of value) params)) → params ≡ model.params
      → n ≡ parameter_bounds m.parameters
  parameter_bounds_read n list =
      n ∙ ap (λ ps. length (parameter_bound_names (map (parameter_of value) ps))) list
      ∙ length-parameter_bound_names m.parameters

  -- ---- what is taken away is there
  pub bounds_in_forms : {vars : List (Var N)} {forms bounds : ℕ} → forms ≡ length (form_names m)
      → bounds ≡ variable_bounds (map (variable_of value) vars) → vars ≡ model.vars → bounds ≤ forms
  bounds_in_forms {forms = forms} {bounds = bounds} f b list =
      less_of bounds forms (cell_form_count m) (variable_bounds m.variables) (variable_bounds_read b list)
      (f ∙ length-form_names m ∙ own_forms m)

  pub bounds_in_set_rows : {params : List (Param N)} {set_rows bounds : ℕ} → set_rows ≡ length (set_row_names m)
      → bounds ≡ length (parameter_bound_names (map (parameter_of value) params)) → params ≡ model.params
      → bounds ≤ set_rows
  bounds_in_set_rows {set_rows = set_rows} {bounds = bounds} r b list =
      less_of bounds set_rows (rows_of m.set_lines) (parameter_bounds m.parameters) (parameter_bounds_read b list)
      (r ∙ length-set_row_names m ∙ own_set_rows m)

  -- the variables have columns
  pub vars_in_columns : {vars : List (Var N)} {columns : ℕ} → columns ≡ length (column_names m) → vars ≡ model.vars
      → length vars ≤ columns
  vars_in_columns k list =
      let many : length m.variables + length m.adaptives ≤ column_count m
      = columns_many (length m.variables) m.adaptives in
      omega (arith, many, k ∙ length-column_names m, ap length list, length-map model.vars (variable_of value))

  -- ---- the counts of the split model, of what is counted of the model
  module _ (cuts : List (Cut N)) {cells columns pb vb ab members forms set_rows : ℕ}
      {params bound_params : List (Param N)} {vars bound_vars : List (Var N)} {adaptives : List (Adaptive N)}
      {lines member_lines : List (SetLine N)} {rows : List (RowDef N)}
      (c : cells ≡ cell_count (map (cut_of value) cuts))
      (p : params ≡ model.params) (v : vars ≡ model.vars) (k : columns ≡ length (column_names m))
      (b : pb ≡ length (parameter_bound_names (map (parameter_of value) bound_params)))
      (bp : bound_params ≡ model.params)
      (vbs : vb ≡ variable_bounds (map (variable_of value) bound_vars)) (bv : bound_vars ≡ model.vars)
      (abs : ab ≡ adaptive_bounds (map (adaptive_of value) adaptives)) (a : adaptives ≡ model.adaptives)
      (mem : members ≡ lift_count (map (set_line_of value) member_lines)) (ml : member_lines ≡ model.set_lines)
      (f : forms ≡ length (form_names m)) (r : set_rows ≡ length (set_row_names m))
      (rs : rows ≡ model.rows) (ls : lines ≡ model.set_lines) where
    abbrev counts : Counts
    counts =
        counted m (map (cut_of value) cuts) cells (length cuts) (length params) (length vars) columns pb vb ab members
        forms set_rows (length rows) (length lines)

    counts_read : AreCountsOf (split_model m (map (cut_of value) cuts)) counts
    counts_read =
        counts_are m (map (cut_of value) cuts) cells (length cuts) (length params) (length vars) columns pb vb ab
        members forms set_rows (length rows) (length lines) c
        (sym (length-map cuts (cut_of value)))
        (ap length p ∙ sym (length-map model.params (parameter_of value)))
        (ap length v ∙ sym (length-map model.vars (variable_of value)))
        (k ∙ length-column_names m)
        (parameter_bounds_read b bp)
        (variable_bounds_read vbs bv)
        (abs ∙ ap (λ ys. adaptive_bounds (map (adaptive_of value) ys)) a)
        (mem ∙ ap (λ cs. lift_count (map (set_line_of value) cs)) ml)
        (f ∙ length-form_names m)
        (r ∙ length-set_row_names m)
        (ap length rs ∙ sym (length-map model.rows (row_of value)))
        (ap length ls ∙ sym (length-map model.set_lines (set_line_of value)))

    counts_small : IsValid value model → cells ≤ 8 → length cuts ≤ 3 → pb ≤ 2 * length bound_params → vb ≤ 1200
        → ab ≤ 1200 → AreSmall counts
    counts_small valid few three some_bounds few_vb few_ab =
        counts_few cells (length cuts) (length params) (length vars) columns pb vb ab members forms set_rows
        (length rows) (length lines) m (map (cut_of value) cuts) few three
        (few_params valid p) (few_vars valid v)
        (columns_few valid k)
        (omega (arith, some_bounds, few_params valid bp)) few_vb few_ab
        (members_few valid mem ml)
        (forms_few valid f)
        (set_rows_few valid r) (few_rows valid rs) (few_lines valid ls)

    -- both that the program tells of them
    pub counts_told : IsValid value model → cells ≤ 8 → length cuts ≤ 3 → pb ≤ 2 * length bound_params → vb ≤ 1200
        → ab ≤ 1200 → AreCountsOf (split_model m (map (cut_of value) cuts)) counts × AreSmall counts
    counts_told valid few three some_bounds few_vb few_ab =
        (counts_read, counts_small valid few three some_bounds few_vb few_ab)
