-- The numbers of groups of names, by the lengths of a model's lists: they are small, and each kind has so many groups.
use Rattle.std.proofs.Common.{◌≡◌, ◌+◌, ◌≤◌, List, [], ◌∷◌, ◌++◌, map, length, ap, arith, length-append, Fits, w64}
use Rattle.std.proofs.lemmas.List.{length-map}
use Rattle.rob_algebra.specs.Fraction.{Fraction}
use Rattle.rob_meaning.specs.RobustModel.{AdaptiveVariable, Parameter, RobustModel, Row, Variable}
use Rattle.rob_model.specs.GroupNames.{bound_names, condition_names, lift_names, rule_names, side_names, statement_row_names}
use Rattle.rob_model.specs.NameGroups.{adaptive_bound_groups, condition_groups, groups, groups_by_number, lift_groups, parameter_bound_groups, parameter_groups, row_groups, variable_bound_groups}
use Rattle.rob_model.specs.Valid.{IsValid}
use Rattle.rob_model.specs.View.{adaptive_of, parameter_of, robust, row_of, set_line_of, variable_of}
use Rattle.rob_model.specs.declared.group.Kind.TheVariants.{Column, Form, Parameters, SetPlace, SetRow}
use Rattle.rob_model.specs.declared.model.Adaptive.{Adaptive}
use Rattle.rob_model.specs.declared.model.Model.{Model}
use Rattle.rob_model.specs.declared.model.Param.{Param}
use Rattle.rob_model.specs.declared.model.RowDef.{RowDef}
use Rattle.rob_model.specs.declared.model.SetLine.{SetLine}
use Rattle.rob_model.specs.declared.model.Var.{Var}
use Rattle.rob_model.proofs.NameCountLemmas.{columns_many}
use Rattle.rob_model.proofs.PlaceLemmas.{mapped_length, statement_length}

-- ---- a valid model's lists are short
module _ {N : Type 0} {value : N → Fraction} {model : Model N} (valid : IsValid value model) where
  few_both : length model.vars + length model.adaptives ≤ 600
  few_both =
      omega (
        arith,
        many,
        length-map model.vars (variable_of value),
        length-map model.adaptives (adaptive_of value),
      )
    where
      many : length (map (variable_of value) model.vars) + length (map (adaptive_of value) model.adaptives) ≤ 600
      many = omega (
        arith,
        valid.limits.columns,
        columns_many (length (map (variable_of value) model.vars)) (map (adaptive_of value) model.adaptives),
      )

  few_columns : {vars : List (Var N)} {adaptives : List (Adaptive N)} → vars ≡ model.vars
      → adaptives ≡ model.adaptives → length vars + length adaptives ≤ 600
  few_columns v a = omega (arith, few_both, ap length v, ap length a)

  pub few_vars : {vars : List (Var N)} → vars ≡ model.vars → length vars ≤ 600
  few_vars v = omega (arith, few_both, ap length v)

  pub few_adaptives : {adaptives : List (Adaptive N)} → adaptives ≡ model.adaptives → length adaptives ≤ 600
  few_adaptives a = omega (arith, few_both, ap length a)

  pub few_rows : {rows : List (RowDef N)} → rows ≡ model.rows → length rows ≤ 300
  few_rows r = omega (arith, valid.limits.rows, ap length r, length-map model.rows (row_of value))

  pub few_params : {params : List (Param N)} → params ≡ model.params → length params ≤ 96
  few_params p = omega (arith, valid.limits.parameters, ap length p, length-map model.params (parameter_of value))

  pub few_lines : {lines : List (SetLine N)} → lines ≡ model.set_lines → length lines ≤ 64
  few_lines l = omega (arith, valid.limits.set_lines, ap length l, length-map model.set_lines (set_line_of value))

  few_places : {params : List (Param N)} {lines : List (SetLine N)} → params ≡ model.params
      → lines ≡ model.set_lines → length params + length lines ≤ 160
  few_places p l = omega (arith, few_params p, few_lines l)

  -- ---- so that their counts fit
  pub columns_fit : {vars : List (Var N)} {adaptives : List (Adaptive N)} → vars ≡ model.vars
      → adaptives ≡ model.adaptives → Fits w64 (length vars + length adaptives)
  columns_fit v a = omega (arith, few_columns v a)

  pub rows_fit : {rows : List (RowDef N)} {vars : List (Var N)} {adaptives : List (Adaptive N)} → rows ≡ model.rows
      → vars ≡ model.vars → adaptives ≡ model.adaptives
      → Fits w64 (length rows + (length vars + length adaptives))
  rows_fit r v a = omega (arith, few_rows r, few_columns v a)

  pub forms_fit : {rows : List (RowDef N)} {vars : List (Var N)} {adaptives : List (Adaptive N)} → rows ≡ model.rows
      → vars ≡ model.vars → adaptives ≡ model.adaptives
      → Fits w64 (1 + (length rows + (length vars + length adaptives)))
  forms_fit r v a = omega (arith, few_rows r, few_columns v a)

  pub set_rows_fit : {params : List (Param N)} {lines : List (SetLine N)} → params ≡ model.params
      → lines ≡ model.set_lines → Fits w64 (length params + length lines)
  set_rows_fit p l = omega (arith, few_places p l)

  pub lines_fit : {params : List (Param N)} {lines : List (SetLine N)} → params ≡ model.params
      → lines ≡ model.set_lines → Fits w64 (length lines + (length params + length lines))
  lines_fit p l = omega (arith, few_places p l)

  pub places_fit : {params : List (Param N)} {lines : List (SetLine N)} → params ≡ model.params
      → lines ≡ model.set_lines → Fits w64 (length params + (length lines + (length params + length lines)))
  places_fit p l = omega (arith, few_places p l)

-- ---- the groups of each kind are as many
module _ {N : Type 0} (value : N → Fraction) (model : Model N) where
  abbrev m : RobustModel
  m = robust value model

  pub count_forms : {rows : List (RowDef N)} {vars : List (Var N)} {adaptives : List (Adaptive N)} → rows ≡ model.rows
      → vars ≡ model.vars → adaptives ≡ model.adaptives
      → 1 + (length rows + (length vars + length adaptives)) ≡ length (groups Form m)
  count_forms {rows = rows} {vars = vars} {adaptives = adaptives} r v a =
      omega (
        arith,
        length-append (row_groups m) (variable_bound_groups m ++ adaptive_bound_groups m),
        length-append (variable_bound_groups m) (adaptive_bound_groups m),
        mapped_length (row_of value) (λ (x : Row). side_names x.relation x.name) model.rows rows r,
        mapped_length (variable_of value) (λ (x : Variable). bound_names x.name x.lower x.upper) model.vars vars v,
        mapped_length (adaptive_of value) (λ (y : AdaptiveVariable). bound_names y.name y.lower y.upper)
            model.adaptives adaptives a,
      )

  pub count_columns : {vars : List (Var N)} {adaptives : List (Adaptive N)} → vars ≡ model.vars
      → adaptives ≡ model.adaptives → length vars + length adaptives ≡ length (groups Column m)
  count_columns {vars = vars} {adaptives = adaptives} v a =
      omega (
        arith,
        length-append (map (λ (x : Variable). x.name ∷ []) m.variables) (map (rule_names m.parameters) m.adaptives),
        mapped_length (variable_of value) (λ (x : Variable). x.name ∷ []) model.vars vars v,
        mapped_length (adaptive_of value) (rule_names m.parameters) model.adaptives adaptives a,
      )

  pub count_parameters : {params : List (Param N)} → params ≡ model.params
      → length params ≡ length (groups Parameters m)
  count_parameters {params = params} p =
      mapped_length (parameter_of value) (λ (d : Parameter). d.name ∷ []) model.params params p

  bounds : {params : List (Param N)} → params ≡ model.params → length params ≡ length (parameter_bound_groups m)
  bounds {params = params} p =
      mapped_length (parameter_of value) (λ (d : Parameter). bound_names d.name d.lower d.upper) model.params params p

  pub count_set_rows : {params : List (Param N)} {lines : List (SetLine N)} → params ≡ model.params
      → lines ≡ model.set_lines → length params + length lines ≡ length (groups SetRow m)
  count_set_rows {lines = lines} p l =
      omega (
        arith,
        length-append (parameter_bound_groups m) (groups_by_number (statement_row_names m.parameters) 1 m.set_lines),
        bounds p,
        statement_length value (statement_row_names m.parameters) model.set_lines lines l,
      )

  pub count_places : {params : List (Param N)} {lines : List (SetLine N)} → params ≡ model.params
      → lines ≡ model.set_lines
      → length params + (length lines + (length params + length lines)) ≡ length (groups SetPlace m)
  count_places {lines = lines} p l =
      omega (
        arith,
        length-append (parameter_bound_groups m) (condition_groups m ++ (parameter_groups m ++ lift_groups m)),
        length-append (condition_groups m) (parameter_groups m ++ lift_groups m),
        length-append (parameter_groups m) (lift_groups m),
        bounds p,
        count_parameters p,
        statement_length value condition_names model.set_lines lines l,
        statement_length value (lift_names m.parameters) model.set_lines lines l,
      )
