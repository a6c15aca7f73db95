-- The rows of a model as they are printed: the rows of the lifted set, then the forms, in whole numbers.
use Rattle.std.specs.Fmt.{signed_decimal}
use Rattle.std.specs.Prelude.{ℤ, pos, List, [], ◌∷◌, ◌++◌, ℕ, codes, map}
use Rattle.rob_meaning.specs.Forms.{matrices}
use Rattle.rob_meaning.specs.Names.{Name, column_names_with_tau, form_names, set_column_names, set_row_names}
use Rattle.rob_meaning.specs.RobustModel.{Parameter, RobustModel}
use Rattle.rob_meaning.specs.SetRows.{set_rows}
use Rattle.rob_sets.specs.SetForm.{cleared_row}
use Rattle.rob_sets.specs.declared.set_form.SetRow.{SetRow}
use Rattle.rob_report.specs.Lines.{for_pairs, line, unless_zero}

-- ` NUM*NAME`, where NUM isn't 0
abbrev pub term_text : ℤ → Name → List ℕ
term_text a name = unless_zero a (codes " " ++ (signed_decimal a ++ (codes "*" ++ name)))

-- numbers with the names of their columns, each name behind `front`
abbrev pub terms_text : Name → List ℤ → List Name → List ℕ
terms_text front numbers names = for_pairs (λ a name. term_text a (front ++ name)) numbers names

-- a sum of no term is written as 0
abbrev pub or_zero : List ℕ → List ℕ
or_zero [] = codes " 0"
or_zero (byte ∷ bytes) = byte ∷ bytes

-- ` <= NUM`
abbrev pub limit_text : ℤ → List ℕ
limit_text limit = codes " <= " ++ signed_decimal limit

-- `set NAME:`, the terms of the row, and its right side
abbrev pub set_row_line : List Name → Name → SetRow → List ℕ
set_row_line columns name row =
    line (codes "set " ++ (name ++ (codes ":" ++ (or_zero (terms_text [] row.g columns) ++ limit_text row.h))))

-- the terms of each row of a matrix, with what stands in front of the names of its columns
abbrev pub matrix_text : List Name → List Name → List (List ℤ) → List ℕ
matrix_text fronts columns matrix = for_pairs (λ front numbers. terms_text front numbers columns) fronts matrix

-- `form NAME:`, the terms of the matrix, and 0 for its right side
abbrev pub form_line : List Name → List Name → Name → List (List ℤ) → List ℕ
form_line fronts columns name matrix =
    line (codes "form " ++ (name ++ (codes ":" ++ (or_zero (matrix_text fronts columns matrix) ++ limit_text (pos 0)))))

-- the rows of a form's matrix are the constant, which is called 1, and the parameters; behind each name stands a star
abbrev pub fronts_of : List Parameter → List Name
fronts_of ps = map (λ row. row ++ codes "*") (codes "1" ∷ map (λ (p : Parameter). p.name) ps)

module _ (m : RobustModel) where
  -- its columns are the constant, the decision columns and tau
  abbrev pub form_column_names : List Name
  form_column_names = codes "1" ∷ column_names_with_tau m

  -- the lines of set rows, and those of forms
  abbrev pub set_rows_text : List SetRow → List ℕ
  set_rows_text rows = for_pairs (set_row_line (set_column_names m)) (set_row_names m) rows

  -- the lines of the forms, each with its name
  abbrev pub forms_text : List (List (List ℤ)) → List ℕ
  forms_text all = for_pairs (form_line (fronts_of m.parameters) form_column_names) (form_names m) all

  -- the text of a model's rows
  abbrev pub rows_of : List ℕ
  rows_of = set_rows_text (map (cleared_row m) (set_rows m)) ++ forms_text (matrices m)
