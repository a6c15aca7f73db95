-- The counts of the split model, by the counts of the model.
use Rattle.std.proofs.Common.{◌≡◌, ℕ, suc, ◌+◌, ◌-◌, ◌*◌, ◌≤◌, ◌^◌, List, [], ◌∷◌, map, length, refl, ap, ap₂, sym, ◌∙◌, arith, length-append, mul-le-mul_right, pow_mono}
use Rattle.std.proofs.lemmas.List.{length-map}
use Rattle.rob_cells.proofs.SetSizeLemmas.{cell_line_count, cell_members, cell_set_rows, lift_count-append, rows_of-append}
use Rattle.rob_cells.proofs.SizeLemmas.{adaptive_bounds-append, blocks, cell_forms, copies_free, length-cell_rows, row_forms-append, variable_bounds-append}
use Rattle.rob_cells.specs.Counts.{AreCountsOf, AreSmall}
use Rattle.rob_cells.specs.declared.size.Counts.{Counts}
use Rattle.rob_meaning.specs.Forms.{forms, forms as meaning_forms, row_forms}
use Rattle.rob_meaning.specs.RobustModel.{RobustModel, Row, SetLine, column_count}
use Rattle.rob_meaning.specs.SetRows as meaning
use Rattle.rob_meaning.specs.SetRows.{lift_count, set_rows}
use Rattle.rob_meaning.specs.Sizes.{adaptive_bounds, variable_bounds}
use Rattle.rob_meaning.proofs.Tables.SizeLemmas.{bounds-joint, length-forms, length-row_forms, length-set_rows, parameter_bounds, rows_of}
use Rattle.rob_pieces.proofs.ColumnLemmas.{column_base, columns_count, length-names, parameters_count}
use Rattle.rob_pieces.specs.Cuts.{Cut, cell_count}
use Rattle.rob_pieces.specs.Pieces.{policy_columns}
use Rattle.rob_pieces.specs.SplitModel.{cell_lines, cell_names, cell_rows, cells_worst, copy_in, split_model}

-- ---- the model's own counts
module _ (m : RobustModel) where
  -- a cell's forms: its cost, the rows', and those of the adaptive variables' bounds
  abbrev pub cell_form_count : ℕ
  cell_form_count = 1 + (length (row_forms m.rows) + adaptive_bounds m.adaptives)

  pub own_forms : length (forms m) ≡ cell_form_count + variable_bounds m.variables
  own_forms = omega (arith, length-forms m, length-row_forms m.rows)

  pub own_set_rows : length (set_rows m) ≡ rows_of m.set_lines + parameter_bounds m.parameters
  own_set_rows = omega (arith, length-set_rows m)

  pub own_columns : column_count m ≡ policy_columns m + length m.variables
  own_columns = omega (arith, column_base (length m.variables) m.adaptives (length m.adaptives))

-- ---- those of the split model
module _ (m : RobustModel) (cuts : List Cut) where
  abbrev s : RobustModel
  s = split_model m cuts

  rows_split : length s.rows ≡ cell_count cuts * (1 + (length m.rows + adaptive_bounds m.adaptives))
  rows_split =
      blocks (length {A = Row}) refl length-append (cell_rows m) _ (λ c. length-cell_rows m c) (cell_count cuts) suc

  lines_split : length s.set_lines ≡ cell_count cuts * (length m.set_lines + length cuts)
  lines_split =
      blocks (length {A = SetLine}) refl length-append (λ c. cell_lines m c cuts) _
      (λ c. cell_line_count m c cuts) (cell_count cuts) suc

  members_split : lift_count s.set_lines ≡ cell_count cuts * lift_count m.set_lines
  members_split =
      blocks lift_count refl lift_count-append (λ c. cell_lines m c cuts) _
      (λ c. cell_members m c cuts) (cell_count cuts) suc

  no_bounds : adaptive_bounds s.adaptives ≡ 0
  no_bounds =
      blocks adaptive_bounds refl adaptive_bounds-append (λ c. map (copy_in m c) m.adaptives) 0
      (λ c. copies_free m c m.adaptives) (cell_count cuts) suc
      ∙ (let e : cell_count cuts * 0 ≡ 0 = omega arith in e)

  forms_split : length (forms s) ≡ 1 + cell_count cuts * cell_form_count m + variable_bounds m.variables
  forms_split =
      omega (
        arith,
        length-forms s,
        length-row_forms s.rows,
        blocks (λ rs. length (row_forms rs)) refl row_forms-append (cell_rows m) (cell_form_count m)
            (λ c. cell_forms m c) (cell_count cuts) suc,
        variable_bounds-append m.variables (cells_worst ∷ []),
        no_bounds,
      )

  set_rows_split : length (set_rows s)
      ≡ (cell_count cuts + 1) * parameter_bounds m.parameters + cell_count cuts * (rows_of m.set_lines + length cuts)
  set_rows_split =
      omega (
        arith,
        own_set_rows s,
        statements,
        bounds-joint m.parameters (cell_names cuts)
            ∙ ap (λ n. n * parameter_bounds m.parameters)
            (let n = length-names m cuts in
            let e : suc (length (cell_names cuts)) ≡ cell_count cuts + 1 = omega (arith, n) in e),
      )
    where
      nothing : rows_of [] ≡ 0
      nothing = refl

      statements : rows_of s.set_lines ≡ cell_count cuts * (rows_of m.set_lines + length cuts)
      statements =
          blocks rows_of nothing rows_of-append (λ c. cell_lines m c cuts) _
          (λ c. cell_set_rows m c cuts) (cell_count cuts) suc

  -- the program's counts
  module _ (cells sides parameters variables columns pb vb ab members forms set_rows rows lines : ℕ) where
    abbrev pub counted : Counts
    counted = record {
      parameters = (cells + 1) * parameters;
      columns = variables + 1 + cells * (columns - variables);
      rows = cells * (1 + rows + ab);
      set_lines = cells * (lines + sides);
      members = cells * members;
      forms = 1 + cells * (forms - vb) + vb;
      set_rows = (cells + 1) * pb + cells * (set_rows - pb + sides);
    }

    pub counts_are : cells ≡ cell_count cuts → sides ≡ length cuts → parameters ≡ length m.parameters
        → variables ≡ length m.variables → columns ≡ column_count m → pb ≡ parameter_bounds m.parameters
        → vb ≡ variable_bounds m.variables → ab ≡ adaptive_bounds m.adaptives → members ≡ lift_count m.set_lines
        → forms ≡ length (meaning_forms m) → set_rows ≡ length (meaning.set_rows m) → rows ≡ length m.rows
        → lines ≡ length m.set_lines → AreCountsOf s counted
    counts_are c sd p v k b vbs abs mem f r rs ls = record {
      parameters =
          ap₂ (λ n x. n * x) (let e : cells + 1 ≡ suc (cell_count cuts) = omega (arith, c) in e) p
          ∙ sym (parameters_count m cuts);
      columns =
          ap₂ (λ n x. variables + 1 + n * x) c (let e : columns - variables ≡ policy_columns m =
          omega (arith, k, v, own_columns m) in e)
          ∙ (let e : variables + 1 + cell_count cuts * policy_columns m
          ≡ suc (length m.variables) + cell_count cuts * policy_columns m = omega (arith, v) in e)
          ∙ sym (columns_count m cuts);
      rows =
          ap₂ (λ n x. n * x) c (let e : 1 + rows + ab ≡ 1 + (length m.rows + adaptive_bounds m.adaptives) =
          omega (arith, rs, abs) in e)
          ∙ sym rows_split;
      set_lines =
          ap₂ (λ n x. n * x) c (let e : lines + sides ≡ length m.set_lines + length cuts = omega (arith, ls, sd) in e)
          ∙ sym lines_split;
      members = ap₂ (λ n x. n * x) c mem ∙ sym members_split;
      forms =
          ap₂ (λ n x. 1 + n * x + vb) c (let e : forms - vb ≡ cell_form_count m =
          omega (arith, f, vbs, own_forms m) in e)
          ∙ ap (λ x. 1 + cell_count cuts * cell_form_count m + x) vbs
          ∙ sym forms_split;
      set_rows =
          ap₂ (λ n x. (n + 1) * x + n * (set_rows - pb + sides)) c b
          ∙ ap (λ x. (cell_count cuts + 1) * parameter_bounds m.parameters + cell_count cuts * x)
          (let e : set_rows - pb + sides ≡ rows_of m.set_lines + length cuts =
          omega (arith, r, b, sd, own_set_rows m) in e)
          ∙ sym set_rows_split;
    }

-- ---- few of each
pub few_times : (n a b : ℕ) → n ≤ 9 → a ≤ b → n * a ≤ 9 * b
few_times n a b h k =
    let one : n * a ≤ 9 * a = mul-le-mul_right a h in
    omega (arith, one, k)

pub counts_few : (cells sides parameters variables columns pb vb ab members forms set_rows rows lines : ℕ)
    → (m : RobustModel) (cuts : List Cut)
    → cells ≤ 8 → sides ≤ 3 → parameters ≤ 96 → variables ≤ 600 → columns ≤ 600 → pb ≤ 192 → vb ≤ 1200
    → ab ≤ 1200 → members ≤ 64
    → forms ≤ 5000 → set_rows ≤ 5000 → rows ≤ 300 → lines ≤ 64
    → AreSmall (counted m cuts cells sides parameters variables columns pb vb ab members forms set_rows rows lines)
counts_few cells sides parameters variables columns pb vb ab members forms set_rows rows lines m cuts c sd p v k b vbs
    abs mem f r rs ls = record {
      parameters = omega (arith, few_times (cells + 1) parameters 96 (omega (arith, c)) p);
      columns = omega (arith, v, few_times cells (columns - variables) 600 (omega (arith, c)) (omega (arith, k)));
      rows = omega (arith, few_times cells (1 + rows + ab) 1501 (omega (arith, c)) (omega (arith, rs, abs)));
      set_lines = omega (arith, few_times cells (lines + sides) 67 (omega (arith, c)) (omega (arith, ls, sd)));
      members = omega (arith, few_times cells members 64 (omega (arith, c)) mem);
      forms = omega (arith, vbs, few_times cells (forms - vb) 5000 (omega (arith, c)) (omega (arith, f)));
      set_rows =
          omega (
            arith,
            few_times (cells + 1) pb 192 (omega (arith, c)) b,
            few_times cells (set_rows - pb + sides) 5003 (omega (arith, c)) (omega (arith, r, sd)),
          );
    }

-- at most eight cells
pub few_cells : {X : Type 0} (m : RobustModel) (of : X → Cut) (cuts : List X) → length cuts ≤ 3
    → length (split_model m (map of cuts)).sets ≤ 8
few_cells m of cuts three =
    let few : length (map of cuts) ≤ 3 = omega (arith, length-map cuts of, three) in
    let p : 2 ^ length (map of cuts) ≤ 2 ^ 3 = pow_mono few in
    omega (arith, length-names m (map of cuts), p)
