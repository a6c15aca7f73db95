-- The split model of a well-formed model of one set is well formed.
use Rattle.std.specs.Prelude.{◌≡◌, ℕ, zero, suc, ◌+◌, ◌<◌, List, [], ◌∷◌, length, map, refl, Option, Some, None}
use Rattle.std.proofs.Common.{sym, ap, subst, arith}
use Rattle.rob_algebra.specs.Fraction.{Fraction}
use Rattle.rob_meaning.proofs.Scenarios.AloneLemmas.{all_written}
use Rattle.rob_meaning.proofs.Lists.EachLemmas.{each_append, each_map}
use Rattle.rob_meaning.proofs.Naming.NamedLemmas.{each_mapped}
use Rattle.rob_meaning.specs.Expressions.{adaptive}
use Rattle.rob_meaning.specs.Names.{Name}
use Rattle.rob_meaning.specs.Places.{Each}
use Rattle.rob_meaning.specs.RobustModel.{AdaptiveVariable, Relation, RobustModel, Row, SetLine, at_least, at_most, joint_parameters, set_count, written_count}
use Rattle.rob_meaning.specs.SetConditions.{if_declared}
use Rattle.rob_meaning.specs.WellFormed.{IsExpression, IsLineOf, IsModel, IsOf, IsSetLine}
use Rattle.rob_pieces.proofs.BlockLemmas.{by_cells, each_cell, each_flat}
use Rattle.rob_pieces.proofs.ColumnLemmas.{variables_count, written_parameters_split, written_split}
use Rattle.rob_pieces.proofs.OverCellLemmas.{expression_over, is_set, number_side, own_line_over, own_number_side, own_over, own_parameter_side, parameter_side, set_line_over}
use Rattle.rob_pieces.specs.Cuts.{AreCuts, Cut, IsCell, cell_numbers}
use Rattle.rob_pieces.specs.SplitModel.{bound_row, bound_rows, cell_lines, cell_names, cell_rows, copy_in, cost_row, line_over, row_over, side_line, side_lines, split_model}

-- the rows of declared bounds
module _ (m : RobustModel) (c : ℕ) (P : Row → Type 0) where
  declared_rows : (f : Fraction → Row) (o : Option Fraction) → ((x : Fraction) → P (f x)) → Each P (if_declared f o)
  declared_rows f None h = tt
  declared_rows f (Some x) h = (h x, tt)

  pub each_bound_row : (k : ℕ) (ys : List AdaptiveVariable) →
      ((name : Name) (j : ℕ) (relation : Relation) (bound : Fraction) → j < k + length ys
      → P (bound_row m c name j relation bound)) →
      Each P (bound_rows m c k ys)
  each_bound_row k [] h = tt
  each_bound_row k (y ∷ ys) h =
      each_append P _ _ (declared_rows _ y.lower (λ x. h _ k at_least x (omega arith)))
      (each_append P _ _ (declared_rows _ y.upper (λ x. h _ k at_most x (omega arith)))
      (each_bound_row (suc k) ys (λ name j relation bound small. h name j relation bound (omega arith))))

module _ (m : RobustModel) (model : IsModel m) (alone : m.sets ≡ []) (cuts : List Cut) (are : AreCuts m cuts) where
  abbrev s : RobustModel
  s = split_model m cuts

  pub lists_within : Each (λ (y : AdaptiveVariable). Each (λ k. k < length m.parameters) y.on) m.adaptives
  lists_within =
      subst (λ n. Each (λ (y : AdaptiveVariable). Each (λ k. k < n) y.on) m.adaptives) (all_written m alone) model.lists

  module _ (c : ℕ) (cell : IsCell cuts c) where
    -- ---- statements
    side_set : (cut : Cut) (b : ℕ) → cut.parameter < length m.parameters → IsSetLine s (side_line m c cut b)
    side_set cut zero h =
        (parameter_side m alone cuts c cell cut.parameter h, number_side m alone cuts c cell cut.level)
    side_set cut (suc b) h =
        (parameter_side m alone cuts c cell cut.parameter h, number_side m alone cuts c cell cut.level)

    side_own : (cut : Cut) (b : ℕ) → cut.parameter < length m.parameters → IsLineOf s c (side_line m c cut b)
    side_own cut zero h =
        (own_parameter_side m alone cuts c cell cut.parameter h, own_number_side m alone cuts c cell cut.level)
    side_own cut (suc b) h =
        (own_parameter_side m alone cuts c cell cut.parameter h, own_number_side m alone cuts c cell cut.level)

    sides_set : (cs : List Cut) → AreCuts m cs → Each (IsSetLine s) (side_lines m c cs)
    sides_set [] h = tt
    sides_set (cut ∷ cs) h = (side_set cut _ h.0, sides_set cs h.1)

    sides_own : (cs : List Cut) → AreCuts m cs → Each (IsLineOf s c) (side_lines m c cs)
    sides_own [] h = tt
    sides_own (cut ∷ cs) h = (side_own cut _ h.0, sides_own cs h.1)

    lines_set : Each (IsSetLine s) (cell_lines m c cuts)
    lines_set =
        each_append (IsSetLine s) (map (line_over m c) m.set_lines) (side_lines m c cuts)
        (each_mapped (IsSetLine s) (line_over m c) (IsSetLine m) (set_line_over m alone cuts c cell)
        m.set_lines model.set_lines)
        (sides_set cuts are)

    lines_own : Each (IsLineOf s c) (cell_lines m c cuts)
    lines_own =
        each_append (IsLineOf s c) (map (line_over m c) m.set_lines) (side_lines m c cuts)
        (each_mapped (IsLineOf s c) (line_over m c) (IsSetLine m) (own_line_over m alone cuts c cell)
        m.set_lines model.set_lines)
        (sides_own cuts are)

    -- ---- rows
    abbrev RowFormed : Row → Type 0
    RowFormed r = IsExpression s r.left × IsExpression s r.right

    abbrev RowOwn : Row → Type 0
    RowOwn r = IsOf s c r.left × IsOf s c r.right

    worst_is : IsExpression s (cost_row m c).left
    worst_is = (subst (λ n. length m.variables < n) (sym (variables_count m cuts)) (omega arith), tt)

    rows_formed : Each RowFormed (cell_rows m c)
    rows_formed = (
      (worst_is, expression_over m alone cuts c cell m.objective model.objective),
      each_append RowFormed (map (row_over m c) m.rows) (bound_rows m c 0 m.adaptives)
          (each_mapped RowFormed (row_over m c) (λ (r : Row). IsExpression m r.left × IsExpression m r.right)
          (λ r h. (expression_over m alone cuts c cell r.left h.0, expression_over m alone cuts c cell r.right h.1))
          m.rows model.rows)
          (each_bound_row m c RowFormed 0 m.adaptives
          (λ name j relation bound small. (
            expression_over m alone cuts c cell (adaptive j) (let e : j < length m.adaptives = omega arith in e, tt),
            (number_side m alone cuts c cell bound).0,
          ))),
    )

    rows_own : Each RowOwn (cell_rows m c)
    rows_own = (
      (tt, own_over m alone cuts c cell m.objective model.objective.0),
      each_append RowOwn (map (row_over m c) m.rows) (bound_rows m c 0 m.adaptives)
          (each_mapped RowOwn (row_over m c) (λ (r : Row). IsExpression m r.left × IsExpression m r.right)
          (λ r h. (own_over m alone cuts c cell r.left h.0.0, own_over m alone cuts c cell r.right h.1.0)) m.rows
          model.rows)
          (each_bound_row m c RowOwn 0 m.adaptives
          (λ name j relation bound small. (refl, own_number_side m alone cuts c cell bound))),
    )

  pub split_is_model : IsModel s
  split_is_model = record {
    parameters = ap (λ ps. joint_parameters ps (cell_names cuts)) (sym (written_parameters_split m cuts));
    set_lines =
        each_flat (IsSetLine s) (λ c. cell_lines m c cuts) (cell_numbers cuts)
        (each_cell cuts (λ c. Each (IsSetLine s) (cell_lines m c cuts)) lines_set);
    lists =
        each_flat (λ (y : AdaptiveVariable). Each (λ k. k < written_count s) y.on)
        (λ c. map (copy_in m c) m.adaptives) (cell_numbers cuts)
        (each_cell cuts
        (λ c. Each (λ (y : AdaptiveVariable). Each (λ k. k < written_count s) y.on) (map (copy_in m c) m.adaptives))
        (λ c cell.
        each_mapped (λ (y : AdaptiveVariable). Each (λ k. k < written_count s) y.on) (copy_in m c)
        (λ (y : AdaptiveVariable). Each (λ k. k < length m.parameters) y.on)
        (λ y h. subst (λ n. Each (λ k. k < n) y.on) (sym (written_split m cuts)) h) m.adaptives lists_within));
    objective = (subst (λ n. length m.variables < n) (sym (variables_count m cuts)) (omega arith), tt);
    rows =
        each_flat (λ (r : Row). IsExpression s r.left × IsExpression s r.right) (cell_rows m) (cell_numbers cuts)
        (each_cell cuts (λ c. Each (λ (r : Row). IsExpression s r.left × IsExpression s r.right) (cell_rows m c))
        rows_formed);
    own_lines =
        by_cells (λ c (l : SetLine). (c < set_count s) × IsLineOf s c l) (λ c. cell_lines m c cuts) (cell_numbers cuts)
        (each_cell cuts (λ c. Each (λ (l : SetLine). (c < set_count s) × IsLineOf s c l) (cell_lines m c cuts))
        (λ c cell. each_map (IsLineOf s c) (λ (l : SetLine). (c < set_count s) × IsLineOf s c l)
        (λ l h. (is_set m alone cuts c cell, h)) (cell_lines m c cuts) (lines_own c cell)));
    own_objective = (omega arith, tt);
    own_rows =
        by_cells (λ c (r : Row). (c < set_count s) × (IsOf s c r.left × IsOf s c r.right))
        (cell_rows m) (cell_numbers cuts)
        (each_cell cuts
        (λ c. Each (λ (r : Row). (c < set_count s) × (IsOf s c r.left × IsOf s c r.right)) (cell_rows m c))
        (λ c cell. each_map (λ (r : Row). IsOf s c r.left × IsOf s c r.right)
        (λ (r : Row). (c < set_count s) × (IsOf s c r.left × IsOf s c r.right))
        (λ r h. (is_set m alone cuts c cell, h)) (cell_rows m c) (rows_own c cell)));
  }
