-- The split model: a model whose plans are the pieces of a model of one set. Each cell is a named set, which has the
-- model's set statements and the cell's sides of the cuts, and each row stands there once for each cell, with the
-- cell's own copies of the adaptive variables.
use Rattle.std.specs.Fmt.{decimal}
use Rattle.std.specs.Prelude.{ℕ, zero, suc, pred, ◌+◌, ◌*◌, ℤ, pos, negsuc, true, List, [], ◌∷◌, ◌++◌, length, map, flat_map, None, codes}
use Rattle.rob_algebra.specs.Fraction.{Fraction, neg_ℚ}
use Rattle.rob_meaning.specs.Expressions.{Expression, number, parameter, variable, adaptive, adaptive_in, sum, product, Terms, no_terms, term, Factors, no_factors, factor}
use Rattle.rob_meaning.specs.Names.{Name}
use Rattle.rob_meaning.specs.RobustModel.{Relation, at_most, at_least, Sense, minimise, maximise, Variable, AdaptiveVariable, Member, SetLine, line, budget, Row, RobustModel, joint_parameters}
use Rattle.rob_meaning.specs.SetConditions.{if_declared}
use Rattle.rob_pieces.specs.Cuts.{Cut, bit, cell_numbers}

-- a name with a cell's number behind it: `NAME_c`
abbrev pub numbered : Name → ℕ → Name
numbered name c = name ++ (codes "_" ++ decimal c)

-- a number whose sign is that of a whole number, as a side: a negative one is a sum of one subtracted number, as `-3`
-- is read
abbrev pub side_of_sign : ℤ → Fraction → Expression
side_of_sign (pos n) q = number q
side_of_sign (negsuc n) q = sum (term true (number (neg_ℚ q)) no_terms)

-- a number as a side of a statement or row
abbrev pub as_side : Fraction → Expression
as_side q = side_of_sign q.num q

module _ (m : RobustModel) (c : ℕ) where
  -- the number of written parameter `k` in cell `c`
  abbrev pub parameter_in : ℕ → ℕ
  parameter_in k = c * length m.parameters + k

  -- the number of cell `c`'s own copy of adaptive variable `y`
  abbrev pub rule_in : ℕ → ℕ
  rule_in y = pred c * length m.adaptives + y

  abbrev mutual
    -- an expression over cell `c`: with the parameters of that cell, and its copies of the adaptive variables, taken
    -- there
    pub over_cell : Expression → Expression
    over_cell (number q) = number q
    over_cell (parameter k) = parameter (parameter_in k)
    over_cell (variable k) = variable k
    over_cell (adaptive y) = adaptive_in (rule_in y) c
    over_cell (adaptive_in y S) = adaptive_in (rule_in y) c
    over_cell (sum ts) = sum (terms_over ts)
    over_cell (product fs) = product (factors_over fs)

    -- the same of each term
    pub terms_over : Terms → Terms
    terms_over no_terms = no_terms
    terms_over (term minus e ts) = term minus (over_cell e) (terms_over ts)

    -- the same of each factor
    pub factors_over : Factors → Factors
    factors_over no_factors = no_factors
    factors_over (factor e fs) = factor (over_cell e) (factors_over fs)

  -- a budget's member over cell `c`
  abbrev pub member_over : Member → Member
  member_over h = record { parameter = parameter_in h.parameter; centre = h.centre; deviation = h.deviation }

  -- a set statement over cell `c`
  abbrev pub line_over : SetLine → SetLine
  line_over (line left relation right) = line (over_cell left) relation (over_cell right)
  line_over (budget limit members) = budget limit (map member_over members)

  -- the side of a cut: `d <= g` where its bit is 0, and `d >= g` otherwise
  abbrev pub side_line : Cut → ℕ → SetLine
  side_line cut zero = line (parameter (parameter_in cut.parameter)) at_most (as_side cut.level)
  side_line cut (suc side) = line (parameter (parameter_in cut.parameter)) at_least (as_side cut.level)

  -- the cell's sides of the cuts
  abbrev pub side_lines : List Cut → List SetLine
  side_lines [] = []
  side_lines (cut ∷ cuts) = side_line cut (bit (length cuts) (pred c)) ∷ side_lines cuts

  -- the statements over cell `c`: the model's, and then its sides of the cuts
  abbrev pub cell_lines : List Cut → List SetLine
  cell_lines cuts = map line_over m.set_lines ++ side_lines cuts

  -- an adaptive variable's own copy `y_c`, without bounds
  abbrev pub copy_in : AdaptiveVariable → AdaptiveVariable
  copy_in y = record { name = numbered y.name c; on = y.on; lower = None; upper = None }

  -- how `cells_worst` is compared with the cell's cost
  abbrev pub cost_relation : Sense → Relation
  cost_relation minimise = at_least
  cost_relation maximise = at_most

  -- the row `cost_c`: `cells_worst` is no better than the objective
  abbrev pub cost_row : Row
  cost_row = record {
    name = numbered (codes "cost") c;
    left = variable (length m.variables);
    relation = cost_relation m.sense;
    right = over_cell m.objective;
  }

  -- a row `NAME_c`
  abbrev pub row_over : Row → Row
  row_over r = record {
    name = numbered r.name c;
    left = over_cell r.left;
    relation = r.relation;
    right = over_cell r.right;
  }

  -- the row of a declared bound of adaptive variable `k`
  abbrev pub bound_row : Name → ℕ → Relation → Fraction → Row
  bound_row name k relation bound =
      record { name = numbered name c; left = adaptive_in (rule_in k) c; relation = relation; right = as_side bound }

  -- the rows `y_lower_c` and `y_upper_c` of the adaptive variables from number `k` on
  abbrev pub bound_rows : ℕ → List AdaptiveVariable → List Row
  bound_rows k [] = []
  bound_rows k (y ∷ ys) =
      if_declared (bound_row (y.name ++ codes "_lower") k at_least) y.lower
      ++ (if_declared (bound_row (y.name ++ codes "_upper") k at_most) y.upper ++ bound_rows (suc k) ys)

  -- the rows over cell `c`: its cost, the model's rows, and the declared bounds of its adaptive variables
  abbrev pub cell_rows : List Row
  cell_rows = cost_row ∷ (map row_over m.rows ++ bound_rows 0 m.adaptives)

-- `cells_worst`, without bounds
abbrev pub cells_worst : Variable
cells_worst = record { name = codes "cells_worst"; lower = None; upper = None }

-- the names of the cells
abbrev pub cell_names : List Cut → List Name
cell_names cuts = map (numbered (codes "cell")) (cell_numbers cuts)

-- what each cell has, one cell after another
abbrev pub by_cell : {A : Type 0} → List Cut → (ℕ → List A) → List A
by_cell cuts f = flat_map f (cell_numbers cuts)

-- and the cell of each item of that
abbrev pub cells_of : {A : Type 0} → List Cut → (ℕ → List A) → List ℕ
cells_of cuts f = by_cell cuts (λ c. map (λ item. c) (f c))

-- the split model of a model of one set
abbrev pub split_model : RobustModel → List Cut → RobustModel
split_model m cuts = record {
  parameters = joint_parameters m.parameters (cell_names cuts);
  sets = cell_names cuts;
  set_lines = by_cell cuts (λ c. cell_lines m c cuts);
  line_sets = cells_of cuts (λ c. cell_lines m c cuts);
  variables = m.variables ++ cells_worst ∷ [];
  adaptives = by_cell cuts (λ c. map (copy_in m c) m.adaptives);
  sense = m.sense;
  objective = variable (length m.variables);
  objective_set = 0;
  rows = by_cell cuts (cell_rows m);
  row_sets = cells_of cuts (cell_rows m);
}
