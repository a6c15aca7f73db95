-- What a model has written: each parameter and each adaptive variable by its declared name, whatever set it is
-- taken in.
use Rattle.std.specs.Prelude.{ℕ, ◌%◌, [], map}
use Rattle.rob_meaning.specs.Expressions.{Expression, number, parameter, variable, adaptive, adaptive_in, sum, product, Terms, no_terms, term, Factors, no_factors, factor}
use Rattle.rob_meaning.specs.RobustModel.{Member, SetLine, line, budget, Row, RobustModel, written_count, written_parameters}

module _ (count : ℕ) where
  abbrev mutual
    -- an expression as it is written, where there are so many written parameters
    pub written : Expression → Expression
    written (number q) = number q
    written (parameter k) = parameter (k % count)
    written (variable k) = variable k
    written (adaptive y) = adaptive y
    written (adaptive_in y S) = adaptive y
    written (sum ts) = sum (terms_written ts)
    written (product fs) = product (factors_written fs)

    pub terms_written : Terms → Terms
    terms_written no_terms = no_terms
    terms_written (term minus e ts) = term minus (written e) (terms_written ts)

    pub factors_written : Factors → Factors
    factors_written no_factors = no_factors
    factors_written (factor e fs) = factor (written e) (factors_written fs)

  -- a member of a budget, as it is written
  abbrev pub member_written : Member → Member
  member_written h = record h { parameter = h.parameter % count }

  -- a statement on a set, as it is written
  abbrev pub line_written : SetLine → SetLine
  line_written (line left relation right) = line (written left) relation (written right)
  line_written (budget limit members) = budget limit (map member_written members)

  -- a row, as it is written
  abbrev pub row_written : Row → Row
  row_written r = record r { left = written r.left; right = written r.right }

-- the model over the written parameters, without sets
abbrev pub written_model : RobustModel → RobustModel
written_model m = record {
  parameters = written_parameters m;
  sets = [];
  set_lines = map (line_written (written_count m)) m.set_lines;
  line_sets = [];
  variables = m.variables;
  adaptives = m.adaptives;
  sense = m.sense;
  objective = written (written_count m) m.objective;
  objective_set = 0;
  rows = map (row_written (written_count m)) m.rows;
  row_sets = [];
}
