-- The smallest model that decides something: minimise x, where x is at least d in each scenario, and d lies between 8
-- and 12.
use Rattle.std.specs.Prelude.{pos, [], ◌∷◌, Some, None, codes}
use Rattle.rob_algebra.specs.Fraction.{of_int}
use Rattle.rob_meaning.specs.Expressions.{parameter, variable}
use Rattle.rob_meaning.specs.RobustModel.{RobustModel, at_least, minimise}

-- d >= 8 and d <= 12 are its set rows; x - tau and d - x are its forms
abbrev pub one_demand : RobustModel
one_demand = record {
  parameters = record { name = codes "d"; lower = Some (of_int (pos 8)); upper = Some (of_int (pos 12)) } ∷ [];
  sets = [];
  set_lines = [];
  line_sets = [];
  variables = record { name = codes "x"; lower = None; upper = None } ∷ [];
  adaptives = [];
  sense = minimise;
  objective = variable 0;
  objective_set = 0;
  rows = record { name = codes "r"; left = variable 0; relation = at_least; right = parameter 0 } ∷ [];
  row_sets = 0 ∷ [];
}
