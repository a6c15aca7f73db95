-- Models, cuts, certificates and scenario files that worked calls are given. The smallest model is `one_demand`, to
-- minimise x where x >= d for each d in [8, 12].
use Rattle.std.specs.Prelude.{ℕ, ◌-◌, ◌^◌, pos, false, List, [], ◌∷◌, ◌++◌, Some, None, codes}
use Rattle.rob_algebra.specs.Fraction.{neg_ℚ, of_int}
use Rattle.rob_dualize.specs.SmallestModel.{one_demand}
use Rattle.rob_meaning.specs.Certificates.{Certificate, infeasible, optimal}
use Rattle.rob_meaning.specs.Places.{0ℚ, 1ℚ}
use Rattle.rob_meaning.specs.Expressions.{number, parameter, variable, sum, no_terms, term, product, factor, no_factors}
use Rattle.rob_meaning.specs.RobustModel.{RobustModel, at_least, at_most, budget, line, minimise}
use Rattle.rob_report.specs.Lines.{line as line_of}
use Rattle.rob_pieces.specs.Cuts.{Cut}
use Rattle.rob_top.specs.Split.{level_value}

-- the limit of 62 bits
abbrev pub greatest : ℕ
greatest = 2 ^ 62 - 1

-- the smallest model's set cut at 9, as `d=9` says
abbrev pub at_9 : List Cut
at_9 = record { parameter = 0; level = level_value (codes "9") } ∷ []

-- and at 13, above each scenario that it admits
abbrev pub at_13 : List Cut
at_13 = record { parameter = 0; level = level_value (codes "13") } ∷ []

-- minimise x, where x >= d for each d in [0, 2], within a budget of 1 round 1 by 1
abbrev pub demand_within_a_budget : RobustModel
demand_within_a_budget = record one_demand {
  parameters = record { name = codes "d"; lower = Some (of_int (pos 0)); upper = Some (of_int (pos 2)) } ∷ [];
  set_lines = budget 1ℚ (record { parameter = 0; centre = 1ℚ; deviation = 1ℚ } ∷ []) ∷ [];
  line_sets = 0 ∷ [];
}

-- a scenario file with two records: in the first the set admits `d`, which is 9; in the second, where it is 13, it
-- does not
abbrev pub two_demands : List ℕ
two_demands = line_of (codes "d") ++ (line_of (codes "9") ++ line_of (codes "13"))

-- a header that names no parameter
abbrev pub no_demand : List ℕ
no_demand = line_of (codes "e")

-- minimise x, where 2 x >= d for each d in [8, 13], and x lies in [0, 10]
abbrev pub half_a_demand : RobustModel
half_a_demand = record one_demand {
  parameters = record { name = codes "d"; lower = Some (of_int (pos 8)); upper = Some (of_int (pos 13)) } ∷ [];
  variables = record { name = codes "x"; lower = Some (of_int (pos 0)); upper = Some (of_int (pos 10)) } ∷ [];
  rows = record {
    name = codes "r";
    left = product (factor (number (of_int (pos 2))) (factor (variable 0) no_factors));
    relation = at_least;
    right = parameter 0;
  } ∷ [];
}

-- the same where d lies in [13, 8], so no scenario is admitted
abbrev pub impossible_demand : RobustModel
impossible_demand = record half_a_demand {
  parameters = record { name = codes "d"; lower = Some (of_int (pos 13)); upper = Some (of_int (pos 8)) } ∷ [];
}

-- minimise x, where d lies in [12, 8], so no scenario is admitted
abbrev pub empty_interval : RobustModel
empty_interval = record one_demand {
  parameters = record { name = codes "d"; lower = Some (of_int (pos 12)); upper = Some (of_int (pos 8)) } ∷ [];
  rows = [];
  row_sets = [];
}

-- minimise x + z, where x >= d for each d in [8, 12], and z >= d over the set `calm`, which admits those that are at
-- most 10
abbrev pub hard_and_soft : RobustModel
hard_and_soft = record {
  parameters =
      record { name = codes "d"; lower = Some (of_int (pos 8)); upper = Some (of_int (pos 12)) }
      ∷ record { name = codes "calm.d"; lower = Some (of_int (pos 8)); upper = Some (of_int (pos 12)) } ∷ [];
  sets = codes "calm" ∷ [];
  set_lines = line (parameter 1) at_most (number (of_int (pos 10))) ∷ [];
  line_sets = 1 ∷ [];
  variables =
      record { name = codes "x"; lower = None; upper = None }
      ∷ record { name = codes "z"; lower = None; upper = None } ∷ [];
  adaptives = [];
  sense = minimise;
  objective = sum (term false (variable 0) (term false (variable 1) no_terms));
  objective_set = 0;
  rows =
      record { name = codes "hard"; left = variable 0; relation = at_least; right = parameter 0 }
      ∷ record { name = codes "soft"; left = variable 1; relation = at_least; right = parameter 1 } ∷ [];
  row_sets = 0 ∷ 1 ∷ [];
}

-- the same with d >= 13 over calm, so that calm admits no scenario
abbrev pub never_calm : RobustModel
never_calm = record hard_and_soft { set_lines = line (parameter 1) at_least (number (of_int (pos 13))) ∷ [] }

-- x = 12: the objective x - tau <= 0 and the row at d = 12, 12 - x <= 0, sum to 12 - tau <= 0
abbrev pub order_12 : Certificate
order_12 = record {
  status = optimal;
  value = of_int (pos 12);
  scale = 1ℚ;
  inside = of_int (pos 8) ∷ [];
  plan = of_int (pos 12) ∷ [];
  step = [];
  step_bound = 0ℚ;
  covers = record { form = 1; set_row = 1; amount = 1ℚ } ∷ [];
  holds = [];
  items =
      record { form = 0; weight = 1ℚ; base = 1ℚ; vector = of_int (pos 12) ∷ [] }
      ∷ record { form = 1; weight = 1ℚ; base = 1ℚ; vector = of_int (pos 12) ∷ [] } ∷ [];
}

-- 11 is claimed, and the items show 12
abbrev pub order_11 : Certificate
order_11 = record order_12 { value = of_int (pos 11); plan = of_int (pos 11) ∷ [] }

-- that there is no plan is claimed, and no item shows it
abbrev pub no_order : Certificate
no_order = record order_12 { status = infeasible; value = 0ℚ; plan = []; covers = []; items = [] }

-- the plan is the least number of 62 bits: 9 less is wide
abbrev pub order_least : Certificate
order_least = record order_12 { plan = neg_ℚ (of_int (pos greatest)) ∷ [] }

-- x = 0 and the value 0, which no item shows
abbrev pub order_0 : Certificate
order_0 = record order_12 { value = 0ℚ; inside = 0ℚ ∷ []; plan = 0ℚ ∷ []; covers = []; items = [] }
