-- The model of a number: orders over some periods for demands that become known period after period, and stock that
-- costs. The first order is decided here and now, each later one by an affine rule of the demands before it. A budget
-- of uncertainty lets one demand be as far from its centre as it may be. Ben-Tal, Goryashko, Guslitzer, Nemirovski,
-- Adjustable robust solutions of uncertain linear programs (2004); budgets: Bertsimas and Sim, The Price of Robustness
-- (2004).
-- Periods count from 1, as in names, and places in lists from 0: what belongs to place k belongs to period suc k.
use Rattle.std.specs.Fmt.{decimal}
use Rattle.std.specs.Prelude.{ℕ, zero, suc, ◌+◌, ◌-◌, ◌%◌, pos, true, false, List, [], ◌∷◌, ◌++◌, Some, None, codes}
use Rattle.rob_algebra.specs.Fraction.{Fraction, of_int}
use Rattle.rob_meaning.specs.Expressions.{Expression, parameter, variable, adaptive, sum, no_terms}
use Rattle.rob_meaning.specs.Names.{Name}
use Rattle.rob_meaning.specs.Places.{tabulate}
use Rattle.rob_meaning.specs.RobustModel.{RobustModel, Parameter, Variable, AdaptiveVariable, Member, Row, budget, at_least, minimise}
use Rattle.rob_model.specs.View.{Signed, terms_of}

-- the periods of the model of a number: 2 to 5
abbrev pub periods : ℕ → ℕ
periods n = n % 4 + 2

-- the centre of a period's demand: 10, 11 or 12
abbrev pub centre : (n period : ℕ) → ℕ
centre n period = 10 + (n + period) % 3

-- how far a demand may be from its centre
abbrev pub reach : ℕ
reach = 2

-- a whole number as a fraction
abbrev pub whole : ℕ → Fraction
whole number = of_int (pos number)

-- a name with a number in decimal digits behind it
abbrev pub numbered : Name → ℕ → Name
numbered word number = word ++ decimal number

-- ---- what is declared
-- the demand of a place: the parameter d1, d2 and so on, at most the reach from its centre
abbrev pub demand : (centres : ℕ → ℕ) (place : ℕ) → Parameter
demand centres place = record {
  name = numbered (codes "d") (suc place);
  lower = Some (whole (centres (suc place) - reach));
  upper = Some (whole (centres (suc place) + reach));
}

-- the demand of a place as a member of the budget
abbrev pub deviation : (centres : ℕ → ℕ) (place : ℕ) → Member
deviation centres place = record { parameter = place; centre = whole (centres (suc place)); deviation = whole reach }

-- the order of period 1, at least 0
abbrev pub first_order : Variable
first_order = record { name = codes "x"; lower = Some (whole 0); upper = None }

-- the places before this one, in order
abbrev pub places : ℕ → List ℕ
places count = tabulate count (λ place. place)

-- the order of a later period, at least 0: it depends on the demands before that period; y2 is the first, on d1
abbrev pub later_order : ℕ → AdaptiveVariable
later_order later = record {
  name = numbered (codes "y") (suc (suc later));
  on = places (suc later);
  lower = Some (whole 0);
  upper = None;
}

-- ---- expressions
-- an expression that is added
abbrev pub added : Expression → Signed
added e = (false, e)

-- an expression that is subtracted
abbrev pub subtracted : Expression → Signed
subtracted e = (true, e)

-- the order of a place: x, and then the adaptive variables
abbrev pub order : ℕ → Expression
order zero = variable 0
order (suc later) = adaptive later

-- the sum of the expressions at the first places; one alone stands as it is
abbrev pub total : ℕ → (ℕ → Expression) → Expression
total zero f = sum no_terms
total (suc zero) f = f zero
total (suc (suc more)) f = sum (terms_of (tabulate (suc (suc more)) (λ place. added (f place))))

-- the stock behind the first periods: their orders less their demands
abbrev pub stock : ℕ → Expression
stock count =
    sum (terms_of (tabulate count (λ place. added (order place))
    ++ tabulate count (λ place. subtracted (parameter place))))

-- the cost: each order, and the stock behind each period
abbrev pub cost : ℕ → Expression
cost count =
    sum (terms_of (tabulate count (λ place. added (order place))
    ++ tabulate count (λ place. added (stock (suc place)))))

-- the orders up to a period are at least the demands up to it
abbrev pub need : ℕ → Row
need place = record {
  name = numbered (codes "need") (suc place);
  left = total (suc place) order;
  relation = at_least;
  right = total (suc place) parameter;
}

-- ---- the model
-- the model over so many periods, one of them at least, whose demands have these centres
abbrev pub model_over : (count : ℕ) (centres : ℕ → ℕ) → RobustModel
model_over count centres = record {
  parameters = tabulate count (demand centres);
  sets = [];
  set_lines = budget (whole 1) (tabulate count (deviation centres)) ∷ [];
  line_sets = 0 ∷ [];
  variables = first_order ∷ [];
  adaptives = tabulate (count - 1) later_order;
  sense = minimise;
  objective = cost count;
  objective_set = 0;
  rows = tabulate count need;
  row_sets = tabulate count (λ place. 0);
}

-- the model of a number
abbrev pub generated : ℕ → RobustModel
generated n = model_over (periods n) (centre n)
