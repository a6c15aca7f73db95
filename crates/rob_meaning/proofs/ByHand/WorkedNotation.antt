-- Short forms in which worked examples are written.
use Rattle.std.specs.Prelude.{ℕ, pos, true, false, List, [], Option, None}
use Rattle.rob_algebra.specs.Fraction.{Fraction, of_int, of_pair, neg_ℚ}
use Rattle.rob_meaning.specs.Certificates.{optimal, infeasible, unbounded, Cover, Item, Certificate}
use Rattle.rob_meaning.specs.Expressions.{Expression, sum, no_terms, term, product, no_factors, factor}
use Rattle.rob_meaning.specs.Names.{Name}
use Rattle.rob_meaning.specs.Places.{0ℚ, 1ℚ}
use Rattle.rob_meaning.specs.RobustModel.{Parameter, Variable, Member, AdaptiveVariable, Relation, Row}

infixl 6 ◌⊕◌ ◌⊖◌
-- ---- numbers
abbrev pub int : ℕ → Fraction
int n = of_int (pos n)

abbrev pub over : ℕ → ℕ → Fraction
over n d = of_pair (pos n) d

abbrev pub minus_one : Fraction
minus_one = neg_ℚ 1ℚ

-- ---- expressions
abbrev pub ◌⊕◌ : Expression → Expression → Expression
a ⊕ b = sum (term false a (term false b no_terms))

abbrev pub ◌⊖◌ : Expression → Expression → Expression
a ⊖ b = sum (term false a (term true b no_terms))

abbrev pub times : Expression → Expression → Expression
times a b = product (factor a (factor b no_factors))

-- ---- declarations
abbrev pub uncertain : Name → Option Fraction → Option Fraction → Parameter
uncertain name low high = record { name = name; lower = low; upper = high }

abbrev pub var : Name → Option Fraction → Option Fraction → Variable
var name low high = record { name = name; lower = low; upper = high }

abbrev pub rule : Name → List ℕ → Option Fraction → AdaptiveVariable
rule name on low = record { name = name; on = on; lower = low; upper = None }

abbrev pub around : ℕ → Fraction → Fraction → Member
around k centre deviation = record { parameter = k; centre = centre; deviation = deviation }

abbrev pub row : Name → Expression → Relation → Expression → Row
row name left relation right = record { name = name; left = left; relation = relation; right = right }

-- ---- certificates
abbrev pub cover : ℕ → ℕ → Fraction → Cover
cover form set_row amount = record { form = form; set_row = set_row; amount = amount }

abbrev pub item : ℕ → Fraction → List Fraction → Item
item form weight scenario = record { form = form; weight = weight; base = 1ℚ; vector = scenario }

abbrev pub ray_item : ℕ → Fraction → List Fraction → Item
ray_item form weight ray = record { form = form; weight = weight; base = 0ℚ; vector = ray }

-- a plan with its value, the covers that show it to be kept, and the items that show it to be best
abbrev pub best : Fraction → List Fraction → List Fraction → List Cover → List Item → Certificate
best value inside plan covers items = record {
  status = optimal;
  value = value;
  scale = 1ℚ;
  inside = inside;
  plan = plan;
  step = [];
  step_bound = 0ℚ;
  covers = covers;
  holds = [];
  items = items;
}

-- items that no plan can meet
abbrev pub none : List Fraction → List Item → Certificate
none inside items = record {
  status = infeasible;
  value = 0ℚ;
  scale = 1ℚ;
  inside = inside;
  plan = [];
  step = [];
  step_bound = 0ℚ;
  covers = [];
  holds = [];
  items = items;
}

-- a plan with a bound and a direction in which it improves, with nothing to cover
abbrev pub without_end : List Fraction → List Fraction → Fraction → Certificate
without_end plan step step_bound = record {
  status = unbounded;
  value = 0ℚ;
  scale = 1ℚ;
  inside = [];
  plan = plan;
  step = step;
  step_bound = step_bound;
  covers = [];
  holds = [];
  items = [];
}
