-- The model that a text's statements say: what they write, each part taken in the set that it answers to.
use Rattle.std.specs.Prelude.{ℕ, zero, suc, ◌+◌, ◌*◌, List, [], ◌∷◌, length, map, Option, Some, None}
use Rattle.std.specs.List.{flat_map}
use Rattle.rob_meaning.specs.Expressions as meaning
use Rattle.rob_meaning.specs.RobustModel as model
use Rattle.rob_meaning.specs.RobustModel.{joint_parameters}
use Rattle.rob_rules.specs.declared.sort.Sort.{Sort}
use Rattle.rob_rules.specs.declared.sort.Sort.TheVariants as sort
use Rattle.rob_syntax.specs.declared.syntax.Goal.{Goal}
use Rattle.rob_syntax.specs.declared.syntax.Statement.{Statement}
use Rattle.rob_syntax.specs.declared.syntax.Statement.TheVariants as parsed
use Rattle.rob_rules.specs.Degrees.{sort_at}
use Rattle.rob_parse.specs.Written.{goal_in, sets, written_of}

-- the number of a set; nothing else stands where one is asked for
abbrev pub set_number : Option Sort → ℕ
set_number (Some (sort.Set S)) = S
set_number _ = 0

-- the set of the name behind `over`; a line without one answers to the default set
abbrev pub set_at : List (Option Sort) → Option ℕ → ℕ
set_at sorts None = 0
set_at sorts (Some k) = set_number (sort_at sorts k)

-- an adaptive variable as a set takes it: the default set takes it as it is
abbrev pub adaptive_taken : ℕ → ℕ → meaning.Expression
adaptive_taken zero y = meaning.adaptive y
adaptive_taken (suc S) y = meaning.adaptive_in y (suc S)

module _ (sorts : List (Option Sort)) where
  -- the set of a statement on a set, if it is one
  abbrev pub line_sets : Statement → List ℕ
  line_sets (parsed.Set r) = set_at sorts r.over ∷ []
  line_sets (parsed.Budget b) = set_at sorts b.over ∷ []
  line_sets _ = []

  -- the set of a row, if it is one
  abbrev pub row_sets : Statement → List ℕ
  row_sets (parsed.Row r) = set_at sorts r.relation.over ∷ []
  row_sets _ = []

  -- the set of the objective
  abbrev pub objective_set : Option Goal → ℕ
  objective_set None = 0
  objective_set (Some g) = set_at sorts g.over

-- where there are so many written parameters
module _ (count : ℕ) where
  abbrev mutual
    -- an expression as set `S` takes it: its parameters are those of the set, and its adaptive variables are taken in
    -- it
    pub taken : ℕ → meaning.Expression → meaning.Expression
    taken S (meaning.number q) = meaning.number q
    taken S (meaning.parameter k) = meaning.parameter (S * count + k)
    taken S (meaning.variable k) = meaning.variable k
    taken S (meaning.adaptive y) = adaptive_taken S y
    taken S (meaning.adaptive_in y T) = meaning.adaptive_in y T
    taken S (meaning.sum ts) = meaning.sum (terms_taken S ts)
    taken S (meaning.product fs) = meaning.product (factors_taken S fs)

    pub terms_taken : ℕ → meaning.Terms → meaning.Terms
    terms_taken S meaning.no_terms = meaning.no_terms
    terms_taken S (meaning.term minus e ts) = meaning.term minus (taken S e) (terms_taken S ts)

    pub factors_taken : ℕ → meaning.Factors → meaning.Factors
    factors_taken S meaning.no_factors = meaning.no_factors
    factors_taken S (meaning.factor e fs) = meaning.factor (taken S e) (factors_taken S fs)

  -- a member of a budget, as set `S` takes it
  abbrev pub member_taken : ℕ → model.Member → model.Member
  member_taken S h = record h { parameter = S * count + h.parameter }

  -- a statement on the set, as set `S` takes it
  abbrev pub line_taken : ℕ → model.SetLine → model.SetLine
  line_taken S (model.line left relation right) = model.line (taken S left) relation (taken S right)
  line_taken S (model.budget limit members) = model.budget limit (map (member_taken S) members)

  -- a row, as set `S` takes it
  abbrev pub row_taken : ℕ → model.Row → model.Row
  row_taken S r = record r { left = taken S r.left; right = taken S r.right }

-- what is written, each part taken in its set: the parts of a list beside the sets of another
abbrev pub each_taken : {A : Type 0} → (ℕ → A → A) → List A → List ℕ → List A
each_taken take [] Ss = []
each_taken take (x ∷ xs) [] = x ∷ xs
each_taken take (x ∷ xs) (S ∷ Ss) = take S x ∷ each_taken take xs Ss

-- a model over written parameters, with these named sets, where its statements, its objective and its rows answer to
-- these
abbrev pub in_sets : model.RobustModel → List (List ℕ) → (of_lines : List ℕ) (of_objective : ℕ) (of_rows : List ℕ)
    → model.RobustModel
in_sets w names of_lines of_objective of_rows = record {
  parameters = joint_parameters w.parameters names;
  sets = names;
  set_lines = each_taken (line_taken (length w.parameters)) w.set_lines of_lines;
  line_sets = of_lines;
  variables = w.variables;
  adaptives = w.adaptives;
  sense = w.sense;
  objective = taken (length w.parameters) of_objective w.objective;
  objective_set = of_objective;
  rows = each_taken (row_taken (length w.parameters)) w.rows of_rows;
  row_sets = of_rows;
}

module _ (words : List (List ℕ)) (sorts : List (Option Sort)) where
  -- the model of some statements, where this is what names stand for
  abbrev pub model_of : List Statement → model.RobustModel
  model_of list =
      in_sets (written_of words sorts list) (flat_map (sets words) list) (flat_map (line_sets sorts) list)
      (objective_set sorts (goal_in list))
      (flat_map (row_sets sorts) list)
