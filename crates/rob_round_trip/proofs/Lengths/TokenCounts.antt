-- The canonical text of a model that a text reads as has no more tokens than a
-- text may have, and no deeper parentheses.
use Rattle.std.proofs.Common.{◌≡◌, ℕ, ◌+◌, ◌≤◌, List, [], ◌∷◌, ◌++◌, length, map, refl, sym, ap, ◌∙◌, subst, arith, length-append}
use Rattle.std.specs.Prelude.{Option, IsSome}
use Rattle.std.specs.List.{flat_map}
use Rattle.rob_lex.specs.Offences.{most_tokens}
use Rattle.rob_meaning.specs.Places.{Each}
use Rattle.rob_meaning.specs.RobustModel as model
use Rattle.rob_meaning.specs.RobustModel.{RobustModel}
use Rattle.std.proofs.lemmas.List.{length-map}
use Rattle.rob_meaning.proofs.Lists.EachLemmas.{each_append}
use Rattle.rob_meaning.proofs.Naming.NamedLemmas.{each_flat}
use Rattle.rob_rules.specs.declared.sort.Sort.{Sort}
use Rattle.rob_syntax.specs.declared.syntax.Statement.{Statement}
use Rattle.rob_syntax.specs.declared.syntax.Statement.TheVariants as parsed
use Rattle.rob_write.specs.Pages.{Written, line_end}
use Rattle.rob_write.specs.WrittenModel.{written_model}
use Rattle.rob_write.specs.ExpressionWords.{Naming, naming_of}
use Rattle.rob_write.specs.StatementWords.{declared_set_words, lines_over, over_words, parameter_words, set_words, variable_words, adaptive_words, goal_words, row_words}
use Rattle.rob_write.specs.Canonical.{lines_of}
use Rattle.rob_parse.specs.Modelled.{ReadsModel}
use Rattle.rob_parse.specs.Written.{parameters, set_lines, sets, variables, adaptives, rows, goal_in, sense_in, objective_of, written_of}
use Rattle.rob_parse.specs.Models.{line_sets, objective_set, row_sets}
use Rattle.rob_round_trip.specs.Pages.{IsShallow, ended}
use Rattle.rob_rules.specs.Scopes.{start}
use Rattle.rob_parse.proofs.Degrees.FitLemmas.{all_fit, goal_there}
use Rattle.rob_parse.proofs.Names.ChainLemmas.{model_chain}
use Rattle.rob_parse.proofs.Building.ModelLemmas.{model_names, written_by}
use Rattle.rob_round_trip.proofs.Written.PlacedModels.{is_written}
use Rattle.rob_round_trip.proofs.Written.ReadModels.{Good, all_good}
use Rattle.rob_round_trip.specs.Lines.{AreReadable, canonical_line}
use Rattle.rob_round_trip.proofs.Indexed.ReadLengths.{read_few, read_shallow}
use Rattle.rob_round_trip.proofs.Known.KnownNames.{ends_in_sets}
use Rattle.rob_round_trip.proofs.Known.NumberedSets.{sets_from_one}

-- ---- what lines of words cost
cost-more : (l : List Written) (ls : List (List Written)) → length (ended (l ∷ ls)) ≡ (length l + 1) + length (ended ls)
cost-more l ls = omega (arith, length-append l (line_end ∷ ended ls))

ended-append : (a b : List (List Written)) → length (ended (a ++ b)) ≡ length (ended a) + length (ended b)
ended-append [] b = omega arith
ended-append (l ∷ a) b = omega (arith, ended-append a b, cost-more l (a ++ b), cost-more l a)

-- the canonical lines with these names, of what is written and of its sets
abbrev lines_with : Naming → RobustModel → List (List ℕ) → List ℕ → ℕ → List ℕ → List (List Written)
lines_with names w sets of_lines of_objective of_rows =
    map parameter_words w.parameters
    ++ (map declared_set_words sets
    ++ (lines_over (set_words names) names.sets w.set_lines of_lines
    ++ (map variable_words w.variables
    ++ (map (adaptive_words names) w.adaptives
    ++ (goal_words names w.sense w.objective ++ over_words names.sets of_objective)
    ∷ lines_over (row_words names) names.sets w.rows of_rows))))

module _ (limit : ℕ) (words : List (List ℕ)) (sorts : List (Option Sort)) (names : Naming) where
  -- the canonical line of a statement
  abbrev line_of : Statement → List Written
  line_of s = canonical_line words sorts names s

  -- the lines of a kind
  abbrev of_parameters : List Statement → List (List Written)
  of_parameters list = map parameter_words (flat_map (parameters words) list)

  abbrev of_names : List Statement → List (List Written)
  of_names list = map declared_set_words (flat_map (sets words) list)

  abbrev of_set_lines : List Statement → List (List Written)
  of_set_lines list =
      lines_over (set_words names) names.sets (flat_map (set_lines sorts) list) (flat_map (line_sets sorts) list)

  abbrev of_variables : List Statement → List (List Written)
  of_variables list = map variable_words (flat_map (variables words) list)

  abbrev of_adaptives : List Statement → List (List Written)
  of_adaptives list = map (adaptive_words names) (flat_map (adaptives words sorts) list)

  abbrev goal_lines : Statement → List (List Written)
  goal_lines (parsed.Goal g) = line_of (parsed.Goal g) ∷ []
  goal_lines _ = []

  abbrev of_goals : List Statement → List (List Written)
  of_goals list = flat_map goal_lines list

  abbrev of_rows : List Statement → List (List Written)
  of_rows list =
      lines_over (row_words names) names.sets (flat_map (rows words sorts) list) (flat_map (row_sets sorts) list)

  -- all lines by kind
  abbrev by_kind : List Statement → ℕ
  by_kind list =
      length (ended (of_parameters list))
      + (length (ended (of_names list))
      + (length (ended (of_set_lines list))
      + (length (ended (of_variables list))
      + (length (ended (of_adaptives list))
      + (length (ended (of_goals list)) + length (ended (of_rows list)))))))

  -- sorting by kind changes no sum
  kinds : (list : List Statement) → by_kind list ≡ length (ended (map line_of list))
  kinds [] = refl
  kinds (parsed.Uncertain d ∷ list) =
      omega (
        arith,
        kinds list,
        cost-more (line_of (parsed.Uncertain d)) (map line_of list),
        cost-more (line_of (parsed.Uncertain d)) (of_parameters list),
      )
  kinds (parsed.Over k ∷ list) =
      omega (
        arith,
        kinds list,
        cost-more (line_of (parsed.Over k)) (map line_of list),
        cost-more (line_of (parsed.Over k)) (of_names list),
      )
  kinds (parsed.Set r ∷ list) =
      omega (
        arith,
        kinds list,
        cost-more (line_of (parsed.Set r)) (map line_of list),
        cost-more (line_of (parsed.Set r)) (of_set_lines list),
      )
  kinds (parsed.Budget b ∷ list) =
      omega (
        arith,
        kinds list,
        cost-more (line_of (parsed.Budget b)) (map line_of list),
        cost-more (line_of (parsed.Budget b)) (of_set_lines list),
      )
  kinds (parsed.Var d ∷ list) =
      omega (
        arith,
        kinds list,
        cost-more (line_of (parsed.Var d)) (map line_of list),
        cost-more (line_of (parsed.Var d)) (of_variables list),
      )
  kinds (parsed.Adaptive p ∷ list) =
      omega (
        arith,
        kinds list,
        cost-more (line_of (parsed.Adaptive p)) (map line_of list),
        cost-more (line_of (parsed.Adaptive p)) (of_adaptives list),
      )
  kinds (parsed.Goal g ∷ list) =
      omega (
        arith,
        kinds list,
        cost-more (line_of (parsed.Goal g)) (map line_of list),
        cost-more (line_of (parsed.Goal g)) (of_goals list),
      )
  kinds (parsed.Row r ∷ list) =
      omega (
        arith,
        kinds list,
        cost-more (line_of (parsed.Row r)) (map line_of list),
        cost-more (line_of (parsed.Row r)) (of_rows list),
      )

  -- the objective's line is one of the goals'
  abbrev goal_line : List Statement → List Written
  goal_line list =
      goal_words names (sense_in (goal_in list)) (objective_of sorts (goal_in list))
      ++ over_words names.sets (objective_set sorts (goal_in list))

  goal_counted : (list : List Statement) → IsSome (goal_in list)
      → length (goal_line list) + 1 ≤ length (ended (of_goals list))
  goal_counted [] some = cc
  goal_counted (parsed.Goal g ∷ list) some = omega (arith, cost-more (line_of (parsed.Goal g)) (of_goals list))
  goal_counted (parsed.Uncertain d ∷ list) some = goal_counted list some
  goal_counted (parsed.Over k ∷ list) some = goal_counted list some
  goal_counted (parsed.Set r ∷ list) some = goal_counted list some
  goal_counted (parsed.Budget b ∷ list) some = goal_counted list some
  goal_counted (parsed.Var d ∷ list) some = goal_counted list some
  goal_counted (parsed.Adaptive p ∷ list) some = goal_counted list some
  goal_counted (parsed.Row r ∷ list) some = goal_counted list some

  -- all lines
  abbrev all_lines : List Statement → List (List Written)
  all_lines list =
      lines_with names (written_of words sorts list) (flat_map (sets words) list) (flat_map (line_sets sorts) list)
      (objective_set sorts (goal_in list)) (flat_map (row_sets sorts) list)

  lines_counted : (list : List Statement) → IsSome (goal_in list)
      → length (ended (all_lines list)) ≤ length (ended (map line_of list))
  lines_counted list some =
      let five = goal_line list ∷ of_rows list in
      let four = of_adaptives list ++ five in
      let three = of_variables list ++ four in
      let two = of_set_lines list ++ three in
      let rest = of_names list ++ two in
      omega (
        arith,
        ended-append (of_parameters list) rest,
        ended-append (of_names list) two,
        ended-append (of_set_lines list) three,
        ended-append (of_variables list) four,
        ended-append (of_adaptives list) five,
        cost-more (goal_line list) (of_rows list),
        goal_counted list some,
        kinds list,
      )

  -- ---- how deep they stand
  -- that line isn't too deep
  abbrev IsLow : Statement → Type 0
  IsLow s = IsShallow 0 (line_of s)

  mapped : {A : Type 0} (write : A → List Written) (xs : List A) → Each (λ x. IsShallow 0 (write x)) xs
      → Each (IsShallow 0) (map write xs)
  mapped write [] h = tt
  mapped write (x ∷ xs) h = (h.0, mapped write xs h.1)

  parameters_deep : (s : Statement) → IsLow s → Each (λ p. IsShallow 0 (parameter_words p)) (parameters words s)
  parameters_deep (parsed.Uncertain d) h = (h, tt)
  parameters_deep (parsed.Over k) h = tt
  parameters_deep (parsed.Set r) h = tt
  parameters_deep (parsed.Budget b) h = tt
  parameters_deep (parsed.Var d) h = tt
  parameters_deep (parsed.Adaptive p) h = tt
  parameters_deep (parsed.Goal g) h = tt
  parameters_deep (parsed.Row r) h = tt

  names_deep : (s : Statement) → IsLow s → Each (λ n. IsShallow 0 (declared_set_words n)) (sets words s)
  names_deep (parsed.Uncertain d) h = tt
  names_deep (parsed.Over k) h = (h, tt)
  names_deep (parsed.Set r) h = tt
  names_deep (parsed.Budget b) h = tt
  names_deep (parsed.Var d) h = tt
  names_deep (parsed.Adaptive p) h = tt
  names_deep (parsed.Goal g) h = tt
  names_deep (parsed.Row r) h = tt

  set_lines_deep : (list : List Statement) → Each IsLow list → Each (IsShallow 0) (of_set_lines list)
  set_lines_deep [] h = tt
  set_lines_deep (parsed.Set r ∷ list) h = (h.0, set_lines_deep list h.1)
  set_lines_deep (parsed.Budget b ∷ list) h = (h.0, set_lines_deep list h.1)
  set_lines_deep (parsed.Uncertain d ∷ list) h = set_lines_deep list h.1
  set_lines_deep (parsed.Over k ∷ list) h = set_lines_deep list h.1
  set_lines_deep (parsed.Var d ∷ list) h = set_lines_deep list h.1
  set_lines_deep (parsed.Adaptive p ∷ list) h = set_lines_deep list h.1
  set_lines_deep (parsed.Goal g ∷ list) h = set_lines_deep list h.1
  set_lines_deep (parsed.Row r ∷ list) h = set_lines_deep list h.1

  variables_deep : (s : Statement) → IsLow s → Each (λ x. IsShallow 0 (variable_words x)) (variables words s)
  variables_deep (parsed.Uncertain d) h = tt
  variables_deep (parsed.Over k) h = tt
  variables_deep (parsed.Set r) h = tt
  variables_deep (parsed.Budget b) h = tt
  variables_deep (parsed.Var d) h = (h, tt)
  variables_deep (parsed.Adaptive p) h = tt
  variables_deep (parsed.Goal g) h = tt
  variables_deep (parsed.Row r) h = tt

  adaptives_deep : (s : Statement) → IsLow s
      → Each (λ y. IsShallow 0 (adaptive_words names y)) (adaptives words sorts s)
  adaptives_deep (parsed.Uncertain d) h = tt
  adaptives_deep (parsed.Over k) h = tt
  adaptives_deep (parsed.Set r) h = tt
  adaptives_deep (parsed.Budget b) h = tt
  adaptives_deep (parsed.Var d) h = tt
  adaptives_deep (parsed.Adaptive p) h = (h, tt)
  adaptives_deep (parsed.Goal g) h = tt
  adaptives_deep (parsed.Row r) h = tt

  rows_deep : (list : List Statement) → Each IsLow list → Each (IsShallow 0) (of_rows list)
  rows_deep [] h = tt
  rows_deep (parsed.Row r ∷ list) h = (h.0, rows_deep list h.1)
  rows_deep (parsed.Set r ∷ list) h = rows_deep list h.1
  rows_deep (parsed.Budget b ∷ list) h = rows_deep list h.1
  rows_deep (parsed.Uncertain d ∷ list) h = rows_deep list h.1
  rows_deep (parsed.Over k ∷ list) h = rows_deep list h.1
  rows_deep (parsed.Var d ∷ list) h = rows_deep list h.1
  rows_deep (parsed.Adaptive p ∷ list) h = rows_deep list h.1
  rows_deep (parsed.Goal g ∷ list) h = rows_deep list h.1

  goal_deep : (list : List Statement) → IsSome (goal_in list) → Each IsLow list → IsShallow 0 (goal_line list)
  goal_deep [] some h = cc
  goal_deep (parsed.Goal g ∷ list) some h = h.0
  goal_deep (parsed.Uncertain d ∷ list) some h = goal_deep list some h.1
  goal_deep (parsed.Over k ∷ list) some h = goal_deep list some h.1
  goal_deep (parsed.Set r ∷ list) some h = goal_deep list some h.1
  goal_deep (parsed.Budget b ∷ list) some h = goal_deep list some h.1
  goal_deep (parsed.Var d ∷ list) some h = goal_deep list some h.1
  goal_deep (parsed.Adaptive p ∷ list) some h = goal_deep list some h.1
  goal_deep (parsed.Row r ∷ list) some h = goal_deep list some h.1

  lines_deep : (list : List Statement) → IsSome (goal_in list) → Each IsLow list → Each (IsShallow 0) (all_lines list)
  lines_deep list some h =
      let join = each_append (IsShallow 0) in
      join (of_parameters list) _
      (mapped parameter_words _ (each_flat _ IsLow (parameters words) parameters_deep list h))
      (join (of_names list) _ (mapped declared_set_words _ (each_flat _ IsLow (sets words) names_deep list h))
      (join (of_set_lines list) _ (set_lines_deep list h)
      (join (of_variables list) _ (mapped variable_words _ (each_flat _ IsLow (variables words) variables_deep list h))
      (join (of_adaptives list) _
      (mapped (adaptive_words names) _ (each_flat _ IsLow (adaptives words sorts) adaptives_deep list h))
      (goal_deep list some h, rows_deep list h)))))

-- ---- the canonical text
module _ (limit : ℕ) (text : List ℕ) (m : RobustModel) (low : 1 ≤ limit) (read : ReadsModel limit text m) where
  ps : length (naming_of m).parameters ≡ length (written_by limit text m read).parameters
  ps = length-map (written_model m).parameters (λ (p : model.Parameter). p.name)
      ∙ ap (λ (x : RobustModel). length x.parameters) (is_written limit text m read low)

  vs : length (naming_of m).variables ≡ length (written_by limit text m read).variables
  vs = length-map (written_model m).variables (λ (x : model.Variable). x.name)
      ∙ ap (λ (x : RobustModel). length x.variables) (is_written limit text m read low)

  ys : length (naming_of m).adaptives ≡ length (written_by limit text m read).adaptives
  ys = length-map (written_model m).adaptives (λ (y : model.AdaptiveVariable). y.name)
      ∙ ap (λ (x : RobustModel). length x.adaptives) (is_written limit text m read low)

  abbrev IsGood : Statement → Type 0
  IsGood s = Good limit low (written_by limit text m read) (naming_of m) ps vs ys read.known
      (model_names limit text m read) s

  readable_one : (s : Statement) → IsGood s → AreReadable limit read.known.sorts (naming_of m) s
  readable_one (parsed.Uncertain d) good = tt
  readable_one (parsed.Over k) good = tt
  readable_one (parsed.Set r) good = good
  readable_one (parsed.Budget b) good = tt
  readable_one (parsed.Var d) good = tt
  readable_one (parsed.Adaptive p) good = tt
  readable_one (parsed.Goal g) good = good
  readable_one (parsed.Row r) good = good

  readable_all : (list : List Statement) → Each IsGood list
      → Each (AreReadable limit read.known.sorts (naming_of m)) list
  readable_all [] good = tt
  readable_all (s ∷ list) good = (readable_one s good.0, readable_all list good.1)

  readable_list : Each (AreReadable limit read.known.sorts (naming_of m)) read.list
  readable_list =
      readable_all read.list
      (all_good limit low (written_by limit text m read) (naming_of m) ps vs ys read.known
      (model_names limit text m read)
      read.words (start (length read.words)) read.list (model_chain limit text m read))

  -- the canonical lines are those of what the statements write, and of their sets
  lines_are : lines_of m ≡ all_lines limit read.words read.known.sorts (naming_of m) read.list
  lines_are =
      λ i. lines_with (naming_of m) (is_written limit text m read low i) (read.model_is i).sets
      (read.model_is i).line_sets (read.model_is i).objective_set (read.model_is i).row_sets

  some_goal : IsSome (goal_in read.list)
  some_goal =
      goal_there limit read.words (start (length read.words)) read.list read.known (model_chain limit text m read)
      read.reads.lines.goal refl

  -- they are all within limits, and end in sets
  all_few : length (ended (map (line_of limit read.words read.known.sorts (naming_of m)) read.list)) ≤ most_tokens
  all_few =
      let words = read.words in
      let chain = model_chain limit text m read in
      read_few limit text words read.list read.known read.reads read.known.sorts (naming_of m)
      (sets_from_one limit words read.list read.known chain)
      (all_fit limit low words (start (length words)) read.list read.known chain) readable_list
      (ends_in_sets limit text words read.list read.known read.reads)

  -- the canonical text has no more tokens than a text may have
  tokens_within : length (ended (lines_of m)) ≤ most_tokens
  tokens_within =
      let sorts = read.known.sorts in
      let names = naming_of m in
      omega (
        arith,
        all_few,
        ap (λ (x : List (List Written)). length (ended x)) lines_are,
        lines_counted limit read.words sorts names read.list some_goal,
      )

  -- its parentheses aren't too deep
  lines_shallow : Each (IsShallow 0) (lines_of m)
  lines_shallow =
      let sorts = read.known.sorts in
      let names = naming_of m in
      subst (Each (IsShallow 0)) (sym lines_are)
      (lines_deep limit read.words sorts names read.list some_goal
      (read_shallow limit text read.words read.list read.known read.reads sorts names readable_list))

-- the canonical text of a model that a text reads as has no more tokens than a text may have
pub canonical_tokens : (limit : ℕ) (text : List ℕ) (m : RobustModel) → 1 ≤ limit → ReadsModel limit text m
    → length (ended (lines_of m)) ≤ most_tokens
canonical_tokens limit text m low read = tokens_within limit text m low read

-- no line of it opens more parentheses than a line may have
pub canonical_shallow : (limit : ℕ) (text : List ℕ) (m : RobustModel) → 1 ≤ limit → ReadsModel limit text m
    → Each (IsShallow 0) (lines_of m)
canonical_shallow limit text m low read = lines_shallow limit text m low read
