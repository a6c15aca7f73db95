-- What the statement of each canonical line declares and counts.
use Rattle.std.proofs.Common.{◌≡◌, ℕ, ◌+◌, Bool, true, false, List, [], ◌∷◌, ◌++◌, get_or, refl, sym, ap, ◌∙◌, subst, arith}
use Rattle.std.specs.Prelude.{Option, Some, None}
use Rattle.rob_meaning.specs.Places.{Each}
use Rattle.rob_meaning.specs.Expressions.{Expression}
use Rattle.rob_meaning.specs.RobustModel as model
use Rattle.rob_rules.specs.declared.sort.Sort.{Sort}
use Rattle.rob_rules.specs.declared.sort.Sort.TheVariants as sort
use Rattle.rob_rules.specs.declared.sort.Sort.TheVariants.{Parameter, Decision, Policy, RowName}
use Rattle.rob_rules.specs.declared.size.Sizes.{Sizes}
use Rattle.rob_syntax.specs.declared.symbol.Symbol.{Symbol}
use Rattle.rob_syntax.specs.declared.symbol.Symbol.TheVariants.{Name, Sign, Reserved}
use Rattle.rob_syntax.specs.declared.symbol.Mark.TheVariants as mark
use Rattle.rob_syntax.specs.declared.symbol.Keyword.TheVariants as word
use Rattle.rob_syntax.specs.declared.syntax.Sense.TheVariants as sense
use Rattle.rob_syntax.specs.declared.syntax.Goal.{Goal}
use Rattle.rob_syntax.specs.declared.syntax.Statement.{Statement}
use Rattle.rob_syntax.specs.declared.syntax.Statement.TheVariants as parsed
use Rattle.rob_write.specs.Pages.{Written, sign}
use Rattle.rob_write.specs.ExpressionWords.{Naming, name_at, listed, number_words, expression_words}
use Rattle.rob_write.specs.StatementWords.{declared_set_words, bound_words, member_words, comparison_words, parameter_words, variable_words, adaptive_words, set_words, row_words, goal_word, goal_words}
use Rattle.rob_syntax.specs.Grammar.{tree_expr}
use Rattle.rob_syntax.specs.Lists.{spell_more, spell_list}
use Rattle.rob_round_trip.specs.Pages.{symbols_on}
use Rattle.rob_round_trip.specs.Readable.{IsDeclarable}
use Rattle.rob_rules.specs.Scopes.{declared_by, has_some, is_goal}
use Rattle.rob_rules.specs.Sizes.{counted}
use Rattle.rob_syntax.specs.Statements.{IsStatement, Line, uncertain, over, set, budget, variable, adaptive, goal, row, spell_line, spell_name, spell_optional, statement_of}
use Rattle.rob_syntax.specs.Symbols.{number_of}

module _ (words : List (List ℕ)) where
  -- what the statement of a line declares, and how many of each kind it counts
  pub record IsSaid (d : Sizes → Option (ℕ × Sort)) (p q v y : ℕ) (s : Statement) : Type 0 where
    pub declares : (n : Sizes) → declared_by n s ≡ d n
    pub parameters : (n : Sizes) → (counted n s).parameters ≡ n.parameters + p
    pub sets : (n : Sizes) → (counted n s).sets ≡ n.sets + q
    pub variables : (n : Sizes) → (counted n s).variables ≡ n.variables + v
    pub adaptives : (n : Sizes) → (counted n s).adaptives ≡ n.adaptives + y
    pub plain : is_goal s ≡ false

  -- the names of a kind alone
  uncertain_said : (k : ℕ) (rest : List Symbol) (l : Line) → Reserved word.Uncertain ∷ Name k ∷ rest ≡ spell_line l
      → IsSaid (λ n. Some (k, Parameter n.parameters)) 1 0 0 0 (statement_of l)
  uncertain_said k rest (uncertain d) same =
      let e : k ≡ d.name = cc in
      record {
        declares = λ n. ap (λ (j : ℕ). Some (j, Parameter n.parameters)) (sym e);
        parameters = λ n. refl;
        sets = λ n. omega arith;
        variables = λ n. omega arith;
        adaptives = λ n. omega arith;
        plain = refl;
      }
  uncertain_said k rest (over j) same = cc
  uncertain_said k rest (set d) same = cc
  uncertain_said k rest (budget d) same = cc
  uncertain_said k rest (variable d) same = cc
  uncertain_said k rest (adaptive d) same = cc
  uncertain_said k rest (goal sense.Minimise d) same = cc
  uncertain_said k rest (goal sense.Maximise d) same = cc
  uncertain_said k rest (row d) same = cc

  over_line_said : (k : ℕ) (rest : List Symbol) (l : Line) → Reserved word.Over ∷ Name k ∷ rest ≡ spell_line l
      → IsSaid (λ n. Some (k, sort.Set (n.sets + 1))) 0 1 0 0 (statement_of l)
  over_line_said k rest (over j) same =
      let e : k ≡ j = cc in
      record {
        declares = λ n. ap (λ (i : ℕ). Some (i, sort.Set (n.sets + 1))) (sym e);
        parameters = λ n. omega arith;
        sets = λ n. refl;
        variables = λ n. omega arith;
        adaptives = λ n. omega arith;
        plain = refl;
      }
  over_line_said k rest (uncertain d) same = cc
  over_line_said k rest (set d) same = cc
  over_line_said k rest (budget d) same = cc
  over_line_said k rest (variable d) same = cc
  over_line_said k rest (adaptive d) same = cc
  over_line_said k rest (goal sense.Minimise d) same = cc
  over_line_said k rest (goal sense.Maximise d) same = cc
  over_line_said k rest (row d) same = cc

  variable_line_said : (k : ℕ) (rest : List Symbol) (l : Line) → Reserved word.Var ∷ Name k ∷ rest ≡ spell_line l
      → IsSaid (λ n. Some (k, Decision n.variables)) 0 0 1 0 (statement_of l)
  variable_line_said k rest (variable d) same =
      let e : k ≡ d.name = cc in
      record {
        declares = λ n. ap (λ (j : ℕ). Some (j, Decision n.variables)) (sym e);
        parameters = λ n. omega arith;
        sets = λ n. omega arith;
        variables = λ n. refl;
        adaptives = λ n. omega arith;
        plain = refl;
      }
  variable_line_said k rest (uncertain d) same = cc
  variable_line_said k rest (over j) same = cc
  variable_line_said k rest (set d) same = cc
  variable_line_said k rest (budget d) same = cc
  variable_line_said k rest (adaptive d) same = cc
  variable_line_said k rest (goal sense.Minimise d) same = cc
  variable_line_said k rest (goal sense.Maximise d) same = cc
  variable_line_said k rest (row d) same = cc

  row_line_said : (k : ℕ) (rest : List Symbol) (l : Line) → Reserved word.Row ∷ Name k ∷ rest ≡ spell_line l
      → IsSaid (λ n. Some (k, RowName)) 0 0 0 0 (statement_of l)
  row_line_said k rest (row d) same =
      let e : k ≡ d.name = cc in
      record {
        declares = λ n. ap (λ (j : ℕ). Some (j, RowName)) (sym e);
        parameters = λ n. omega arith;
        sets = λ n. omega arith;
        variables = λ n. omega arith;
        adaptives = λ n. omega arith;
        plain = refl;
      }
  row_line_said k rest (uncertain d) same = cc
  row_line_said k rest (over j) same = cc
  row_line_said k rest (set d) same = cc
  row_line_said k rest (budget d) same = cc
  row_line_said k rest (variable d) same = cc
  row_line_said k rest (adaptive d) same = cc
  row_line_said k rest (goal sense.Minimise d) same = cc
  row_line_said k rest (goal sense.Maximise d) same = cc

  set_line_said : (rest : List Symbol) (l : Line) → Reserved word.Set ∷ rest ≡ spell_line l
      → IsSaid (λ n. None) 0 0 0 0 (statement_of l)
  set_line_said rest (set d) same =
      record {
        declares = λ n. refl;
        parameters = λ n. omega arith;
        sets = λ n. omega arith;
        variables = λ n. omega arith;
        adaptives = λ n. omega arith;
        plain = refl;
      }
  set_line_said rest (uncertain d) same = cc
  set_line_said rest (over j) same = cc
  set_line_said rest (budget d) same = cc
  set_line_said rest (variable d) same = cc
  set_line_said rest (adaptive d) same = cc
  set_line_said rest (goal sense.Minimise d) same = cc
  set_line_said rest (goal sense.Maximise d) same = cc
  set_line_said rest (row d) same = cc

  budget_line_said : (rest : List Symbol) (l : Line) → Reserved word.Budget ∷ rest ≡ spell_line l
      → IsSaid (λ n. None) 0 0 0 0 (statement_of l)
  budget_line_said rest (budget d) same = record {
    declares = λ n. refl;
    parameters = λ n. omega arith;
    sets = λ n. omega arith;
    variables = λ n. omega arith;
    adaptives = λ n. omega arith;
    plain = refl;
  }
  budget_line_said rest (uncertain d) same = cc
  budget_line_said rest (over j) same = cc
  budget_line_said rest (set d) same = cc
  budget_line_said rest (variable d) same = cc
  budget_line_said rest (adaptive d) same = cc
  budget_line_said rest (goal sense.Minimise d) same = cc
  budget_line_said rest (goal sense.Maximise d) same = cc
  budget_line_said rest (row d) same = cc

  -- whether a list begins with a name
  abbrev FirstIs : Bool → List Symbol → Type 0
  FirstIs true symbols = (j : ℕ) × (more : List Symbol) × (symbols ≡ Name j ∷ more)
  FirstIs false symbols = (more : List Symbol) × (symbols ≡ Sign mark.Close ∷ more)

  list_said : (on : Bool) (symbols : List Symbol) (js : List ℕ) (end : List Symbol) → FirstIs on symbols
      → symbols ≡ spell_list spell_name js ++ Sign mark.Close ∷ end → has_some js ≡ on
  list_said true symbols [] end f same = let p : Name f.0 ∷ f.1 ≡ Sign mark.Close ∷ end = sym f.2 ∙ same in cc
  list_said true symbols (j ∷ js) end f same = refl
  list_said false symbols [] end f same = refl
  list_said false symbols (j ∷ js) end f same =
      let p : Sign mark.Close ∷ f.0 ≡ Name j ∷ (spell_more spell_name js ++ Sign mark.Close ∷ end) = sym f.1 ∙ same in
      cc

  first_is : (names : List (List ℕ)) (on : List ℕ) (behind : List Written)
      → Each (λ j. IsDeclarable words (get_or names j [])) on
      → FirstIs (has_some on)
      (symbols_on words (listed (λ j. name_at names j ∷ []) true on ++ sign mark.Close ∷ behind))
  first_is names [] behind h = (symbols_on words behind, refl)
  first_is names (j ∷ on) behind h =
      let more = symbols_on words (listed (λ j. name_at names j ∷ []) false on ++ sign mark.Close ∷ behind) in
      (number_of words (get_or names j []), more, ap (λ (l : List Symbol). l ++ more) h.0.is_name)

  adaptive_line_said : (k : ℕ) (on : Bool) (rest : List Symbol) → FirstIs on rest → (l : Line)
      → Reserved word.Adaptive ∷ Name k ∷ Sign mark.Open ∷ rest ≡ spell_line l
      → IsSaid (λ n. Some (k, Policy n.adaptives on)) 0 0 0 1 (statement_of l)
  adaptive_line_said k on rest f (adaptive p) same =
      let whole : Reserved word.Adaptive ∷ Name k ∷ Sign mark.Open ∷ rest
      ≡ Reserved word.Adaptive ∷ Name p.name ∷ Sign mark.Open
      ∷ (spell_list spell_name p.on ++ Sign mark.Close ∷ spell_optional p.bounds) = same in
      let e : k ≡ p.name = cc in
      let r : rest ≡ spell_list spell_name p.on ++ Sign mark.Close ∷ spell_optional p.bounds = cc in
      let o : has_some p.on ≡ on = list_said on rest p.on (spell_optional p.bounds) f r in
      record {
        declares = λ n i. Some (sym e i, Policy n.adaptives (o i));
        parameters = λ n. omega arith;
        sets = λ n. omega arith;
        variables = λ n. omega arith;
        adaptives = λ n. refl;
        plain = refl;
      }
  adaptive_line_said k on rest f (uncertain d) same = cc
  adaptive_line_said k on rest f (over j) same = cc
  adaptive_line_said k on rest f (set d) same = cc
  adaptive_line_said k on rest f (budget d) same = cc
  adaptive_line_said k on rest f (variable d) same = cc
  adaptive_line_said k on rest f (goal sense.Minimise d) same = cc
  adaptive_line_said k on rest f (goal sense.Maximise d) same = cc
  adaptive_line_said k on rest f (row d) same = cc

  goal_line_said : (s : model.Sense) (e : List Written) (l : Line) → symbols_on words (goal_word s ∷ e) ≡ spell_line l
      → (g : Goal) × (statement_of l ≡ parsed.Goal g)
  goal_line_said model.minimise e (goal s x) same =
      (record { sense = s; objective = tree_expr x.inner; over = x.over }, refl)
  goal_line_said model.maximise e (goal s x) same =
      (record { sense = s; objective = tree_expr x.inner; over = x.over }, refl)
  goal_line_said model.minimise e (uncertain d) same = cc
  goal_line_said model.minimise e (over j) same = cc
  goal_line_said model.minimise e (set d) same = cc
  goal_line_said model.minimise e (budget d) same = cc
  goal_line_said model.minimise e (variable d) same = cc
  goal_line_said model.minimise e (adaptive d) same = cc
  goal_line_said model.minimise e (row d) same = cc
  goal_line_said model.maximise e (uncertain d) same = cc
  goal_line_said model.maximise e (over j) same = cc
  goal_line_said model.maximise e (set d) same = cc
  goal_line_said model.maximise e (budget d) same = cc
  goal_line_said model.maximise e (variable d) same = cc
  goal_line_said model.maximise e (adaptive d) same = cc
  goal_line_said model.maximise e (row d) same = cc

  module _ (symbols : List Symbol) (s : Statement) (is : IsStatement symbols s) where
    said : (d : Sizes → Option (ℕ × Sort)) (p q v y : ℕ) (other : List Symbol) → symbols ≡ other
        → ((l : Line) → other ≡ spell_line l → IsSaid d p q v y (statement_of l)) → IsSaid d p q v y s
    said d p q v y other same go = subst (IsSaid d p q v y) is.statement_is (go is.line (sym same ∙ is.spelled))

  pub parameter_said : (p : model.Parameter) (s : Statement) → IsDeclarable words p.name
      → IsStatement (symbols_on words (parameter_words p)) s
      → IsSaid (λ n. Some (number_of words p.name, Parameter n.parameters)) 1 0 0 0 s
  parameter_said p s d is =
      let rest = symbols_on words (bound_words p.lower p.upper) in
      said (symbols_on words (parameter_words p)) s is _ 1 0 0 0 _
      (ap (λ (l : List Symbol). Reserved word.Uncertain ∷ (l ++ rest)) d.is_name)
      (uncertain_said (number_of words p.name) rest)

  pub declared_set_said : (n : List ℕ) (s : Statement) → IsDeclarable words n
      → IsStatement (symbols_on words (declared_set_words n)) s
      → IsSaid (λ k. Some (number_of words n, sort.Set (k.sets + 1))) 0 1 0 0 s
  declared_set_said n s d is =
      said (symbols_on words (declared_set_words n)) s is _ 0 1 0 0 _
      (ap (λ (l : List Symbol). Reserved word.Over ∷ (l ++ [])) d.is_name) (over_line_said (number_of words n) [])

  pub variable_said : (x : model.Variable) (s : Statement) → IsDeclarable words x.name
      → IsStatement (symbols_on words (variable_words x)) s
      → IsSaid (λ n. Some (number_of words x.name, Decision n.variables)) 0 0 1 0 s
  variable_said x s d is =
      let rest = symbols_on words (bound_words x.lower x.upper) in
      said (symbols_on words (variable_words x)) s is _ 0 0 1 0 _
      (ap (λ (l : List Symbol). Reserved word.Var ∷ (l ++ rest)) d.is_name)
      (variable_line_said (number_of words x.name) rest)

  pub row_said : (names : Naming) (r : model.Row) (end : List Written) (s : Statement) → IsDeclarable words r.name
      → IsStatement (symbols_on words (row_words names r ++ end)) s
      → IsSaid (λ n. Some (number_of words r.name, RowName)) 0 0 0 0 s
  row_said names r end s d is =
      let rest = symbols_on words (sign mark.Colon ∷ (comparison_words names r.left r.relation r.right ++ end)) in
      said (symbols_on words (row_words names r ++ end)) s is _ 0 0 0 0 _
      (ap (λ (l : List Symbol). Reserved word.Row ∷ (l ++ rest)) d.is_name)
      (row_line_said (number_of words r.name) rest)

  pub set_said : (names : Naming) (c : model.SetLine) (end : List Written) (s : Statement)
      → IsStatement (symbols_on words (set_words names c ++ end)) s → IsSaid (λ n. None) 0 0 0 0 s
  set_said names (model.line left relation right) end s is =
      said (symbols_on words (set_words names (model.line left relation right) ++ end)) s is _ 0 0 0 0 _ refl
      (set_line_said (symbols_on words (comparison_words names left relation right ++ end)))
  set_said names (model.budget bound members) end s is =
      said (symbols_on words (set_words names (model.budget bound members) ++ end)) s is _ 0 0 0 0 _ refl
      (budget_line_said
      (symbols_on words
      ((number_words bound ++ sign mark.Colon ∷ listed (member_words names) true members) ++ end)))

  pub adaptive_said : (names : Naming) (y : model.AdaptiveVariable) (s : Statement) → IsDeclarable words y.name
      → Each (λ j. IsDeclarable words (get_or names.parameters j [])) y.on
      → IsStatement (symbols_on words (adaptive_words names y)) s
      → IsSaid (λ n. Some (number_of words y.name, Policy n.adaptives (has_some y.on))) 0 0 0 1 s
  adaptive_said names y s d on is =
      let rest = symbols_on words
      (listed (λ j. name_at names.parameters j ∷ []) true y.on ++ sign mark.Close ∷ bound_words y.lower y.upper) in
      said (symbols_on words (adaptive_words names y)) s is _ 0 0 0 1 _
      (ap (λ (l : List Symbol). Reserved word.Adaptive ∷ (l ++ Sign mark.Open ∷ rest)) d.is_name)
      (adaptive_line_said (number_of words y.name) (has_some y.on) rest
      (first_is names.parameters y.on (bound_words y.lower y.upper) on))

  pub goal_said : (names : Naming) (sense : model.Sense) (objective : Expression) (end : List Written) (s : Statement)
      → IsStatement (symbols_on words (goal_words names sense objective ++ end)) s → (g : Goal) × (s ≡ parsed.Goal g)
  goal_said names sense objective end s is =
      let r = goal_line_said sense (expression_words names objective ++ end) is.line is.spelled in
      (r.0, sym is.statement_is ∙ r.1)
