-- The statements of canonical lines, kind by kind; items beside their sets; and what is known behind statements.
use Rattle.std.proofs.Common.{◌≡◌, ℕ, zero, suc, ◌+◌, ◌<◌, false, List, [], ◌∷◌, ◌++◌, length, map, get_or, refl, ap, ◌∙◌, subst, arith}
use Rattle.rob_meaning.specs.Places.{Each}
use Rattle.rob_meaning.specs.RobustModel as model
use Rattle.rob_meaning.specs.RobustModel.{RobustModel, written_parameters}
use Rattle.rob_rules.specs.declared.sort.Sort.{Sort}
use Rattle.rob_rules.specs.declared.sort.Sort.TheVariants.{RowName}
use Rattle.rob_syntax.specs.declared.syntax.Goal.{Goal}
use Rattle.rob_syntax.specs.declared.syntax.Statement.{Statement}
use Rattle.rob_syntax.specs.declared.syntax.Statement.TheVariants as parsed
use Rattle.rob_write.specs.Pages.{Written}
use Rattle.rob_write.specs.WrittenModel.{row_written, written_model}
use Rattle.rob_write.specs.ExpressionWords.{naming_of}
use Rattle.rob_write.specs.StatementWords.{beside, declared_set_words, lines_over, over_words, parameter_words, variable_words, adaptive_words, set_words, row_words, goal_words}
use Rattle.rob_write.specs.Canonical.{lines_of}
use Rattle.rob_parse.specs.Written.{goal_in}
use Rattle.rob_round_trip.specs.Pages.{symbols_on}
use Rattle.rob_round_trip.specs.Readable.{AreStatements}
use Rattle.rob_rules.specs.Scopes.{Earlier, behind, is_goal}
use Rattle.rob_syntax.specs.Statements.{IsStatement}
use Rattle.rob_syntax.specs.Symbols.{number_of}
use Rattle.rob_round_trip.proofs.Faultless.CanonicalScopes.{numbered}
use Rattle.rob_round_trip.proofs.Faultless.SaidLines.{goal_said}
use Rattle.rob_round_trip.proofs.Faultless.CanonicalWalk.{statements_apart}
use Rattle.rob_rules.specs.Stages.{behind_all}
use Rattle.rob_round_trip.proofs.ReadBack.LinesText.{goal_behind}

-- ---- statements behind statements
pub behind_append : (e : Earlier) (a b : List Statement) → behind_all e (a ++ b) ≡ behind_all (behind_all e a) b
behind_append e [] b = refl
behind_append e (s ∷ a) b = behind_append (behind e s) a b

-- the goal stands behind statements that are none
pub goal_later : (list rest : List Statement) → Each (λ s. is_goal s ≡ false) list
    → goal_in (list ++ rest) ≡ goal_in rest
goal_later [] rest plain = refl
goal_later (s ∷ list) rest plain = goal_behind s (list ++ rest) plain.0 ∙ goal_later list rest plain.1

-- a goal among some statements is this
abbrev pub GoalIs : Goal → Statement → Type 0
GoalIs g (parsed.Goal x) = x ≡ g
GoalIs g _ = Unit {0}

pub no_goal_is : (g : Goal) (s : Statement) → is_goal s ≡ false → GoalIs g s
no_goal_is g (parsed.Uncertain d) plain = tt
no_goal_is g (parsed.Over k) plain = tt
no_goal_is g (parsed.Set r) plain = tt
no_goal_is g (parsed.Budget b) plain = tt
no_goal_is g (parsed.Var d) plain = tt
no_goal_is g (parsed.Adaptive y) plain = tt
no_goal_is g (parsed.Row r) plain = tt
no_goal_is g (parsed.Goal x) plain = cc

pub any_each : {A : Type 0} (xs : List A) → Each (λ x. Unit {0}) xs
any_each [] = tt
any_each (x ∷ xs) = (tt, any_each xs)

pub each_place : {A : Type 0} (P : List ℕ → Type 0) (name : A → List ℕ) (xs : List A) → Each (λ x. P (name x)) xs
    → (k : ℕ) → k < length (map name xs)
    → P (get_or (map name xs) k [])
each_place P name [] h k inside = absurd (omega arith)
each_place P name (x ∷ xs) h zero inside = h.0
each_place P name (x ∷ xs) h (suc k) inside = each_place P name xs h.1 k (omega arith)

-- ---- items beside their sets
pub each_beside : {A : Type 0} (P : A → Type 0) (xs : List A) (Ss : List ℕ) → Each P xs
    → Each (λ (z : A × ℕ). P z.0) (beside xs Ss)
each_beside P [] Ss h = tt
each_beside P (x ∷ xs) [] h = (h.0, each_beside P xs [] h.1)
each_beside P (x ∷ xs) (S ∷ Ss) h = (h.0, each_beside P xs Ss h.1)

pub numbers_beside : {A : Type 0} (n : ℕ) (xs : List A) (Ss : List ℕ) → length Ss ≡ length xs → Each (λ S. S < n) Ss
    → Each (λ (z : A × ℕ). z.1 < n) (beside xs Ss)
numbers_beside n [] Ss same h = tt
numbers_beside n (x ∷ xs) [] same h = absurd (omega (arith, same))
numbers_beside n (x ∷ xs) (S ∷ Ss) same h = (h.0, numbers_beside n xs Ss (omega (arith, same)) h.1)

pub rows_numbered : (words : List (List ℕ)) (q k : ℕ) (rs : List model.Row) (Ss : List ℕ)
    → numbered words (λ (z : model.Row × ℕ). z.0.name) (λ k z. RowName) k (beside (map (row_written q) rs) Ss)
    ≡ numbered words (λ (r : model.Row). r.name) (λ k r. RowName) k rs
rows_numbered words q k [] Ss = refl
rows_numbered words q k (r ∷ rs) [] =
    ap (λ (l : List (ℕ × Sort)). (number_of words r.name, RowName) ∷ l) (rows_numbered words q (k + 1) rs [])
rows_numbered words q k (r ∷ rs) (S ∷ Ss) =
    ap (λ (l : List (ℕ × Sort)). (number_of words r.name, RowName) ∷ l) (rows_numbered words q (k + 1) rs Ss)

-- ---- kind by kind
-- the lines of statements on sets, of the goal, and of rows
abbrev pub set_lines_of : RobustModel → List (List Written)
set_lines_of m = lines_over (set_words (naming_of m)) m.sets (written_model m).set_lines m.line_sets

abbrev pub goal_line_of : RobustModel → List Written
goal_line_of m = goal_words (naming_of m) m.sense (written_model m).objective ++ over_words m.sets m.objective_set

abbrev pub row_lines_of : RobustModel → List (List Written)
row_lines_of m = lines_over (row_words (naming_of m)) m.sets (written_model m).rows m.row_sets

-- the statements of canonical lines, kind by kind
pub record Parted (words : List (List ℕ)) (m : RobustModel) (list : List Statement) : Type 0 where
  pub of_parameters : List Statement
  pub of_names : List Statement
  pub of_set : List Statement
  pub of_variables : List Statement
  pub of_adaptives : List Statement
  pub wish : Goal
  pub of_rows : List Statement
  pub whole : list ≡ of_parameters
      ++ (of_names ++ (of_set ++ (of_variables ++ (of_adaptives ++ parsed.Goal wish ∷ of_rows))))
  pub parameters : AreStatements words (map parameter_words (written_parameters m)) of_parameters
  pub names : AreStatements words (map declared_set_words m.sets) of_names
  pub set : AreStatements words (set_lines_of m) of_set
  pub variables : AreStatements words (map variable_words m.variables) of_variables
  pub adaptives : AreStatements words (map (adaptive_words (naming_of m)) m.adaptives) of_adaptives
  pub goal : IsStatement (symbols_on words (goal_line_of m)) (parsed.Goal wish)
  pub rows : AreStatements words (row_lines_of m) of_rows

-- these statements in order
abbrev pub joined : (words : List (List ℕ)) (m : RobustModel) (list : List Statement)
    → Parted words m list → List Statement
joined words m list p =
    p.of_parameters
    ++ (p.of_names ++ (p.of_set ++ (p.of_variables ++ (p.of_adaptives ++ parsed.Goal p.wish ∷ p.of_rows))))

first_goal : (words : List (List ℕ)) (m : RobustModel) (list : List Statement)
    → AreStatements words (goal_line_of m ∷ row_lines_of m) list
    → (g : Goal) × (rest : List Statement) × (list ≡ parsed.Goal g ∷ rest)
    × IsStatement (symbols_on words (goal_line_of m)) (parsed.Goal g)
    × AreStatements words (row_lines_of m) rest
first_goal words m [] are = absurd are
first_goal words m (s ∷ rest) are =
    let g = goal_said words (naming_of m) m.sense (written_model m).objective
    (over_words m.sets m.objective_set) s are.0 in (
      g.0,
      rest,
      ap (λ (x : Statement). x ∷ rest) g.1,
      subst (IsStatement (symbols_on words (goal_line_of m))) g.1 are.0,
      are.1,
    )

in_parts : (list a k h l b m c n d o e : List Statement) → list ≡ a ++ k → k ≡ h ++ l → l ≡ b ++ m → m ≡ c ++ n
    → n ≡ d ++ o → o ≡ e → list ≡ a ++ (h ++ (b ++ (c ++ (d ++ e))))
in_parts list a k h l b m c n d o e p u q r s t =
    let last : n ≡ d ++ e = s ∙ ap (λ (x : List Statement). d ++ x) t in
    let third : m ≡ c ++ (d ++ e) = r ∙ ap (λ (x : List Statement). c ++ x) last in
    let second : l ≡ b ++ (c ++ (d ++ e)) = q ∙ ap (λ (x : List Statement). b ++ x) third in
    let first : k ≡ h ++ (b ++ (c ++ (d ++ e))) = u ∙ ap (λ (x : List Statement). h ++ x) second in
    p ∙ ap (λ (x : List Statement). a ++ x) first

pub parted : (words : List (List ℕ)) (m : RobustModel) (list : List Statement)
    → AreStatements words (lines_of m) list → Parted words m list
parted words m list are =
    let names = naming_of m in
    let a = statements_apart words (map parameter_words (written_parameters m)) _ list are in
    let k = statements_apart words (map declared_set_words m.sets) _ a.1 a.4 in
    let b = statements_apart words (set_lines_of m) _ k.1 k.4 in
    let c = statements_apart words (map variable_words m.variables) _ b.1 b.4 in
    let d = statements_apart words (map (adaptive_words names) m.adaptives) (goal_line_of m ∷ row_lines_of m) c.1 c.4 in
    let e = first_goal words m d.1 d.4 in
    record {
      of_parameters = a.0;
      of_names = k.0;
      of_set = b.0;
      of_variables = c.0;
      of_adaptives = d.0;
      wish = e.0;
      of_rows = e.1;
      whole = in_parts list a.0 a.1 k.0 k.1 b.0 b.1 c.0 c.1 d.0 d.1 (parsed.Goal e.0 ∷ e.1) a.2 k.2 b.2 c.2 d.2 e.2;
      parameters = a.3;
      names = k.3;
      set = b.3;
      variables = c.3;
      adaptives = d.3;
      goal = e.3;
      rows = e.4;
    }
