-- A model that grows, statement by statement.
use Rattle.std.proofs.Common.{◌≡◌, ℕ, ◌+◌, ◌<◌, ◌≤◌, List, [], ◌∷◌, ◌++◌, length, get_or, drop, refl, arith, sym, ap, ◌∙◌, subst, append_assoc, append-nil}
use Rattle.std.specs.Prelude.{Option, Some}
use Rattle.std.specs.List.{flat_map}
use Rattle.rob_meaning.specs.Places.{Each}
use Rattle.rob_meaning.specs.RobustModel.{RobustModel, Row, SetLine, joint_parameters}
use Rattle.rob_model.proofs.PartLemmas.{drop_at, drop_all}
use Rattle.rob_rules.specs.declared.sort.Sort.{Sort}
use Rattle.rob_rules.specs.declared.scope.Scope.{Scope}
use Rattle.rob_syntax.specs.declared.syntax.Goal.{Goal}
use Rattle.rob_syntax.specs.declared.syntax.Statement.{Statement}
use Rattle.rob_syntax.specs.declared.syntax.Statement.TheVariants as parsed
use Rattle.rob_parse.specs.Building.{FitsTree, FitsStatement, HasAdded}
use Rattle.rob_parse.specs.Written.{parameters, sets, variables, adaptives, set_lines, rows, goal_in, sense_in, sense_of, expression, objective_of}
use Rattle.rob_parse.specs.Models.{each_taken, line_sets, line_taken, objective_set, row_sets, row_taken, set_at, taken, model_of}
use Rattle.rob_syntax.specs.Trees.{tree_of}

flat_step : {A B : Type 0} (f : A → List B) (old new : List B) (x : A) (rest all : List A) → new ≡ old ++ f x
    → old ++ flat_map f (x ∷ rest) ≡ flat_map f all → new ++ flat_map f rest ≡ flat_map f all
flat_step f old new x rest all added so_far =
    ap (λ l. l ++ flat_map f rest) added ∙ append_assoc old (f x) (flat_map f rest) ∙ so_far

each_taken-append : {A : Type 0} (take : ℕ → A → A) (xs ys : List A) (Ss Ts : List ℕ) → length Ss ≡ length xs
    → each_taken take (xs ++ ys) (Ss ++ Ts) ≡ each_taken take xs Ss ++ each_taken take ys Ts
each_taken-append take [] ys [] Ts same = refl
each_taken-append take [] ys (S ∷ Ss) Ts same = absurd (omega (arith, same))
each_taken-append take (x ∷ xs) ys [] Ts same = absurd (omega (arith, same))
each_taken-append take (x ∷ xs) ys (S ∷ Ss) Ts same =
    ap (λ l. take S x ∷ l) (each_taken-append take xs ys Ss Ts (omega (arith, same)))

flat_taken : {A X : Type 0} (take : ℕ → A → A) (f : X → List A) (g : X → List ℕ)
    → ((x : X) → length (g x) ≡ length (f x)) → (xs : List X)
    → flat_map (λ x. each_taken take (f x) (g x)) xs ≡ each_taken take (flat_map f xs) (flat_map g xs)
flat_taken take f g same [] = refl
flat_taken take f g same (x ∷ xs) =
    ap (λ l. each_taken take (f x) (g x) ++ l) (flat_taken take f g same xs)
    ∙ sym (each_taken-append take (f x) (flat_map f xs) (g x) (flat_map g xs) (same x))

one_line : (sorts : List (Option Sort)) (s : Statement) → length (line_sets sorts s) ≡ length (set_lines sorts s)
one_line sorts (parsed.Set r) = refl
one_line sorts (parsed.Budget b) = refl
one_line sorts (parsed.Uncertain d) = refl
one_line sorts (parsed.Over k) = refl
one_line sorts (parsed.Var d) = refl
one_line sorts (parsed.Adaptive p) = refl
one_line sorts (parsed.Goal g) = refl
one_line sorts (parsed.Row r) = refl

one_row : (words : List (List ℕ)) (sorts : List (Option Sort)) (s : Statement)
    → length (row_sets sorts s) ≡ length (rows words sorts s)
one_row words sorts (parsed.Row r) = refl
one_row words sorts (parsed.Set r) = refl
one_row words sorts (parsed.Budget b) = refl
one_row words sorts (parsed.Uncertain d) = refl
one_row words sorts (parsed.Over k) = refl
one_row words sorts (parsed.Var d) = refl
one_row words sorts (parsed.Adaptive p) = refl
one_row words sorts (parsed.Goal g) = refl

module _ (words : List (List ℕ)) (scope : Scope) (all : List Statement) where
  abbrev sorts : List (Option Sort)
  sorts = scope.sorts.items

  abbrev count : ℕ
  count = scope.sizes.parameters

  -- what a statement adds, taken in its set
  abbrev lines_of_one : Statement → List SetLine
  lines_of_one s = each_taken (line_taken count) (set_lines sorts s) (line_sets sorts s)

  abbrev rows_of_one : Statement → List Row
  rows_of_one s = each_taken (row_taken count) (rows words sorts s) (row_sets sorts s)

  -- with what these statements say the model is that of all, but that it has the written parameters alone
  pub record Grows (rest : List Statement) (m : RobustModel) : Type 0 where
    pub parameters_are : m.parameters ++ flat_map (parameters words) rest ≡ flat_map (parameters words) all
    pub sets_are : m.sets ++ flat_map (sets words) rest ≡ flat_map (sets words) all
    pub set_lines_are : m.set_lines ++ flat_map lines_of_one rest ≡ flat_map lines_of_one all
    pub line_sets_are : m.line_sets ++ flat_map (line_sets sorts) rest ≡ flat_map (line_sets sorts) all
    pub variables_are : m.variables ++ flat_map (variables words) rest ≡ flat_map (variables words) all
    pub adaptives_are : m.adaptives ++ flat_map (adaptives words sorts) rest ≡ flat_map (adaptives words sorts) all
    pub rows_are : m.rows ++ flat_map rows_of_one rest ≡ flat_map rows_of_one all
    pub row_sets_are : m.row_sets ++ flat_map (row_sets sorts) rest ≡ flat_map (row_sets sorts) all
    pub sense_is : m.sense ≡ sense_in (goal_in all)
    pub objective_is : m.objective ≡ taken count (objective_set sorts (goal_in all)) (objective_of sorts (goal_in all))
    pub objective_set_is : m.objective_set ≡ objective_set sorts (goal_in all)

  -- nothing is there but the goal
  pub record IsBlank (m : RobustModel) (g : Goal) : Type 0 where
    pub parameters : m.parameters ≡ []
    pub sets : m.sets ≡ []
    pub set_lines : m.set_lines ≡ []
    pub line_sets : m.line_sets ≡ []
    pub variables : m.variables ≡ []
    pub adaptives : m.adaptives ≡ []
    pub rows : m.rows ≡ []
    pub row_sets : m.row_sets ≡ []
    pub sense : m.sense ≡ sense_of g.sense
    pub objective : m.objective ≡ taken count (set_at sorts g.over) (expression sorts (tree_of g.objective))
    pub objective_set : m.objective_set ≡ set_at sorts g.over

  -- the model with the goal alone
  pub grows_start : (m : RobustModel) (o : Option Goal) (g : Goal) → o ≡ goal_in all → o ≡ Some g → IsBlank m g
      → Grows all m
  grows_start m o g is some b =
      let there : Some g ≡ goal_in all = sym some ∙ is in
      record {
        parameters_are = ap (λ l. l ++ flat_map (parameters words) all) b.parameters;
        sets_are = ap (λ l. l ++ flat_map (sets words) all) b.sets;
        set_lines_are = ap (λ l. l ++ flat_map lines_of_one all) b.set_lines;
        line_sets_are = ap (λ l. l ++ flat_map (line_sets sorts) all) b.line_sets;
        variables_are = ap (λ l. l ++ flat_map (variables words) all) b.variables;
        adaptives_are = ap (λ l. l ++ flat_map (adaptives words sorts) all) b.adaptives;
        rows_are = ap (λ l. l ++ flat_map rows_of_one all) b.rows;
        row_sets_are = ap (λ l. l ++ flat_map (row_sets sorts) all) b.row_sets;
        sense_is = b.sense ∙ ap sense_in there;
        objective_is = b.objective ∙ ap (λ x. taken count (objective_set sorts x) (objective_of sorts x)) there;
        objective_set_is = b.objective_set ∙ ap (objective_set sorts) there;
      }

  grows_by : (s : Statement) (rest : List Statement) (m n : RobustModel) → HasAdded words scope s m n
      → Grows (s ∷ rest) m → Grows rest n
  grows_by s rest m n a so_far = record {
    parameters_are =
        flat_step (parameters words) m.parameters n.parameters s rest all a.parameters_are so_far.parameters_are;
    sets_are = flat_step (sets words) m.sets n.sets s rest all a.sets_are so_far.sets_are;
    set_lines_are = flat_step lines_of_one m.set_lines n.set_lines s rest all a.set_lines_are so_far.set_lines_are;
    line_sets_are = flat_step (line_sets sorts) m.line_sets n.line_sets s rest all a.line_sets_are so_far.line_sets_are;
    variables_are = flat_step (variables words) m.variables n.variables s rest all a.variables_are so_far.variables_are;
    adaptives_are =
        flat_step (adaptives words sorts) m.adaptives n.adaptives s rest all a.adaptives_are so_far.adaptives_are;
    rows_are = flat_step rows_of_one m.rows n.rows s rest all a.rows_are so_far.rows_are;
    row_sets_are = flat_step (row_sets sorts) m.row_sets n.row_sets s rest all a.row_sets_are so_far.row_sets_are;
    sense_is = a.sense_is ∙ so_far.sense_is;
    objective_is = a.objective_is ∙ so_far.objective_is;
    objective_set_is = a.objective_set_is ∙ so_far.objective_set_is;
  }

  -- one statement more
  pub grows_step : (i : ℕ) (s : Statement) (m n : RobustModel) → i < length all → s ≡ get_or all i s
      → HasAdded words scope s m n → Grows (drop i all) m → Grows (drop (i + 1) all) n
  grows_step i s m n inside is added so_far =
      grows_by s (drop (i + 1) all) m n added (subst (λ l. Grows l m) (drop_at all i s inside is) so_far)

  -- all statements, and then the parameters of the named sets
  pub grows_end : (i : ℕ) (m n : RobustModel) → count ≡ length (flat_map (parameters words) all) → length all ≤ i
      → Grows (drop i all) m
      → n ≡ record m { parameters = joint_parameters m.parameters m.sets } → n ≡ model_of words sorts all
  grows_end i m n fits past so_far joined =
      let g : Grows [] m = subst (λ l. Grows l m) (drop_all i all past) so_far in
      let ps = sym (append-nil m.parameters) ∙ g.parameters_are in
      let names = sym (append-nil m.sets) ∙ g.sets_are in
      joined
      ∙ (λ j. record {
        parameters = joint_parameters (ps j) (names j);
        sets = names j;
        set_lines =
            (sym (append-nil m.set_lines) ∙ g.set_lines_are
            ∙ flat_taken (line_taken count) (set_lines sorts) (line_sets sorts) (one_line sorts) all
            ∙ ap (λ k. each_taken (line_taken k) (flat_map (set_lines sorts) all) (flat_map (line_sets sorts) all))
            fits) j;
        line_sets = (sym (append-nil m.line_sets) ∙ g.line_sets_are) j;
        variables = (sym (append-nil m.variables) ∙ g.variables_are) j;
        adaptives = (sym (append-nil m.adaptives) ∙ g.adaptives_are) j;
        sense = g.sense_is j;
        objective =
            (g.objective_is ∙ ap (λ k. taken k (objective_set sorts (goal_in all)) (objective_of sorts (goal_in all)))
            fits) j;
        objective_set = g.objective_set_is j;
        rows =
            (sym (append-nil m.rows) ∙ g.rows_are
            ∙ flat_taken (row_taken count) (rows words sorts) (row_sets sorts) (one_row words sorts) all
            ∙ ap (λ k. each_taken (row_taken k) (flat_map (rows words sorts) all) (flat_map (row_sets sorts) all)) fits)
            j;
        row_sets = (sym (append-nil m.row_sets) ∙ g.row_sets_are) j;
      })

-- the goal is one of the statements
pub goal_fits : (limit : ℕ) (list : List Statement) (o : Option Goal) (g : Goal) → o ≡ goal_in list → o ≡ Some g
    → Each (FitsStatement limit) list → FitsTree limit (tree_of g.objective)
goal_fits limit [] o g is some fits = absurd cc
goal_fits limit (parsed.Goal h ∷ rest) o g is some fits =
    let same : h ≡ g = cc in subst (λ (x : Goal). FitsTree limit (tree_of x.objective)) same fits.0
goal_fits limit (parsed.Uncertain d ∷ rest) o g is some fits = goal_fits limit rest o g is some fits.1
goal_fits limit (parsed.Over name ∷ rest) o g is some fits = goal_fits limit rest o g is some fits.1
goal_fits limit (parsed.Set r ∷ rest) o g is some fits = goal_fits limit rest o g is some fits.1
goal_fits limit (parsed.Budget b ∷ rest) o g is some fits = goal_fits limit rest o g is some fits.1
goal_fits limit (parsed.Var d ∷ rest) o g is some fits = goal_fits limit rest o g is some fits.1
goal_fits limit (parsed.Adaptive p ∷ rest) o g is some fits = goal_fits limit rest o g is some fits.1
goal_fits limit (parsed.Row r ∷ rest) o g is some fits = goal_fits limit rest o g is some fits.1
