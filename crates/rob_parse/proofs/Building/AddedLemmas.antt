-- What a condition, a budget and a row add to a model: a statement on their set, or a row of it, and the number of
-- that set.
use Rattle.std.proofs.Common.{◌≡◌, ℕ, List, [], ◌∷◌, ◌++◌, map, refl, sym, ap, ◌∙◌, subst, append-nil}
use Rattle.std.specs.Prelude.{Option}
use Rattle.rob_meaning.specs.RobustModel as model
use Rattle.rob_meaning.specs.RobustModel.{RobustModel, SetLine}
use Rattle.rob_syntax.specs.declared.syntax.Budget.{Budget}
use Rattle.rob_syntax.specs.declared.syntax.Relation.{Relation}
use Rattle.rob_syntax.specs.declared.syntax.Row.{Row}
use Rattle.rob_syntax.specs.declared.syntax.Statement.{Statement}
use Rattle.rob_syntax.specs.declared.syntax.Statement.TheVariants as parsed
use Rattle.rob_rules.specs.declared.scope.Scope.{Scope}
use Rattle.rob_rules.specs.declared.sort.Sort.{Sort}
use Rattle.rob_parse.specs.declared.place.Place.{Place}
use Rattle.rob_parse.specs.Building.{HasAdded, place_of}
use Rattle.rob_parse.specs.Written.{rows, set_lines}
use Rattle.rob_parse.specs.Models.{line_taken, row_taken}

module _ (words : List (List ℕ)) (scope : Scope) (old : RobustModel) where
  -- a condition adds its line, taken in its set
  pub set_added : (r : Relation) (s : Statement) → s ≡ parsed.Set r
      → (sorts : List (Option Sort)) → sorts ≡ scope.sorts.items → (place : Place) → place ≡ place_of scope r.over
      → (line : SetLine) → line ∷ [] ≡ map (line_taken place.count place.set) (set_lines sorts (parsed.Set r))
      → (new : RobustModel)
      → new ≡ record old { set_lines = old.set_lines ++ line ∷ []; line_sets = old.line_sets ++ place.set ∷ [] }
      → HasAdded words scope s old new
  set_added r s is sorts same place there line read new added =
      subst (λ (t : Statement). HasAdded words scope t old new) (sym is)
      (subst (λ (m : RobustModel). HasAdded words scope (parsed.Set r) old m) (sym added)
      (record {
        parameters_are = sym (append-nil old.parameters);
        set_lines_are =
            ap (λ (l : List SetLine). old.set_lines ++ l)
            (read ∙ (λ i. map (line_taken (there i).count (there i).set) (set_lines (same i) (parsed.Set r))));
        variables_are = sym (append-nil old.variables);
        adaptives_are = sym (append-nil old.adaptives);
        rows_are = sym (append-nil old.rows);
        sense_is = refl;
        objective_is = refl;
        sets_are = sym (append-nil old.sets);
        line_sets_are = ap (λ (p : Place). old.line_sets ++ p.set ∷ []) there;
        objective_set_is = refl;
        row_sets_are = sym (append-nil old.row_sets);
      }))

  -- a budget adds its line, taken in its set
  pub budget_added : (b : Budget) (s : Statement) → s ≡ parsed.Budget b
      → (sorts : List (Option Sort)) → sorts ≡ scope.sorts.items → (place : Place) → place ≡ place_of scope b.over
      → (line : SetLine) → line ∷ [] ≡ map (line_taken place.count place.set) (set_lines sorts (parsed.Budget b))
      → (new : RobustModel)
      → new ≡ record old { set_lines = old.set_lines ++ line ∷ []; line_sets = old.line_sets ++ place.set ∷ [] }
      → HasAdded words scope s old new
  budget_added b s is sorts same place there line read new added =
      subst (λ (t : Statement). HasAdded words scope t old new) (sym is)
      (subst (λ (m : RobustModel). HasAdded words scope (parsed.Budget b) old m) (sym added)
      (record {
        parameters_are = sym (append-nil old.parameters);
        set_lines_are =
            ap (λ (l : List SetLine). old.set_lines ++ l)
            (read ∙ (λ i. map (line_taken (there i).count (there i).set) (set_lines (same i) (parsed.Budget b))));
        variables_are = sym (append-nil old.variables);
        adaptives_are = sym (append-nil old.adaptives);
        rows_are = sym (append-nil old.rows);
        sense_is = refl;
        objective_is = refl;
        sets_are = sym (append-nil old.sets);
        line_sets_are = ap (λ (p : Place). old.line_sets ++ p.set ∷ []) there;
        objective_set_is = refl;
        row_sets_are = sym (append-nil old.row_sets);
      }))

  -- a row adds itself, taken in its set
  pub row_added : (r : Row) (s : Statement) → s ≡ parsed.Row r
      → (sorts : List (Option Sort)) → sorts ≡ scope.sorts.items → (place : Place)
      → place ≡ place_of scope r.relation.over
      → (row : model.Row) → row ∷ [] ≡ map (row_taken place.count place.set) (rows words sorts (parsed.Row r))
      → (all : List model.Row) → all ≡ old.rows ++ row ∷ [] → (Ss : List ℕ) → Ss ≡ old.row_sets ++ place.set ∷ []
      → HasAdded words scope s old (record old { rows = all; row_sets = Ss })
  row_added r s is sorts same place there row read all all_are Ss sets_are =
      subst (λ (t : Statement). HasAdded words scope t old (record old { rows = all; row_sets = Ss })) (sym is)
      (record {
        parameters_are = sym (append-nil old.parameters);
        set_lines_are = sym (append-nil old.set_lines);
        variables_are = sym (append-nil old.variables);
        adaptives_are = sym (append-nil old.adaptives);
        rows_are =
            all_are
            ∙ ap (λ (l : List model.Row). old.rows ++ l)
            (read ∙ (λ i. map (row_taken (there i).count (there i).set) (rows words (same i) (parsed.Row r))));
        sense_is = refl;
        objective_is = refl;
        sets_are = sym (append-nil old.sets);
        line_sets_are = sym (append-nil old.line_sets);
        objective_set_is = refl;
        row_sets_are = sets_are ∙ ap (λ (p : Place). old.row_sets ++ p.set ∷ []) there;
      })
