-- The canonical lines of a model are statements, and their model is that model.
use Rattle.std.proofs.Common.{◌≡◌, ℕ, suc, arith, ◌^◌, ◌<◌, false, List, [], ◌∷◌, ◌++◌, length, map, refl, sym, ap, ◌∙◌, subst, append-nil}
use Rattle.std.specs.Prelude.{Option, Some}
use Rattle.std.proofs.lemmas.List.{length-map}
use Rattle.std.proofs.lemmas.Grind.{flat_map-append}
use Rattle.rob_meaning.specs.Places.{Each}
use Rattle.rob_meaning.specs.RobustModel as model
use Rattle.rob_meaning.specs.RobustModel.{RobustModel, written_count}
use Rattle.rob_rules.specs.declared.sort.Sort.{Sort}
use Rattle.rob_syntax.specs.declared.symbol.Symbol.{Symbol}
use Rattle.rob_syntax.specs.declared.syntax.Goal.{Goal}
use Rattle.rob_syntax.specs.declared.syntax.Statement.{Statement}
use Rattle.rob_syntax.specs.declared.syntax.Statement.TheVariants as parsed
use Rattle.rob_write.specs.Pages.{Written}
use Rattle.rob_write.specs.WrittenModel.{line_written, row_written, written_model}
use Rattle.rob_write.specs.ExpressionWords.{Naming, naming_of, expression_words}
use Rattle.rob_write.specs.StatementWords.{declared_set_words, lines_over, over_words, parameter_words, variable_words, adaptive_words, set_words, row_words, goal_words}
use Rattle.rob_write.specs.Canonical.{lines_of}
use Rattle.rob_syntax.specs.Grammar.{tree_expr}
use Rattle.rob_parse.specs.Written.{sets, written_of, parameters, variables, adaptives, set_lines, rows, goal_in, sense_in, objective_of}
use Rattle.rob_parse.specs.Models.{in_sets, line_sets, objective_set, row_sets, model_of}
use Rattle.rob_round_trip.specs.Pages.{symbols_on}
use Rattle.rob_round_trip.specs.Readable.{IsBound, IsReadable, IsReadableSetLine, IsReadableModel, AreKnown, IsDeclarable, AreDeclarable, AreStatements, AreReadBack}
use Rattle.rob_rules.specs.Scopes.{is_goal}
use Rattle.rob_syntax.specs.Statements.{goal, spell_sense, IsStatement}
use Rattle.rob_round_trip.proofs.ReadBack.ExpressionText.{symbols_append, read_back}
use Rattle.rob_round_trip.proofs.ReadBack.StatementText.{over_back, parsed_sense, sense_back, sense_word}
use Rattle.rob_round_trip.proofs.ReadBack.LineText.{Parts, both, parts_of, Says, parameter_line, variable_line, declared_set_line, set_line, adaptive_line, row_line}

pub goal_behind : (s : Statement) (rest : List Statement) → is_goal s ≡ false → goal_in (s ∷ rest) ≡ goal_in rest
goal_behind (parsed.Uncertain d) rest h = refl
goal_behind (parsed.Over k) rest h = refl
goal_behind (parsed.Set r) rest h = refl
goal_behind (parsed.Budget b) rest h = refl
goal_behind (parsed.Var d) rest h = refl
goal_behind (parsed.Adaptive p) rest h = refl
goal_behind (parsed.Row r) rest h = refl
goal_behind (parsed.Goal g) rest h = cc

module _ (limit : ℕ) (small : limit < 2 ^ 62) (words : List (List ℕ)) (sorts : List (Option Sort)) (names : Naming)
    (known : AreKnown words sorts names) where
  -- some lines are statements without a goal, which say these parts
  record Block (lines : List (List Written)) (parts : Parts) : Type 0 where
    list : List Statement
    are : AreStatements words lines list
    parts_are : parts_of words sorts list ≡ parts
    no_goal : (rest : List Statement) → goal_in (list ++ rest) ≡ goal_in rest

  one_more : (line : List Written) (lines : List (List Written)) (part parts : Parts) → Says words sorts line part
      → Block lines parts → Block (line ∷ lines) (both part parts)
  one_more line lines part parts one more = record {
    list = one.statement ∷ more.list;
    are = (one.is, more.are);
    parts_are = λ i. both (one.adds i) (more.parts_are i);
    no_goal = λ rest. goal_behind one.statement (more.list ++ rest) one.plain ∙ more.no_goal rest;
  }

  -- ---- the lines of each kind
  parameter_lines : (ps : List model.Parameter) → Each (λ (p : model.Parameter). IsDeclarable words p.name) ps
      → Each (λ (p : model.Parameter). IsBound limit p.lower × IsBound limit p.upper) ps
      → Block (map parameter_words ps) (record {
        parameters = ps;
        sets = [];
        set_lines = [];
        line_sets = [];
        variables = [];
        adaptives = [];
        rows = [];
        row_sets = [];
      })
  parameter_lines [] d h = record { list = []; are = tt; parts_are = refl; no_goal = λ rest. refl }
  parameter_lines (p ∷ ps) d h =
      one_more (parameter_words p) (map parameter_words ps) _ _
      (parameter_line limit small words sorts names known p d.0 h.0.0 h.0.1)
      (parameter_lines ps d.1 h.1)

  declared_lines : (ns : List (List ℕ)) → Each (IsDeclarable words) ns
      → Block (map declared_set_words ns) (record {
        parameters = [];
        sets = ns;
        set_lines = [];
        line_sets = [];
        variables = [];
        adaptives = [];
        rows = [];
        row_sets = [];
      })
  declared_lines [] d = record { list = []; are = tt; parts_are = refl; no_goal = λ rest. refl }
  declared_lines (n ∷ ns) d =
      one_more (declared_set_words n) (map declared_set_words ns) _ _
      (declared_set_line limit small words sorts names known n d.0) (declared_lines ns d.1)

  set_lines_are : (cs : List model.SetLine) (Ss : List ℕ) → length Ss ≡ length cs
      → Each (IsReadableSetLine limit names) cs → Each (λ S. S < suc (length names.sets)) Ss
      → Block (lines_over (set_words names) names.sets cs Ss)
      (record {
        parameters = [];
        sets = [];
        set_lines = cs;
        line_sets = Ss;
        variables = [];
        adaptives = [];
        rows = [];
        row_sets = [];
      })
  set_lines_are [] [] same h some = record { list = []; are = tt; parts_are = refl; no_goal = λ rest. refl }
  set_lines_are [] (S ∷ Ss) same h some = absurd (omega (arith, same))
  set_lines_are (c ∷ cs) [] same h some = absurd (omega (arith, same))
  set_lines_are (c ∷ cs) (S ∷ Ss) same h some =
      one_more (set_words names c ++ over_words names.sets S) (lines_over (set_words names) names.sets cs Ss) _ _
      (set_line limit small words sorts names known c h.0 S some.0)
      (set_lines_are cs Ss (omega (arith, same)) h.1 some.1)

  variable_lines : (xs : List model.Variable) → Each (λ (x : model.Variable). IsDeclarable words x.name) xs
      → Each (λ (x : model.Variable). IsBound limit x.lower × IsBound limit x.upper) xs
      → Block (map variable_words xs) (record {
        parameters = [];
        sets = [];
        set_lines = [];
        line_sets = [];
        variables = xs;
        adaptives = [];
        rows = [];
        row_sets = [];
      })
  variable_lines [] d h = record { list = []; are = tt; parts_are = refl; no_goal = λ rest. refl }
  variable_lines (x ∷ xs) d h =
      one_more (variable_words x) (map variable_words xs) _ _
      (variable_line limit small words sorts names known x d.0 h.0.0 h.0.1)
      (variable_lines xs d.1 h.1)

  adaptive_lines : (ys : List model.AdaptiveVariable)
      → Each (λ (y : model.AdaptiveVariable). IsDeclarable words y.name) ys
      → Each (λ (y : model.AdaptiveVariable). Each (λ k. k < length names.parameters) y.on
      × (IsBound limit y.lower × IsBound limit y.upper)) ys
      → Block (map (adaptive_words names) ys) (record {
        parameters = [];
        sets = [];
        set_lines = [];
        line_sets = [];
        variables = [];
        adaptives = ys;
        rows = [];
        row_sets = [];
      })
  adaptive_lines [] d h = record { list = []; are = tt; parts_are = refl; no_goal = λ rest. refl }
  adaptive_lines (y ∷ ys) d h =
      one_more (adaptive_words names y) (map (adaptive_words names) ys) _ _
      (adaptive_line limit small words sorts names known y d.0 h.0.0 h.0.1.0 h.0.1.1)
      (adaptive_lines ys d.1 h.1)

  row_lines : (rs : List model.Row) (Ss : List ℕ) → length Ss ≡ length rs
      → Each (λ (r : model.Row). IsDeclarable words r.name) rs
      → Each (λ (r : model.Row). IsReadable limit names r.left × IsReadable limit names r.right) rs
      → Each (λ S. S < suc (length names.sets)) Ss
      → Block (lines_over (row_words names) names.sets rs Ss)
      (record {
        parameters = [];
        sets = [];
        set_lines = [];
        line_sets = [];
        variables = [];
        adaptives = [];
        rows = rs;
        row_sets = Ss;
      })
  row_lines [] [] same d h some = record { list = []; are = tt; parts_are = refl; no_goal = λ rest. refl }
  row_lines [] (S ∷ Ss) same d h some = absurd (omega (arith, same))
  row_lines (r ∷ rs) [] same d h some = absurd (omega (arith, same))
  row_lines (r ∷ rs) (S ∷ Ss) same d h some =
      one_more (row_words names r ++ over_words names.sets S) (lines_over (row_words names) names.sets rs Ss) _ _
      (row_line limit small words sorts names known r d.0 h.0.0 h.0.1 S some.0)
      (row_lines rs Ss (omega (arith, same)) d.1 h.1 some.1)

  -- ---- lines behind lines
  are_append : (ls ms : List (List Written)) (ss ts : List Statement) → AreStatements words ls ss
      → AreStatements words ms ts → AreStatements words (ls ++ ms) (ss ++ ts)
  are_append [] ms [] ts h k = k
  are_append (l ∷ ls) ms (s ∷ ss) ts h k = (h.0, are_append ls ms ss ts h.1 k)
  are_append [] ms (s ∷ ss) ts h k = absurd h
  are_append (l ∷ ls) ms [] ts h k = absurd h

  parts_append : (ss ts : List Statement) → parts_of words sorts (ss ++ ts)
      ≡ both (parts_of words sorts ss) (parts_of words sorts ts)
  parts_append ss ts = λ i. record {
    parameters = flat_map-append (parameters words) ss ts i;
    sets = flat_map-append (sets words) ss ts i;
    set_lines = flat_map-append (set_lines sorts) ss ts i;
    line_sets = flat_map-append (line_sets sorts) ss ts i;
    variables = flat_map-append (variables words) ss ts i;
    adaptives = flat_map-append (adaptives words sorts) ss ts i;
    rows = flat_map-append (rows words sorts) ss ts i;
    row_sets = flat_map-append (row_sets sorts) ss ts i;
  }

  -- ---- all lines
  module _ (m : RobustModel) (d : AreDeclarable words m)
      (declared_rows : Each (λ (r : model.Row). IsDeclarable words r.name) (written_model m).rows)
      (readable : IsReadableModel limit names m) (sets_are : names.sets ≡ m.sets) where
    abbrev w : RobustModel
    w = written_model m

    abbrev all_lines : List (List Written)
    all_lines =
        map parameter_words w.parameters
        ++ (map declared_set_words m.sets
        ++ (lines_over (set_words names) names.sets w.set_lines m.line_sets
        ++ (map variable_words m.variables
        ++ (map (adaptive_words names) m.adaptives
        ++ (goal_words names m.sense w.objective ++ over_words names.sets m.objective_set)
        ∷ lines_over (row_words names) names.sets w.rows m.row_sets))))

    there : (Ss : List ℕ) → Each (λ S. S < suc (length m.sets)) Ss → Each (λ S. S < suc (length names.sets)) Ss
    there Ss h = subst (λ (l : List (List ℕ)). Each (λ S. S < suc (length l)) Ss) (sym sets_are) h

    lines_read : (list : List Statement) × AreStatements words all_lines list × (model_of words sorts list ≡ m)
        × (written_of words sorts list ≡ w)
    lines_read =
        let parts_of_w = readable.parts in
        let placed = readable.placed in
        let a = parameter_lines w.parameters d.parameters parts_of_w.parameters in
        let n = declared_lines m.sets d.sets in
        let b = set_lines_are w.set_lines m.line_sets
        (placed.line_sets ∙ sym (length-map m.set_lines (line_written (written_count m)))) parts_of_w.set_lines
        (there m.line_sets placed.of_lines) in
        let c = variable_lines m.variables d.variables parts_of_w.variables in
        let y = adaptive_lines m.adaptives d.adaptives parts_of_w.adaptives in
        let e = row_lines w.rows m.row_sets (placed.row_sets ∙ sym (length-map m.rows (row_written (written_count m))))
        declared_rows parts_of_w.rows (there m.row_sets placed.of_rows) in
        let objective = read_back limit small words sorts names known w.objective parts_of_w.objective in
        let o = over_back limit small words sorts names known m.objective_set
        (subst (λ (l : List (List ℕ)). m.objective_set < suc (length l)) (sym sets_are) placed.of_objective) in
        let end = over_words names.sets m.objective_set in
        let wish : Goal =
        record { sense = parsed_sense m.sense; objective = tree_expr objective.item; over = o.over } in
        let spelled : IsStatement (symbols_on words (goal_words names m.sense w.objective ++ end)) (parsed.Goal wish) =
        record {
          line = goal (parsed_sense m.sense) (record { inner = objective.item; over = o.over });
          spelled =
              sense_word words m.sense (expression_words names w.objective ++ end)
              ∙ ap (λ (x : List Symbol). spell_sense (parsed_sense m.sense) ∷ x)
              (symbols_append words (expression_words names w.objective) end
              ∙ (λ i. objective.spelled i ++ o.spelled i));
          statement_is = refl;
        } in
        let last = parsed.Goal wish ∷ e.list in
        let list = a.list ++ (n.list ++ (b.list ++ (c.list ++ (y.list ++ last)))) in
        let found : goal_in list ≡ Some wish = a.no_goal _ ∙ n.no_goal _ ∙ b.no_goal _ ∙ c.no_goal _ ∙ y.no_goal last in
        let parts =
        parts_append a.list (n.list ++ (b.list ++ (c.list ++ (y.list ++ last))))
        ∙ (λ i. both (a.parts_are i) ((parts_append n.list (b.list ++ (c.list ++ (y.list ++ last)))
        ∙ (λ h. both (n.parts_are h) ((parts_append b.list (c.list ++ (y.list ++ last))
        ∙ (λ j. both (b.parts_are j) ((parts_append c.list (y.list ++ last)
        ∙ (λ k. both (c.parts_are k) ((parts_append y.list last ∙ (λ l. both (y.parts_are l) (e.parts_are l))) k))) j)))
        h))) i)) in
        let written : written_of words sorts list ≡ w = (λ i. record {
          parameters = (ap (λ (p : Parts). p.parameters) parts ∙ append-nil w.parameters) i;
          sets = [];
          set_lines = (ap (λ (p : Parts). p.set_lines) parts ∙ append-nil w.set_lines) i;
          line_sets = [];
          variables = (ap (λ (p : Parts). p.variables) parts ∙ append-nil m.variables) i;
          adaptives = (ap (λ (p : Parts). p.adaptives) parts ∙ append-nil m.adaptives) i;
          sense = (ap sense_in found ∙ sense_back m.sense) i;
          objective = (ap (objective_of sorts) found ∙ objective.tree_is) i;
          objective_set = 0;
          rows = ap (λ (p : Parts). p.rows) parts i;
          row_sets = [];
        }) in (
          list,
          are_append (map parameter_words w.parameters) _ a.list _ a.are
              (are_append (map declared_set_words m.sets) _ n.list _ n.are
              (are_append (lines_over (set_words names) names.sets w.set_lines m.line_sets) _ b.list _ b.are
              (are_append (map variable_words m.variables) _ c.list _ c.are
              (are_append (map (adaptive_words names) m.adaptives) _ y.list last y.are (spelled, e.are))))),
          (λ i. in_sets (written i) ((ap (λ (p : Parts). p.sets) parts ∙ append-nil m.sets) i)
              ((ap (λ (p : Parts). p.line_sets) parts ∙ append-nil m.line_sets) i)
              ((ap (objective_set sorts) found ∙ o.number_is) i) (ap (λ (p : Parts). p.row_sets) parts i))
              ∙ placed.taken_is,
          written,
        )

-- what is written of rows bears their names
pub rows_declarable : (words : List (List ℕ)) (q : ℕ) (rs : List model.Row)
    → Each (λ (r : model.Row). IsDeclarable words r.name) rs
    → Each (λ (r : model.Row). IsDeclarable words r.name) (map (row_written q) rs)
rows_declarable words q [] h = tt
rows_declarable words q (r ∷ rs) h = (h.0, rows_declarable words q rs h.1)

-- the canonical lines of a model are statements that write what it has written
pub record AreWrittenBack (words : List (List ℕ)) (sorts : List (Option Sort)) (m : RobustModel) : Type 0 where
  pub list : List Statement
  pub statements : AreStatements words (lines_of m) list
  pub model_is : model_of words sorts list ≡ m
  pub written_is : written_of words sorts list ≡ written_model m

pub lines_written : (limit : ℕ) → limit < 2 ^ 62
    → (words : List (List ℕ)) (sorts : List (Option Sort)) (m : RobustModel) → AreKnown words sorts (naming_of m)
    → AreDeclarable words m → IsReadableModel limit (naming_of m) m → AreWrittenBack words sorts m
lines_written limit small words sorts m known d readable =
    let r = lines_read limit small words sorts (naming_of m) known m d
    (rows_declarable words (written_count m) m.rows d.rows) readable refl in
    record { list = r.0; statements = r.1; model_is = r.2; written_is = r.3 }

-- the canonical lines of a model are read back
pub lines_back : (limit : ℕ) → limit < 2 ^ 62 → (words : List (List ℕ)) (sorts : List (Option Sort)) (m : RobustModel)
    → AreKnown words sorts (naming_of m)
    → AreDeclarable words m → IsReadableModel limit (naming_of m) m → AreReadBack words sorts m
lines_back limit small words sorts m known d readable =
    let b = lines_written limit small words sorts m known d readable in
    record { list = b.list; statements = b.statements; model_is = b.model_is }
