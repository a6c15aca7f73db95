-- A text without the word `over`, and a model without named sets: nothing is taken in a set, and no line ends in one.
use Rattle.std.proofs.Common.{◌≡◌, ℕ, ◌+◌, ◌*◌, ◌<◌, List, [], ◌∷◌, ◌++◌, length, map, refl, sym, ap, ◌∙◌, subst, arith, append-nil, zero-mul}
use Rattle.std.specs.Prelude.{Option, None}
use Rattle.std.specs.List.{flat_map}
use Rattle.rob_meaning.specs.Expressions.{Expression, Terms, Factors, number, parameter, variable, adaptive, adaptive_in, sum, product, no_terms, term, no_factors, factor}
use Rattle.rob_meaning.specs.JointMeaning.{HasOneSet}
use Rattle.rob_meaning.proofs.Scenarios.AloneLemmas.{all_taken, set_count-alone}
use Rattle.rob_meaning.specs.Places.{Each}
use Rattle.rob_meaning.specs.RobustModel as model
use Rattle.rob_meaning.specs.RobustModel.{AdaptiveVariable, Member, Parameter, RobustModel, Row, SetLine, budget, line}
use Rattle.rob_rules.specs.declared.sort.Sort.{Sort}
use Rattle.rob_syntax.specs.declared.syntax.Statement.{Statement}
use Rattle.rob_syntax.specs.declared.syntax.Statement.TheVariants as parsed
use Rattle.rob_write.specs.Pages.{Written}
use Rattle.rob_write.specs.WrittenModel.{written_model}
use Rattle.rob_write.specs.ExpressionWords.{naming_of}
use Rattle.rob_write.specs.StatementWords.{adaptive_words, declared_set_words, goal_words, lines_over, over_words, parameter_words, row_words, set_words, variable_words}
use Rattle.rob_write.specs.Canonical.{lines_alone, lines_of, naming_alone}
use Rattle.rob_parse.specs.Modelled.{HasNoOver, NamesNoSet, ReadsModel, written_alone}
use Rattle.rob_parse.specs.Written.{goal_in, rows, set_lines, sets, written_of}
use Rattle.rob_parse.specs.Models.{each_taken, factors_taken, in_sets, line_sets, line_taken, member_taken, model_of, objective_set, row_sets, row_taken, set_at, taken, terms_taken}
use Rattle.rob_round_trip.specs.Readable.{IsPlaced}
use Rattle.rob_round_trip.proofs.WithoutSets.QuietTexts.{quiet_statements}
use Rattle.rob_syntax.specs.Symbols.{words_of}
use Rattle.rob_syntax.specs.Versions.{text_lines}

-- ---- what is taken in the default set stays as it is
module _ (p : ℕ) where
  mutual
    pub taken_default : (e : Expression) → taken p 0 e ≡ e
    taken_default (number q) = refl
    taken_default (parameter k) = let same : 0 * p + k ≡ k = omega (arith, zero-mul p) in ap parameter same
    taken_default (variable k) = refl
    taken_default (adaptive y) = refl
    taken_default (adaptive_in y S) = refl
    taken_default (sum ts) = ap sum (terms_default ts)
    taken_default (product fs) = ap product (factors_default fs)

    terms_default : (ts : Terms) → terms_taken p 0 ts ≡ ts
    terms_default no_terms = refl
    terms_default (term minus e ts) = λ i. term minus (taken_default e i) (terms_default ts i)

    factors_default : (fs : Factors) → factors_taken p 0 fs ≡ fs
    factors_default no_factors = refl
    factors_default (factor e fs) = λ i. factor (taken_default e i) (factors_default fs i)

  members_default : (hs : List Member) → map (member_taken p 0) hs ≡ hs
  members_default [] = refl
  members_default (h ∷ hs) =
      let same : 0 * p + h.parameter ≡ h.parameter = omega (arith, zero-mul p) in
      λ i. record h { parameter = same i } ∷ members_default hs i

  line_default : (c : SetLine) → line_taken p 0 c ≡ c
  line_default (line l r x) = λ i. line (taken_default l i) r (taken_default x i)
  line_default (budget limit hs) = ap (budget limit) (members_default hs)

  row_default : (r : Row) → row_taken p 0 r ≡ r
  row_default r = λ i. record r { left = taken_default r.left i; right = taken_default r.right i }

  -- items that all answer to the default set
  abbrev AreDefault : List ℕ → Type 0
  AreDefault Ss = Each (λ S. S < 1) Ss

  each_default : {A : Type 0} (take : ℕ → A → A) → ((x : A) → take 0 x ≡ x) → (xs : List A) (Ss : List ℕ)
      → AreDefault Ss → each_taken take xs Ss ≡ xs
  each_default take same [] Ss h = refl
  each_default take same (x ∷ xs) [] h = refl
  each_default take same (x ∷ xs) (S ∷ Ss) h =
      let none : S ≡ 0 = omega (arith, h.0) in
      λ i. (ap (λ (T : ℕ). take T x) none ∙ same x) i ∷ each_default take same xs Ss h.1 i

-- a model over written parameters is itself in no named sets
pub in_no_sets : (w : RobustModel) (of_lines of_rows : List ℕ) (of_objective : ℕ) → Each (λ S. S < 1) of_lines
    → of_objective < 1 → Each (λ S. S < 1) of_rows
    → in_sets w [] of_lines of_objective of_rows
    ≡ record w { sets = []; line_sets = of_lines; objective_set = of_objective; row_sets = of_rows }
in_no_sets w of_lines of_rows of_objective lines objective rows =
    let p = length w.parameters in
    let none : of_objective ≡ 0 = omega (arith, objective) in
    λ i. record w {
      parameters = append-nil w.parameters i;
      sets = [];
      set_lines = each_default p (line_taken p) (line_default p) w.set_lines of_lines lines i;
      line_sets = of_lines;
      objective = (ap (λ (S : ℕ). taken p S w.objective) none ∙ taken_default p w.objective) i;
      objective_set = of_objective;
      rows = each_default p (row_taken p) (row_default p) w.rows of_rows rows i;
      row_sets = of_rows;
    }

-- ---- statements that name no set
no_set : (sorts : List (Option Sort)) (over : Option ℕ) → over ≡ None → set_at sorts over ≡ 0
no_set sorts over none = ap (set_at sorts) none

module _ (words : List (List ℕ)) (sorts : List (Option Sort)) where
  no_sets : (list : List Statement) → Each NamesNoSet list → flat_map (sets words) list ≡ []
  no_sets [] h = refl
  no_sets (parsed.Over k ∷ list) h = absurd h.0
  no_sets (parsed.Uncertain d ∷ list) h = no_sets list h.1
  no_sets (parsed.Set r ∷ list) h = no_sets list h.1
  no_sets (parsed.Budget b ∷ list) h = no_sets list h.1
  no_sets (parsed.Var d ∷ list) h = no_sets list h.1
  no_sets (parsed.Adaptive p ∷ list) h = no_sets list h.1
  no_sets (parsed.Goal g ∷ list) h = no_sets list h.1
  no_sets (parsed.Row r ∷ list) h = no_sets list h.1

  lines_default : (list : List Statement) → Each NamesNoSet list
      → flat_map (line_sets sorts) list ≡ map (λ c. 0) (flat_map (set_lines sorts) list)
  lines_default [] h = refl
  lines_default (parsed.Set r ∷ list) h = λ i. no_set sorts r.over h.0 i ∷ lines_default list h.1 i
  lines_default (parsed.Budget b ∷ list) h = λ i. no_set sorts b.over h.0 i ∷ lines_default list h.1 i
  lines_default (parsed.Over k ∷ list) h = absurd h.0
  lines_default (parsed.Uncertain d ∷ list) h = lines_default list h.1
  lines_default (parsed.Var d ∷ list) h = lines_default list h.1
  lines_default (parsed.Adaptive p ∷ list) h = lines_default list h.1
  lines_default (parsed.Goal g ∷ list) h = lines_default list h.1
  lines_default (parsed.Row r ∷ list) h = lines_default list h.1

  rows_default : (list : List Statement) → Each NamesNoSet list
      → flat_map (row_sets sorts) list ≡ map (λ r. 0) (flat_map (rows words sorts) list)
  rows_default [] h = refl
  rows_default (parsed.Row r ∷ list) h = λ i. no_set sorts r.relation.over h.0 i ∷ rows_default list h.1 i
  rows_default (parsed.Over k ∷ list) h = absurd h.0
  rows_default (parsed.Uncertain d ∷ list) h = rows_default list h.1
  rows_default (parsed.Set r ∷ list) h = rows_default list h.1
  rows_default (parsed.Budget b ∷ list) h = rows_default list h.1
  rows_default (parsed.Var d ∷ list) h = rows_default list h.1
  rows_default (parsed.Adaptive p ∷ list) h = rows_default list h.1
  rows_default (parsed.Goal g ∷ list) h = rows_default list h.1

  goal_default : (list : List Statement) → Each NamesNoSet list → objective_set sorts (goal_in list) ≡ 0
  goal_default [] h = refl
  goal_default (parsed.Goal g ∷ list) h = no_set sorts g.over h.0
  goal_default (parsed.Over k ∷ list) h = absurd h.0
  goal_default (parsed.Uncertain d ∷ list) h = goal_default list h.1
  goal_default (parsed.Set r ∷ list) h = goal_default list h.1
  goal_default (parsed.Budget b ∷ list) h = goal_default list h.1
  goal_default (parsed.Var d ∷ list) h = goal_default list h.1
  goal_default (parsed.Adaptive p ∷ list) h = goal_default list h.1
  goal_default (parsed.Row r ∷ list) h = goal_default list h.1

  zeros : {A : Type 0} (xs : List A) → Each (λ (S : ℕ). S ≡ 0) (map (λ x. 0) xs)
  zeros [] = tt
  zeros (x ∷ xs) = (refl, zeros xs)

  -- so their model has one set
  one_set_of : (list : List Statement) → Each NamesNoSet list → HasOneSet (model_of words sorts list)
  one_set_of list h = record {
    sets = no_sets list h;
    lines = subst (Each (λ (S : ℕ). S ≡ 0)) (sym (lines_default list h)) (zeros (flat_map (set_lines sorts) list));
    rows = subst (Each (λ (S : ℕ). S ≡ 0)) (sym (rows_default list h)) (zeros (flat_map (rows words sorts) list));
    objective = goal_default list h;
  }

  zeros_small : {A : Type 0} (xs : List A) → Each (λ S. S < 1) (map (λ x. 0) xs)
  zeros_small [] = tt
  zeros_small (x ∷ xs) = (omega arith, zeros_small xs)

  -- the law: their model is what they write
  pub model_alone : (list : List Statement) → Each NamesNoSet list
      → model_of words sorts list ≡ written_alone words sorts list
  model_alone list h =
      let w = written_of words sorts list in
      (λ i. in_sets w (no_sets list h i) (lines_default list h i) (goal_default list h i) (rows_default list h i))
      ∙ in_no_sets w (map (λ c. 0) w.set_lines) (map (λ r. 0) w.rows) 0 (zeros_small w.set_lines)
      (omega arith) (zeros_small w.rows)

-- ---- a text without the word
pub one_set : (limit : ℕ) (text : List ℕ) (m : RobustModel) (read : ReadsModel limit text m)
    → HasNoOver (text_lines text (words_of text read.reads.tokens) read.reads.tokens) → HasOneSet m
one_set limit text m read h =
    subst HasOneSet (sym read.model_is)
    (one_set_of read.words read.known.sorts read.list
    (quiet_statements limit text read.words read.list read.known read.reads h))

-- ---- the canonical lines of a model that names no set
lines_end : {A : Type 0} (words : A → List Written) (sets : List (List ℕ)) (xs : List A) (Ss : List ℕ)
    → Each (λ S. S < 1) Ss → lines_over words sets xs Ss ≡ map words xs
lines_end words sets [] Ss h = refl
lines_end words sets (x ∷ xs) [] h = λ i. append-nil (words x) i ∷ lines_end words sets xs [] h i
lines_end words sets (x ∷ xs) (S ∷ Ss) h =
    let none : S ≡ 0 = omega (arith, h.0) in
    λ i. (ap (λ (T : ℕ). words x ++ over_words sets T) none ∙ append-nil (words x)) i ∷ lines_end words sets xs Ss h.1 i

module _ (m : RobustModel) (alone : m.sets ≡ []) (placed : IsPlaced m) where
  abbrev w : RobustModel
  w = written_model m

  of_lines : Each (λ S. S < 1) m.line_sets
  of_lines = subst (λ (n : ℕ). Each (λ S. S < n) m.line_sets) (set_count-alone m alone) placed.of_lines

  of_objective : m.objective_set < 1
  of_objective = subst (λ (n : ℕ). m.objective_set < n) (set_count-alone m alone) placed.of_objective

  of_rows : Each (λ S. S < 1) m.row_sets
  of_rows = subst (λ (n : ℕ). Each (λ S. S < n) m.row_sets) (set_count-alone m alone) placed.of_rows

  -- what it has written is what it is
  same : record w { sets = []; line_sets = m.line_sets; objective_set = m.objective_set; row_sets = m.row_sets } ≡ m
  same =
      sym (in_no_sets w m.line_sets m.row_sets m.objective_set of_lines of_objective of_rows)
      ∙ (λ i. in_sets w (sym alone i) m.line_sets m.objective_set m.row_sets) ∙ placed.taken_is

  naming : naming_of m ≡ naming_alone m
  naming = λ i. record {
    parameters = map (λ (p : Parameter). p.name) (all_taken m alone i);
    sets = alone i;
    variables = map (λ (x : model.Variable). x.name) m.variables;
    adaptives = map (λ (y : AdaptiveVariable). y.name) m.adaptives;
  }

  sets_alone : lines_over (set_words (naming_of m)) m.sets w.set_lines m.line_sets
      ≡ map (set_words (naming_alone m)) m.set_lines
  sets_alone = lines_end (set_words (naming_of m)) m.sets w.set_lines m.line_sets of_lines
      ∙ (λ i. map (set_words (naming i)) (ap (λ (x : RobustModel). x.set_lines) same i))

  rows_alone : lines_over (row_words (naming_of m)) m.sets w.rows m.row_sets ≡ map (row_words (naming_alone m)) m.rows
  rows_alone =
      lines_end (row_words (naming_of m)) m.sets w.rows m.row_sets of_rows
      ∙ (λ i. map (row_words (naming i)) (ap (λ (x : RobustModel). x.rows) same i))

  goal_alone : goal_words (naming_of m) m.sense w.objective ++ over_words m.sets m.objective_set
      ≡ goal_words (naming_alone m) m.sense m.objective
  goal_alone =
      let none : m.objective_set ≡ 0 = omega (arith, of_objective) in
      ap (λ (S : ℕ). goal_words (naming_of m) m.sense w.objective ++ over_words m.sets S) none
      ∙ append-nil (goal_words (naming_of m) m.sense w.objective)
      ∙ (λ i. goal_words (naming i) m.sense (ap (λ (x : RobustModel). x.objective) same i))

  -- the law: its lines are those of the model itself
  pub lines_are_alone : lines_of m ≡ lines_alone m
  lines_are_alone = λ i.
      map parameter_words (all_taken m alone i)
      ++ (no_names i
      ++ (sets_alone i
      ++ (map variable_words m.variables
      ++ (map (adaptive_words (naming i)) m.adaptives
      ++ goal_alone i ∷ rows_alone i))))
    where
      no_names : map declared_set_words m.sets ≡ []
      no_names = ap (map declared_set_words) alone
