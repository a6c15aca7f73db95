-- What the statements of canonical lines keep: the names and the degrees of
-- their expressions, and the sizes in front of them.
use Rattle.std.proofs.Common.{◌≡◌, ℕ, Bool, true, List, [], ◌∷◌, ◌++◌, map, refl, sym, ap, ◌∙◌, subst, append-nil, append_assoc}
use Rattle.std.specs.Prelude.{fold, Option, None}
use Rattle.std.specs.List.{flat_map}
use Rattle.rob_meaning.proofs.Lists.EachLemmas.{each_left, each_right}
use Rattle.rob_meaning.specs.Degrees.{IsLinear}
use Rattle.rob_meaning.specs.Places.{Each}
use Rattle.rob_meaning.specs.RobustModel as model
use Rattle.rob_meaning.specs.RobustModel.{AdaptiveVariable, RobustModel}
use Rattle.rob_meaning.specs.WellFormed.{IsExpression, IsSetLine}
use Rattle.rob_rules.specs.declared.sort.Sort.{Sort}
use Rattle.rob_rules.specs.declared.size.Sizes.{Sizes}
use Rattle.rob_syntax.specs.declared.symbol.Symbol.{Symbol}
use Rattle.rob_rules.specs.Leaves.{leaves, relation_leaves, statement_leaves}
use Rattle.rob_rules.specs.declared.leaf.Leaf.{Leaf}
use Rattle.rob_syntax.specs.declared.syntax.Relation.{Relation}
use Rattle.rob_syntax.specs.declared.syntax.Goal.{Goal}
use Rattle.rob_syntax.specs.declared.syntax.Sense.TheVariants as sense
use Rattle.rob_syntax.specs.declared.syntax.Statement.{Statement}
use Rattle.rob_syntax.specs.declared.syntax.Statement.TheVariants as parsed
use Rattle.rob_write.specs.Pages.{Written}
use Rattle.rob_rules.specs.Faults.{expressions, first_fault}
use Rattle.rob_parse.specs.Written.{expression, adaptives, set_lines, rows}
use Rattle.rob_round_trip.specs.Pages.{symbols_on}
use Rattle.rob_round_trip.specs.Readable.{AreStatements}
use Rattle.rob_rules.specs.Reading.{Follows}
use Rattle.rob_rules.specs.Scopes.{Earlier, behind}
use Rattle.rob_rules.specs.Sizes.{start_sizes, counted, is_within}
use Rattle.rob_syntax.specs.Statements.{IsStatement, Line, spell_line}
use Rattle.rob_syntax.specs.Statements as line
use Rattle.rob_syntax.specs.Trees.{tree_of}
use Rattle.rob_round_trip.proofs.Faultless.CanonicalParts.{GoalIs}
use Rattle.rob_round_trip.proofs.Faultless.CanonicalWalk.{Walk}
use Rattle.rob_round_trip.proofs.Faultless.CanonicalSizes.{within_front}
use Rattle.rob_rules.specs.Stages.{behind_all}
use Rattle.rob_parse.proofs.Sizes.CountLemmas.{Counts, counts_none, counts_more}
use Rattle.rob_parse.proofs.Degrees.DegreeLemmas.{EachName}
use Rattle.rob_parse.proofs.Names.SortLemmas.{AllNamed, named_behind}
use Rattle.rob_parse.proofs.Degrees.UsedLemmas.{Free, IsFreeName, free_tree, left, right}

-- ---- the names of a statement's expressions
module _ (test : Leaf → Bool) where
  free_sides : (r : Relation) → Free test (relation_leaves r)
      → Each (EachName (IsFreeName test)) (tree_of r.left ∷ tree_of r.right ∷ [])
  free_sides r free = (
    free_tree test (tree_of r.left) (left test (leaves (tree_of r.left)) (leaves (tree_of r.right)) free),
    (free_tree test (tree_of r.right) (right test (leaves (tree_of r.left)) (leaves (tree_of r.right)) free), tt),
  )

  pub free_expressions : (s : Statement) → Free test (statement_leaves s)
      → Each (EachName (IsFreeName test)) (expressions s)
  free_expressions (parsed.Uncertain d) free = tt
  free_expressions (parsed.Over j) free = tt
  free_expressions (parsed.Set r) free = free_sides r free
  free_expressions (parsed.Budget b) free = tt
  free_expressions (parsed.Var d) free = tt
  free_expressions (parsed.Adaptive p) free = tt
  free_expressions (parsed.Goal g) free = (free_tree test (tree_of g.objective) free, tt)
  free_expressions (parsed.Row r) free = free_sides r.relation free

-- ---- the expressions of a well formed model's statements are linear
pub each_flat_apart : {A B : Type 0} (P : B → Type 0) (f : A → List B) (xs : List A) → Each P (flat_map f xs)
    → Each (λ x. Each P (f x)) xs
each_flat_apart P f [] h = tt
each_flat_apart P f (x ∷ xs) h =
    (each_left P (f x) (flat_map f xs) h, each_flat_apart P f xs (each_right P (f x) (flat_map f xs) h))

module _ (m : RobustModel) (words : List (List ℕ)) (sorts : List (Option Sort)) where
  abbrev pub IsLinearStatement : Statement → Type 0
  IsLinearStatement s = Each (λ t. IsLinear m (expression sorts t)) (expressions s)

  pub linear_statement : (g : Goal) → IsLinear m (expression sorts (tree_of g.objective)) → (s : Statement) → GoalIs g s
      → Each (IsSetLine m) (set_lines sorts s)
      → Each (λ (r : model.Row). IsExpression m r.left × IsExpression m r.right) (rows words sorts s)
      → IsLinearStatement s
  linear_statement g objective (parsed.Uncertain d) is h k = tt
  linear_statement g objective (parsed.Over j) is h k = tt
  linear_statement g objective (parsed.Set r) is h k = (h.0.0.0.1, (h.0.1.0.1, tt))
  linear_statement g objective (parsed.Budget b) is h k = tt
  linear_statement g objective (parsed.Var d) is h k = tt
  linear_statement g objective (parsed.Adaptive p) is h k = tt
  linear_statement g objective (parsed.Goal x) is h k =
      (subst (λ (y : Goal). IsLinear m (expression sorts (tree_of y.objective))) (sym is) objective, tt)
  linear_statement g objective (parsed.Row r) is h k = (k.0.0.1, (k.0.1.1, tt))

-- ---- what is known behind some statements
pub names_behind : (words : List (List ℕ)) (sorts : List (Option Sort)) (e : Earlier) (list : List Statement)
    (ys : List AdaptiveVariable) → AllNamed e ys
    → AllNamed (behind_all e list) (ys ++ flat_map (adaptives words sorts) list)
names_behind words sorts e [] ys all = subst (AllNamed e) (sym (append-nil ys)) all
names_behind words sorts e (s ∷ list) ys all =
    subst (AllNamed (behind_all (behind e s) list))
    (append_assoc ys (adaptives words sorts s) (flat_map (adaptives words sorts) list))
    (names_behind words sorts (behind e s) list (ys ++ adaptives words sorts s) (named_behind words sorts e s ys all))

pub counts_behind : (words : List (List ℕ)) (sorts : List (Option Sort)) (e : Earlier) (list : List Statement)
    → Counts words sorts list e.sizes (behind_all e list).sizes
counts_behind words sorts e [] = counts_none words sorts e.sizes
counts_behind words sorts e (s ∷ list) =
    counts_more words sorts s list e.sizes (behind_all e (s ∷ list)).sizes (counts_behind words sorts (behind e s) list)

-- ---- a line begins with its keyword, so no line is empty
no_line : (l : Line) → [] ≡ spell_line l → ⊥
no_line (line.uncertain d) same = cc
no_line (line.over j) same = cc
no_line (line.set d) same = cc
no_line (line.budget d) same = cc
no_line (line.variable d) same = cc
no_line (line.adaptive d) same = cc
no_line (line.goal sense.Minimise d) same = cc
no_line (line.goal sense.Maximise d) same = cc
no_line (line.row d) same = cc

some_symbols : (s : Statement) → IsStatement [] s → ⊥
some_symbols s is = no_line is.line is.spelled

-- ---- lines without a fault follow one another
module _ (limit : ℕ) (words : List (List ℕ)) where
  abbrev pub IsRight : Earlier → List Symbol → Statement → Type 0
  IsRight e symbols s = IsStatement symbols s × (first_fault limit e e s ≡ None)

  one_follows : (e : Earlier) (symbols : List Symbol) (s : Statement) (rest : List (List Symbol))
      (list : List Statement) (f : Earlier) → IsStatement symbols s
      → first_fault limit e e s ≡ None
      → Follows limit (behind e s) rest list f → Follows limit e (symbols ∷ rest) (s ∷ list) f
  one_follows e [] s rest list f is none more = absurd (some_symbols s is)
  one_follows e (x ∷ symbols) s rest list f is none more = (is, none, more)

  pub right_follow : (e : Earlier) (ls : List (List Written)) (list : List Statement) → Walk words IsRight e ls list
      → Follows limit e (map (symbols_on words) ls ++ [] ∷ []) list (behind_all e list)
  right_follow e [] [] h = refl
  right_follow e [] (s ∷ list) h = absurd h
  right_follow e (l ∷ ls) [] h = absurd h
  right_follow e (l ∷ ls) (s ∷ list) h =
      one_follows e (symbols_on words l) s (map (symbols_on words) ls ++ [] ∷ []) list (behind_all e (s ∷ list)) h.0.0
      h.0.1 (right_follow (behind e s) ls list h.1)

-- ---- sizes
module _ (words : List (List ℕ)) where
  abbrev pub StaysWithin : Earlier → List Symbol → Statement → Type 0
  StaysWithin e symbols s = is_within (counted e.sizes s) ≡ true

  counted_append : (n : Sizes) (a : List Statement) (s : Statement)
      → fold counted n (a ++ s ∷ []) ≡ counted (fold counted n a) s
  counted_append n [] s = refl
  counted_append n (t ∷ a) s = counted_append (counted n t) a s

  pub within_walk : (before : List Statement) (e : Earlier) (ls : List (List Written)) (list : List Statement)
      → e.sizes ≡ fold counted start_sizes before
      → AreStatements words ls list → is_within (fold counted start_sizes (before ++ list)) ≡ true
      → Walk words StaysWithin e ls list
  within_walk before e [] [] same are all = tt
  within_walk before e [] (s ∷ list) same are all = absurd are
  within_walk before e (l ∷ ls) [] same are all = absurd are
  within_walk before e (l ∷ ls) (s ∷ list) same are all =
      let next : (behind e s).sizes ≡ fold counted start_sizes (before ++ s ∷ []) =
      ap (λ (n : Sizes). counted n s) same ∙ sym (counted_append start_sizes before s) in
      let rest : is_within (fold counted start_sizes ((before ++ s ∷ []) ++ list)) ≡ true =
      ap (λ (x : List Statement). is_within (fold counted start_sizes x)) (append_assoc before (s ∷ []) list)
      ∙ all in (
        ap is_within next ∙ within_front (before ++ s ∷ []) list rest,
        within_walk (before ++ s ∷ []) (behind e s) ls list next are.1 rest,
      )
