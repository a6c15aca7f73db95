-- The lines of a split model's canonical text open no more parentheses at once than the model's own lines do.
use Rattle.std.proofs.Common.{◌≡◌, ℕ, zero, suc, ◌<◌, Bool, true, false, List, [], ◌∷◌, ◌++◌, length, map, refl, sym, ap, ◌∙◌, subst, arith}
use Rattle.std.proofs.lemmas.List.{map-append}
use Rattle.rob_lex.specs.Offences.{most_open}
use Rattle.rob_meaning.proofs.Lists.EachLemmas.{each_all, each_append, each_both, each_left, each_right}
use Rattle.rob_meaning.proofs.Naming.NamedLemmas.{each_mapped}
use Rattle.rob_meaning.specs.Expressions.{Expression, Terms, Factors, number, parameter, variable, adaptive, adaptive_in, sum, product, no_terms, term, no_factors, factor}
use Rattle.rob_meaning.specs.Names.{Name}
use Rattle.rob_meaning.specs.Places.{Each}
use Rattle.rob_meaning.specs.RobustModel.{AdaptiveVariable, Member, Parameter, Relation, RobustModel, Row, Sense, SetLine, Variable, budget, line, maximise, minimise}
use Rattle.rob_pieces.proofs.BlockLemmas.{each_flat}
use Rattle.rob_pieces.specs.Cuts.{Cut, bit, cell_numbers}
use Rattle.rob_pieces.specs.SplitModel.{copy_in, cost_relation}
use Rattle.rob_round_trip.proofs.Lengths.DepthSteps.{MayStep, Shallow, Step, deeper, stays, step_of_mark, step_of_word, words_shallow}
use Rattle.rob_round_trip.specs.Pages.{IsShallow, IsWritable}
use Rattle.rob_split_text.proofs.FormedSplits.{each_bound_written, no_condition}
use Rattle.rob_split_text.proofs.WrittenSplits.{bound_written, bounds_written, cost_written, factors_renamed, line_renamed, lines_written, renamed, row_renamed, rows_written, side_written, sides_written, terms_renamed, written_split}
use Rattle.rob_syntax.specs.declared.symbol.Mark.{Mark}
use Rattle.rob_syntax.specs.declared.symbol.Mark.TheVariants as mark
use Rattle.rob_write.specs.Pages.{Written, digits, keyword, line_end, name, negative, sign}
use Rattle.rob_write.specs.ExpressionWords.{Naming, comma, enclosed, expression_words, factor_words, is_compound, is_sum, lead, listed, name_at, number_words, paren, term_words, times}
use Rattle.rob_write.specs.StatementWords.{adaptive_words, comparison_words, declared_set_words, goal_word, goal_words, lines_over, member_words, over_words, parameter_words, relation_word, row_words, set_words, variable_words}
use Rattle.rob_write.specs.Canonical.{lines_alone, naming_alone}
use Rattle.rob_split_text.proofs.FlatWords.{AreFlat, bound_flat, relation_flat, over_flat, side_flat, names_flat}

-- ---- steps of words
-- what each of the words does to the parentheses that are open
abbrev steps : List Written → List Step
steps ws = map step_of_word ws

-- few parentheses are open at once
abbrev pub IsLow : ℕ → List Written → Type 0
IsLow d ws = Shallow step_of_word d ws

sign_low : (m : Mark) (d : ℕ) (ws : List Written) → IsShallow d (sign m ∷ ws)
    → MayStep d (step_of_mark m) × IsShallow (deeper d (step_of_mark m)) ws
sign_low mark.Plus d ws h = h
sign_low mark.Minus d ws h = h
sign_low mark.Star d ws h = h
sign_low mark.Slash d ws h = h
sign_low mark.Open d ws h = h
sign_low mark.Close d ws h = h
sign_low mark.OpenBracket d ws h = h
sign_low mark.CloseBracket d ws h = h
sign_low mark.Comma d ws h = h
sign_low mark.Colon d ws h = h
sign_low mark.Equal d ws h = h
sign_low mark.AtMost d ws h = h
sign_low mark.AtLeast d ws h = h

-- words of one line are low where they are shallow
low : (d : ℕ) (ws : List Written) → Each IsWritable ws → IsShallow d ws → IsLow d ws
low d [] f h = tt
low d (name bytes ∷ ws) f h = (tt, low d ws f.1 h.1)
low d (digits n ∷ ws) f h = (tt, low d ws f.1 h.1)
low d (keyword k ∷ ws) f h = (tt, low d ws f.1 h.1)
low d (sign m ∷ ws) f h = let r = sign_low m d ws h in (r.0, low (deeper d (step_of_mark m)) ws f.1 r.1)
low d (negative ∷ ws) f h = (tt, low d ws f.1 h.1)
low d (line_end ∷ ws) f h = absurd f.0

-- that goes by the steps alone
to_steps : (d : ℕ) (ws : List Written) → IsLow d ws → Shallow (λ (s : Step). s) d (steps ws)
to_steps d [] h = tt
to_steps d (w ∷ ws) h = (h.0, to_steps (deeper d (step_of_word w)) ws h.1)

from_steps : (d : ℕ) (ws : List Written) → Shallow (λ (s : Step). s) d (steps ws) → IsLow d ws
from_steps d [] h = tt
from_steps d (w ∷ ws) h = (h.0, from_steps (deeper d (step_of_word w)) ws h.1)

same_low : (d : ℕ) (ws vs : List Written) → steps vs ≡ steps ws → IsLow d ws → IsLow d vs
same_low d ws vs e h = from_steps d vs (subst (Shallow (λ (s : Step). s) d) (sym e) (to_steps d ws h))

-- words without parentheses, in front and behind
flat_low : (d : ℕ) (ws : List Written) → AreFlat ws → IsLow d ws
flat_low d [] h = tt
flat_low d (w ∷ ws) h = subst (λ (s : Step). MayStep d s × IsLow (deeper d s) ws) (sym h.0) (tt, flat_low d ws h.1)

flat_front : (d : ℕ) (ws vs : List Written) → AreFlat ws → IsLow d vs → IsLow d (ws ++ vs)
flat_front d [] vs h k = k
flat_front d (w ∷ ws) vs h k =
    subst (λ (s : Step). MayStep d s × IsLow (deeper d s) (ws ++ vs)) (sym h.0) (tt, flat_front d ws vs h.1 k)

flat_behind : (d : ℕ) (ws vs : List Written) → IsLow d ws → AreFlat vs → IsLow d (ws ++ vs)
flat_behind d [] vs h k = flat_low d vs k
flat_behind d (w ∷ ws) vs h k = (h.0, flat_behind (deeper d (step_of_word w)) ws vs h.1 k)

-- ---- the same steps
both_steps : (ws vs us ts : List Written) → steps ws ≡ steps us → steps vs ≡ steps ts
    → steps (ws ++ vs) ≡ steps (us ++ ts)
both_steps ws vs us ts h k = map-append step_of_word ws vs ∙ (λ i. h i ++ k i) ∙ sym (map-append step_of_word us ts)

module _ (m : RobustModel) (c : ℕ) (a b : Naming) where
  sum_stays : (e : Expression) → is_sum (renamed m c e) ≡ is_sum e
  sum_stays (number q) = refl
  sum_stays (parameter k) = refl
  sum_stays (variable k) = refl
  sum_stays (adaptive y) = refl
  sum_stays (adaptive_in y S) = refl
  sum_stays (sum ts) = refl
  sum_stays (product fs) = refl

  compound_stays : (e : Expression) → is_compound (renamed m c e) ≡ is_compound e
  compound_stays (number q) = refl
  compound_stays (parameter k) = refl
  compound_stays (variable k) = refl
  compound_stays (adaptive y) = refl
  compound_stays (adaptive_in y S) = refl
  compound_stays (sum ts) = refl
  compound_stays (product fs) = refl

  enclosed_steps : (p q : Bool) (ws vs : List Written) → p ≡ q → steps ws ≡ steps vs
      → steps (enclosed p ws) ≡ steps (enclosed q vs)
  enclosed_steps p q ws vs same h =
      ap (λ (x : Bool). steps (enclosed x ws)) same
      ∙ both_steps (paren q mark.Open) (ws ++ paren q mark.Close) (paren q mark.Open) (vs ++ paren q mark.Close) refl
      (both_steps ws (paren q mark.Close) vs (paren q mark.Close) h refl)

  mutual
    expression_steps : (e : Expression) → steps (expression_words b (renamed m c e)) ≡ steps (expression_words a e)
    expression_steps (number q) = refl
    expression_steps (parameter k) = refl
    expression_steps (variable k) = refl
    expression_steps (adaptive y) = refl
    expression_steps (adaptive_in y S) = refl
    expression_steps (sum ts) = terms_steps true ts
    expression_steps (product fs) = factors_steps true fs

    terms_steps : (first : Bool) (ts : Terms)
        → steps (term_words b first (terms_renamed m c ts)) ≡ steps (term_words a first ts)
    terms_steps first no_terms = refl
    terms_steps first (term minus e ts) =
        both_steps (lead first minus) _ (lead first minus) _ refl
        (both_steps (enclosed (is_sum (renamed m c e)) (expression_words b (renamed m c e))) _
        (enclosed (is_sum e) (expression_words a e)) _
        (enclosed_steps (is_sum (renamed m c e)) (is_sum e) (expression_words b (renamed m c e)) (expression_words a e)
        (sum_stays e) (expression_steps e))
        (terms_steps false ts))

    factors_steps : (first : Bool) (fs : Factors)
        → steps (factor_words b first (factors_renamed m c fs)) ≡ steps (factor_words a first fs)
    factors_steps first no_factors = refl
    factors_steps first (factor e fs) =
        both_steps (times first) _ (times first) _ refl
        (both_steps (enclosed (is_compound (renamed m c e)) (expression_words b (renamed m c e))) _
        (enclosed (is_compound e) (expression_words a e)) _
        (enclosed_steps (is_compound (renamed m c e)) (is_compound e) (expression_words b (renamed m c e))
        (expression_words a e) (compound_stays e) (expression_steps e))
        (factors_steps false fs))

  comparison_steps : (l r : Expression) (relation : Relation)
      → steps (comparison_words b (renamed m c l) relation (renamed m c r)) ≡ steps (comparison_words a l relation r)
  comparison_steps l r relation =
      both_steps (expression_words b (renamed m c l)) _ (expression_words a l) _ (expression_steps l)
      (ap (λ (ss : List Step). step_of_word (relation_word relation) ∷ ss) (expression_steps r))

  members_steps : (first : Bool) (hs : List Member)
      → steps (listed (member_words b) first hs) ≡ steps (listed (member_words a) first hs)
  members_steps first [] = refl
  members_steps first (h ∷ hs) =
      both_steps (comma first) _ (comma first) _ refl
      (both_steps (member_words b h) _ (member_words a h) _ refl (members_steps false hs))

  line_steps : (l : SetLine) → steps (set_words b (line_renamed m c l)) ≡ steps (set_words a l)
  line_steps (line l relation r) = ap (λ (ss : List Step). stays ∷ ss) (comparison_steps l r relation)
  line_steps (budget limit hs) =
      ap (λ (ss : List Step). stays ∷ ss)
      (both_steps (number_words limit) _ (number_words limit) _ refl
      (ap (λ (ss : List Step). stays ∷ ss) (members_steps true hs)))

  row_steps : (r : Row) → steps (row_words b (row_renamed m c r)) ≡ steps (row_words a r)
  row_steps r = ap (λ (ss : List Step). stays ∷ (stays ∷ (stays ∷ ss))) (comparison_steps r.left r.right r.relation)

-- ---- the lines
-- lines that may be in a set are shallow where what they write is low
lines_shallow : {A : Type 0} (write : A → List Written) (sets : List Name) (xs : List A) (Ss : List ℕ)
    → Each (λ x. IsLow 0 (write x)) xs
    → Each (IsShallow 0) (lines_over write sets xs Ss)
lines_shallow write sets [] Ss h = tt
lines_shallow write sets (x ∷ xs) [] h = (
  words_shallow 0 (write x ++ over_words sets 0) (flat_behind 0 (write x) _ h.0 (over_flat sets 0)),
  lines_shallow write sets xs [] h.1,
)
lines_shallow write sets (x ∷ xs) (S ∷ Ss) h = (
  words_shallow 0 (write x ++ over_words sets S) (flat_behind 0 (write x) _ h.0 (over_flat sets S)),
  lines_shallow write sets xs Ss h.1,
)

mapped_shallow : {A : Type 0} (write : A → List Written) (xs : List A) → Each (λ x. IsLow 0 (write x)) xs
    → Each (IsShallow 0) (map write xs)
mapped_shallow write [] h = tt
mapped_shallow write (x ∷ xs) h = (words_shallow 0 (write x) h.0, mapped_shallow write xs h.1)

unmapped : {A : Type 0} (write : A → List Written) (xs : List A) → Each (IsLow 0) (map write xs)
    → Each (λ x. IsLow 0 (write x)) xs
unmapped write [] h = tt
unmapped write (x ∷ xs) h = (h.0, unmapped write xs h.1)

goal_behind : (sense : Sense) (ws : List Written) → IsLow 0 (goal_word sense ∷ ws) → IsLow 0 ws
goal_behind minimise ws h = h.1
goal_behind maximise ws h = h.1

module _ (m : RobustModel) (cuts : List Cut) (lines : Each (IsLow 0) (lines_alone m)) where
  abbrev a : Naming
  a = naming_alone m

  abbrev w : RobustModel
  w = written_split m cuts

  behind_parameters : Each (IsLow 0)
      (map (set_words a) m.set_lines
      ++ (map variable_words m.variables
      ++ (map (adaptive_words a) m.adaptives ++ goal_words a m.sense m.objective ∷ map (row_words a) m.rows)))
  behind_parameters = each_right (IsLow 0) (map parameter_words m.parameters) _ lines

  of_sets : Each (λ (l : SetLine). IsLow 0 (set_words a l)) m.set_lines
  of_sets = unmapped (set_words a) m.set_lines (each_left (IsLow 0) (map (set_words a) m.set_lines) _ behind_parameters)

  from_goal : Each (IsLow 0) (goal_words a m.sense m.objective ∷ map (row_words a) m.rows)
  from_goal =
      each_right (IsLow 0) (map (adaptive_words a) m.adaptives) _
      (each_right (IsLow 0) (map variable_words m.variables) _
      (each_right (IsLow 0) (map (set_words a) m.set_lines) _ behind_parameters))

  of_rows : Each (λ (r : Row). IsLow 0 (row_words a r)) m.rows
  of_rows = unmapped (row_words a) m.rows from_goal.1

  of_objective : IsLow 0 (expression_words a m.objective)
  of_objective = goal_behind m.sense (expression_words a m.objective) from_goal.0

  module _ (b : Naming) where
    module _ (c : ℕ) where
      side_low : (cut : Cut) (bit : ℕ) → IsLow 0 (set_words b (side_written m c cut bit))
      side_low cut zero =
          flat_low 0 (set_words b (side_written m c cut zero)) (refl, (refl, (refl, side_flat b cut.level)))
      side_low cut (suc k) =
          flat_low 0 (set_words b (side_written m c cut (suc k))) (refl, (refl, (refl, side_flat b cut.level)))

      sides_low : (cs : List Cut) → Each (λ (l : SetLine). IsLow 0 (set_words b l)) (sides_written m c cs)
      sides_low [] = tt
      sides_low (cut ∷ cs) = (side_low cut _, sides_low cs)

      cell_lines_low : Each (λ (l : SetLine). IsLow 0 (set_words b l)) (lines_written m c cuts)
      cell_lines_low =
          each_append (λ (l : SetLine). IsLow 0 (set_words b l)) (map (line_renamed m c) m.set_lines)
          (sides_written m c cuts)
          (each_mapped (λ (l : SetLine). IsLow 0 (set_words b l)) (line_renamed m c)
          (λ (l : SetLine). IsLow 0 (set_words a l))
          (λ l h. same_low 0 (set_words a l) (set_words b (line_renamed m c l)) (line_steps m c a b l) h) m.set_lines
          of_sets)
          (sides_low cuts)

      cost_low : IsLow 0 (row_words b (cost_written m c))
      cost_low = (
        tt,
        (
          tt,
          (
            tt,
            (
              tt,
              flat_front 0 (relation_word (cost_relation m c m.sense) ∷ [])
                  (expression_words b (renamed m c m.objective))
                  (relation_flat (cost_relation m c m.sense), tt)
                  (same_low 0 (expression_words a m.objective) (expression_words b (renamed m c m.objective))
                  (expression_steps m c a b m.objective) of_objective),
            ),
          ),
        ),
      )

      cell_rows_low : Each (λ (r : Row). IsLow 0 (row_words b r)) (rows_written m c)
      cell_rows_low = (
        cost_low,
        each_append (λ (r : Row). IsLow 0 (row_words b r)) (map (row_renamed m c) m.rows)
            (bounds_written m c 0 m.adaptives)
            (each_mapped (λ (r : Row). IsLow 0 (row_words b r)) (row_renamed m c) (λ (r : Row). IsLow 0 (row_words a r))
            (λ r h. same_low 0 (row_words a r) (row_words b (row_renamed m c r)) (row_steps m c a b r) h) m.rows
            of_rows)
            (each_bound_written m c (λ (r : Row). IsLow 0 (row_words b r)) (λ x. Unit {0}) 0 m.adaptives
            (no_condition m.adaptives)
            (λ name j relation bound small q.
            flat_low 0 (row_words b (bound_written m c name j relation bound))
            (refl, (refl, (refl, (refl, (relation_flat relation, side_flat b bound))))))),
      )

      copy_low : (y : AdaptiveVariable) → IsLow 0 (adaptive_words b (copy_in m c y))
      copy_low y = (
        tt,
        (
          tt,
          (
            (let e : 0 < most_open = omega arith in e),
            flat_front 1 (listed (λ k. name_at b.parameters k ∷ []) true y.on) (sign mark.Close ∷ [])
                (names_flat b.parameters true y.on) (tt, tt),
          ),
        ),
      )

      copies_low : Each (λ (y : AdaptiveVariable). IsLow 0 (adaptive_words b y)) (map (copy_in m c) m.adaptives)
      copies_low =
          each_mapped (λ (y : AdaptiveVariable). IsLow 0 (adaptive_words b y)) (copy_in m c)
          (λ (y : AdaptiveVariable). Unit {0})
          (λ y h. copy_low y) m.adaptives (each_all (λ (y : AdaptiveVariable). Unit {0}) (λ y. tt) m.adaptives)

    -- the canonical lines of what is written, with sets of these names, are shallow
    pub split_shallow : (sets : List Name) (of_lines of_rows : List ℕ) →
        Each (IsShallow 0)
        (map parameter_words w.parameters
        ++ (map declared_set_words sets
        ++ (lines_over (set_words b) sets w.set_lines of_lines
        ++ (map variable_words w.variables
        ++ (map (adaptive_words b) w.adaptives
        ++ (goal_words b w.sense w.objective ++ over_words sets 0)
        ∷ lines_over (row_words b) sets w.rows of_rows)))))
    split_shallow sets of_lines of_rows =
        each_append (IsShallow 0) (map parameter_words w.parameters) _
        (mapped_shallow parameter_words w.parameters
        (each_all (λ (p : Parameter). IsLow 0 (parameter_words p))
        (λ p. flat_low 0 (parameter_words p) (refl, (refl, bound_flat p.lower p.upper))) w.parameters))
        (each_append (IsShallow 0) (map declared_set_words sets) _
        (mapped_shallow declared_set_words sets
        (each_all (λ (n : Name). IsLow 0 (declared_set_words n)) (λ n. (tt, (tt, tt))) sets))
        (each_append (IsShallow 0) (lines_over (set_words b) sets w.set_lines of_lines) _
        (lines_shallow (set_words b) sets w.set_lines of_lines
        (each_flat (λ (l : SetLine). IsLow 0 (set_words b l)) (λ c. lines_written m c cuts) (cell_numbers cuts)
        (each_all (λ c. Each (λ (l : SetLine). IsLow 0 (set_words b l)) (lines_written m c cuts))
        cell_lines_low (cell_numbers cuts))))
        (each_append (IsShallow 0) (map variable_words w.variables) _
        (mapped_shallow variable_words w.variables
        (each_all (λ (x : Variable). IsLow 0 (variable_words x))
        (λ x. flat_low 0 (variable_words x) (refl, (refl, bound_flat x.lower x.upper))) w.variables))
        (each_append (IsShallow 0) (map (adaptive_words b) w.adaptives) _
        (mapped_shallow (adaptive_words b) w.adaptives
        (each_flat (λ (y : AdaptiveVariable). IsLow 0 (adaptive_words b y))
        (λ c. map (copy_in m c) m.adaptives) (cell_numbers cuts)
        (each_all (λ c. Each (λ (y : AdaptiveVariable). IsLow 0 (adaptive_words b y)) (map (copy_in m c) m.adaptives))
        copies_low (cell_numbers cuts)))) (
          goal_shallow m.sense,
          lines_shallow (row_words b) sets w.rows of_rows
              (each_flat (λ (r : Row). IsLow 0 (row_words b r)) (rows_written m) (cell_numbers cuts)
              (each_all (λ c. Each (λ (r : Row). IsLow 0 (row_words b r)) (rows_written m c))
              cell_rows_low (cell_numbers cuts))),
        )))))
      where
        goal_shallow : (sense : Sense)
            → IsShallow 0 (goal_words b sense (variable (length m.variables)) ++ over_words sets 0)
        goal_shallow minimise = (tt, (tt, tt))
        goal_shallow maximise = (tt, (tt, tt))

-- lines that may be written are low where they are shallow
pub lines_low : (ls : List (List Written)) → Each (Each IsWritable) ls → Each (IsShallow 0) ls → Each (IsLow 0) ls
lines_low ls f h = each_both (Each IsWritable) (IsShallow 0) (IsLow 0) (low 0) ls f h
