-- No line of a model's own parts has the word `over`.
use Rattle.std.proofs.Common.{Bool, true, false, List, [], ◌∷◌, ◌++◌, map}
use Rattle.std.specs.Prelude.{◌==◌, Option, Some, None, if◌then◌else◌, int_lt, nat_abs, pos}
use Rattle.rob_algebra.specs.Fraction.{Fraction}
use Rattle.rob_meaning.proofs.Lists.EachLemmas.{each_append}
use Rattle.rob_meaning.specs.Expressions.{Expression, Terms, Factors, number, parameter, variable, adaptive, adaptive_in, sum, product, no_terms, term, no_factors, factor}
use Rattle.rob_meaning.specs.Places.{Each}
use Rattle.rob_meaning.specs.RobustModel as model
use Rattle.rob_meaning.specs.RobustModel.{AdaptiveVariable, Member, RobustModel, Row, SetLine, budget, line}
use Rattle.rob_syntax.specs.declared.symbol.Keyword.TheVariants as word
use Rattle.rob_syntax.specs.declared.symbol.Mark.TheVariants as mark
use Rattle.rob_write.specs.Pages.{Written, digits, keyword, negative, sign}
use Rattle.rob_write.specs.ExpressionWords.{Naming, comma, divisor_words, enclosed, expression_words, factor_words, is_compound, is_sum, lead, listed, minus_words, name_at, number_words, paren, term_words, times}
use Rattle.rob_write.specs.StatementWords.{bound_words, comparison_words, goal_word, member_words, relation_word, adaptive_words, parameter_words, row_words, set_words, variable_words}
use Rattle.rob_write.specs.Canonical.{IsNotOver, lines_alone, naming_alone}

-- ---- no word `over` in them
abbrev Quiet : List Written → Type 0
Quiet ws = Each IsNotOver ws

quiet_append : (xs ys : List Written) → Quiet xs → Quiet ys → Quiet (xs ++ ys)
quiet_append xs ys a b = each_append IsNotOver xs ys a b

quiet_if : (b : Bool) (w : Written) → IsNotOver w → Quiet (if b then (w ∷ []) else [])
quiet_if true w h = (h, tt)
quiet_if false w h = tt

quiet_unless : (b : Bool) (w v : Written) → IsNotOver w → IsNotOver v → Quiet (if b then [] else (w ∷ (v ∷ [])))
quiet_unless true w v a b = tt
quiet_unless false w v a b = (a, (b, tt))

quiet_number : (q : Fraction) → Quiet (number_words q)
quiet_number q =
    quiet_append (minus_words (int_lt q.num (pos 0))) (digits (nat_abs q.num) ∷ divisor_words q.den)
    (quiet_if (int_lt q.num (pos 0)) negative tt)
    (tt, quiet_unless (q.den == 1) (sign mark.Slash) (digits q.den) tt tt)

quiet_lead : (first minus : Bool) → Quiet (lead first minus)
quiet_lead true minus = quiet_if minus negative tt
quiet_lead false true = (tt, tt)
quiet_lead false false = (tt, tt)

quiet_times : (first : Bool) → Quiet (times first)
quiet_times true = tt
quiet_times false = (tt, tt)

quiet_comma : (first : Bool) → Quiet (comma first)
quiet_comma true = tt
quiet_comma false = (tt, tt)

quiet_enclosed : (b : Bool) (ws : List Written) → Quiet ws → Quiet (enclosed b ws)
quiet_enclosed b ws h =
    quiet_append (paren b mark.Open) (ws ++ paren b mark.Close) (quiet_if b (sign mark.Open) tt)
    (quiet_append ws (paren b mark.Close) h (quiet_if b (sign mark.Close) tt))

quiet_listed : {A : Type 0} (words : A → List Written) → ((x : A) → Quiet (words x)) → (first : Bool) (xs : List A)
    → Quiet (listed words first xs)
quiet_listed words each first [] = tt
quiet_listed words each first (x ∷ xs) =
    quiet_append (comma first) (words x ++ listed words false xs) (quiet_comma first)
    (quiet_append (words x) (listed words false xs) (each x) (quiet_listed words each false xs))

quiet_relation : (r : model.Relation) → IsNotOver (relation_word r)
quiet_relation model.at_most = tt
quiet_relation model.at_least = tt
quiet_relation model.equal = tt

quiet_goal : (s : model.Sense) → IsNotOver (goal_word s)
quiet_goal model.minimise = tt
quiet_goal model.maximise = tt

quiet_bounds : (l u : Option Fraction) → Quiet (bound_words l u)
quiet_bounds None None = tt
quiet_bounds (Some l) None = (tt, quiet_number l)
quiet_bounds None (Some u) = (tt, quiet_number u)
quiet_bounds (Some l) (Some u) =
    let behind = quiet_append (number_words u) (sign mark.CloseBracket ∷ []) (quiet_number u) (tt, tt) in (
      tt,
      (
        tt,
        quiet_append (number_words l) (sign mark.Comma ∷ (number_words u ++ sign mark.CloseBracket ∷ []))
            (quiet_number l) (tt, behind),
      ),
    )

module _ (names : Naming) where
  mutual
    quiet_expression : (e : Expression) → Quiet (expression_words names e)
    quiet_expression (number q) = quiet_number q
    quiet_expression (parameter k) = (tt, tt)
    quiet_expression (variable k) = (tt, tt)
    quiet_expression (adaptive y) = (tt, tt)
    quiet_expression (adaptive_in y S) = (tt, tt)
    quiet_expression (sum ts) = quiet_terms true ts
    quiet_expression (product fs) = quiet_factors true fs

    quiet_terms : (first : Bool) (ts : Terms) → Quiet (term_words names first ts)
    quiet_terms first no_terms = tt
    quiet_terms first (term minus e ts) =
        quiet_append (lead first minus) (enclosed (is_sum e) (expression_words names e) ++ term_words names false ts)
        (quiet_lead first minus)
        (quiet_append (enclosed (is_sum e) (expression_words names e)) (term_words names false ts)
        (quiet_enclosed (is_sum e) (expression_words names e) (quiet_expression e)) (quiet_terms false ts))

    quiet_factors : (first : Bool) (fs : Factors) → Quiet (factor_words names first fs)
    quiet_factors first no_factors = tt
    quiet_factors first (factor e fs) =
        quiet_append (times first)
        (enclosed (is_compound e) (expression_words names e) ++ factor_words names false fs) (quiet_times first)
        (quiet_append (enclosed (is_compound e) (expression_words names e)) (factor_words names false fs)
        (quiet_enclosed (is_compound e) (expression_words names e) (quiet_expression e)) (quiet_factors false fs))

  quiet_sides : (l : Expression) (r : model.Relation) (x : Expression) → Quiet (comparison_words names l r x)
  quiet_sides l r x =
      quiet_append (expression_words names l) (relation_word r ∷ expression_words names x) (quiet_expression l)
      (quiet_relation r, quiet_expression x)

  quiet_member : (h : Member) → Quiet (member_words names h)
  quiet_member h =
      let spread =
      quiet_append (number_words h.centre) (keyword word.By ∷ number_words h.deviation) (quiet_number h.centre)
      (tt, quiet_number h.deviation) in
      (tt, (tt, spread))

  quiet_set : (c : SetLine) → Quiet (set_words names c)
  quiet_set (line l r x) = (tt, quiet_sides l r x)
  quiet_set (budget limit hs) = (
    tt,
    quiet_append (number_words limit) (sign mark.Colon ∷ listed (member_words names) true hs)
        (quiet_number limit) (tt, quiet_listed (member_words names) quiet_member true hs),
  )

  quiet_adaptive : (y : AdaptiveVariable) → Quiet (adaptive_words names y)
  quiet_adaptive y =
      let on = quiet_listed (λ k. name_at names.parameters k ∷ []) (λ k. (tt, tt)) true y.on in
      let rest = quiet_append (listed (λ k. name_at names.parameters k ∷ []) true y.on)
      (sign mark.Close ∷ bound_words y.lower y.upper) on (tt, quiet_bounds y.lower y.upper) in
      (tt, (tt, (tt, rest)))

  quiet_row : (r : Row) → Quiet (row_words names r)
  quiet_row r = (tt, (tt, (tt, quiet_sides r.left r.relation r.right)))

quiet_map : {A : Type 0} (words : A → List Written) → ((x : A) → Quiet (words x)) → (xs : List A)
    → Each Quiet (map words xs)
quiet_map words each [] = tt
quiet_map words each (x ∷ xs) = (each x, quiet_map words each xs)

pub lines_are_quiet : (m : RobustModel) → Each (Each IsNotOver) (lines_alone m)
lines_are_quiet m =
    let n = naming_alone m in
    each_append Quiet _ _ (quiet_map parameter_words (λ p. (tt, (tt, quiet_bounds p.lower p.upper))) m.parameters)
    (each_append Quiet _ _ (quiet_map (set_words n) (quiet_set n) m.set_lines)
    (each_append Quiet _ _ (quiet_map variable_words (λ x. (tt, (tt, quiet_bounds x.lower x.upper))) m.variables)
    (each_append Quiet _ _ (quiet_map (adaptive_words n) (quiet_adaptive n) m.adaptives)
    ((quiet_goal m.sense, quiet_expression n m.objective), quiet_map (row_words n) (quiet_row n) m.rows))))
