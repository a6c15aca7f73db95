-- The canonical line of a statement opens no more parentheses at once than rob_index says.
use Rattle.std.proofs.Common.{◌≡◌, ℕ, zero, suc, ◌+◌, ◌≤◌, max, Bool, true, false, List, [], ◌∷◌, ◌++◌, map, refl, subst, arith}
use Rattle.std.specs.Prelude.{◌==◌, int_lt, pos, if◌then◌else◌, Option, Some, None}
use Rattle.rob_algebra.specs.Fraction.{Fraction}
use Rattle.rob_index.specs.Counting as counted
use Rattle.rob_index.specs.Depths.{depth, factors_depth, line_depth, one_if, parts_depth}
use Rattle.rob_lex.specs.Offences.{most_open}
use Rattle.rob_meaning.specs.Expressions as meaning
use Rattle.rob_parse.specs.Written.{expression, factors, fraction, lower_bound, member, named, parameter_at, relation_of, sense_of, signed_fraction, terms, upper_bound}
use Rattle.rob_parse.specs.Models.{set_at}
use Rattle.rob_round_trip.proofs.Lengths.CountedLines.{same_compound, same_sum}
use Rattle.rob_round_trip.proofs.Lengths.LowWords.{IsLow, low_both, low_enclosed, low_flat, low_more, low_next, low_parens}
use Rattle.rob_round_trip.proofs.Lengths.DepthSteps.{step_of_word, stays, words_shallow}
use Rattle.rob_round_trip.specs.Lines.{AreReadable, AreReadableSides, canonical_line}
use Rattle.rob_round_trip.specs.Pages.{IsShallow}
use Rattle.rob_round_trip.specs.Readable.{FactorsReadable, IsReadable, TermsReadable}
use Rattle.rob_round_trip.specs.Shown.{shown, shown_factors, shown_parts, shown_tree}
use Rattle.rob_rules.specs.Degrees.{sort_at}
use Rattle.rob_rules.specs.declared.sort.Sort.{Sort}
use Rattle.rob_rules.specs.declared.sort.Sort.TheVariants as sort
use Rattle.rob_rules.specs.declared.sort.Sort.TheVariants.{Decision, Parameter, Policy, RowName}
use Rattle.rob_syntax.specs.Trees.{Operands, Summands, Tree, name, no_operands, no_summands, number, operand, product, sum, summand, tree_of}
use Rattle.rob_syntax.specs.declared.symbol.Mark.TheVariants as mark
use Rattle.rob_syntax.specs.declared.syntax.Member.{Member}
use Rattle.rob_syntax.specs.declared.syntax.Rel.{Rel}
use Rattle.rob_syntax.specs.declared.syntax.Rel.TheVariants as rel
use Rattle.rob_syntax.specs.declared.syntax.Relation.{Relation}
use Rattle.rob_syntax.specs.declared.syntax.Sense.{Sense}
use Rattle.rob_syntax.specs.declared.syntax.Sense.TheVariants as sense
use Rattle.rob_syntax.specs.declared.syntax.Statement.{Statement}
use Rattle.rob_syntax.specs.declared.syntax.Statement.TheVariants as parsed
use Rattle.rob_write.specs.Pages.{Written, digits, negative, sign}
use Rattle.rob_write.specs.ExpressionWords.{Naming, comma, divisor_words, enclosed, expression_words, factor_words, is_compound, is_sum, lead, listed, minus_words, name_at, number_words, term_words, times}
use Rattle.rob_write.specs.StatementWords.{bound_words, comparison_words, goal_word, member_words, over_words, relation_word}

-- ---- parts without parentheses
low_minus : (b : Bool) → IsLow (minus_words b) 0
low_minus true = low_flat (negative ∷ []) (refl, tt)
low_minus false = low_flat [] tt

low_divisor : (den : ℕ) → IsLow (divisor_words den) 0
low_divisor den = go (den == 1)
  where
    go : (b : Bool) → IsLow (if b then [] else (sign mark.Slash ∷ (digits den ∷ []))) 0
    go true = low_flat [] tt
    go false = low_flat (sign mark.Slash ∷ (digits den ∷ [])) (refl, (refl, tt))

low_number : (q : Fraction) → IsLow (number_words q) 0
low_number q = low_both (low_minus (int_lt q.num (pos 0))) (low_next (digits _) refl (low_divisor q.den))

low_bounds : (l u : Option Fraction) → IsLow (bound_words l u) 0
low_bounds None None = low_flat [] tt
low_bounds (Some l) None = low_next _ refl (low_number l)
low_bounds None (Some u) = low_next _ refl (low_number u)
low_bounds (Some l) (Some u) =
    low_next _ refl
    (low_next _ refl
    (low_both (low_number l)
    (low_next _ refl (low_both (low_number u) (low_flat (sign mark.CloseBracket ∷ []) (refl, tt))))))

low_lead : (first minus : Bool) → IsLow (lead first minus) 0
low_lead true minus = low_minus minus
low_lead false true = low_flat (sign mark.Minus ∷ []) (refl, tt)
low_lead false false = low_flat (sign mark.Plus ∷ []) (refl, tt)

low_times : (first : Bool) → IsLow (times first) 0
low_times true = low_flat [] tt
low_times false = low_flat (sign mark.Star ∷ []) (refl, tt)

low_comma : (first : Bool) → IsLow (comma first) 0
low_comma true = low_flat [] tt
low_comma false = low_flat (sign mark.Comma ∷ []) (refl, tt)

low_listed : {A : Type 0} (write : A → List Written) → ((x : A) → IsLow (write x) 0) → (first : Bool) (xs : List A)
    → IsLow (listed write first xs) 0
low_listed write h first [] = low_flat [] tt
low_listed write h first (x ∷ xs) = low_both (low_comma first) (low_both (h x) (low_listed write h false xs))

low_over : (sets : List (List ℕ)) (S : ℕ) → IsLow (over_words sets S) 0
low_over sets zero = low_flat [] tt
low_over sets (suc S) = low_flat _ (refl, (refl, tt))

rel_stays : (r : Rel) → step_of_word (relation_word (relation_of r)) ≡ stays
rel_stays rel.AtMost = refl
rel_stays rel.AtLeast = refl
rel_stays rel.Equal = refl

sense_stays : (s : Sense) → step_of_word (goal_word (sense_of s)) ≡ stays
sense_stays sense.Minimise = refl
sense_stays sense.Maximise = refl

-- ---- expressions
module _ (limit : ℕ) (words : List (List ℕ)) (sorts : List (Option Sort)) (names : Naming) where
  abbrev meant : Tree → meaning.Expression
  meant t = expression sorts t

  low_named : (o : Option Sort) → IsReadable limit names (named o) → IsLow (expression_words names (named o)) 0
  low_named (Some (Parameter j)) r = low_flat _ (refl, tt)
  low_named (Some (Decision j)) r = low_flat _ (refl, tt)
  low_named (Some (Policy j depends)) r = low_flat _ (refl, tt)
  low_named (Some RowName) r = absurd r.0
  low_named (Some (sort.Set S)) r = absurd r.0
  low_named None r = absurd r.0

  low_part : (b c : Bool) (ws : List Written) (n : ℕ) → b ≡ c → IsLow ws n → IsLow (enclosed b ws) (one_if c + n)
  low_part b c ws n same low = subst (λ (x : Bool). IsLow (enclosed b ws) (one_if x + n)) same (low_enclosed b low)

  mutual
    low_tree : (t : Tree) → IsReadable limit names (meant t)
        → IsLow (expression_words names (meant t)) (depth (shown_tree words t))
    low_tree (number n) r = low_number (fraction n)
    low_tree (name k) r = low_named (sort_at sorts k) r
    low_tree (sum ts) r = low_terms true ts r.1
    low_tree (product fs) r = low_factors true fs r.1

    low_terms : (first : Bool) (ts : Summands) → TermsReadable limit names (terms sorts ts)
        → IsLow (term_words names first (terms sorts ts)) (parts_depth (shown_parts words ts))
    low_terms first no_summands r = low_flat [] tt
    low_terms first (summand minus t ts) r =
        low_more (omega arith)
        (low_both (low_lead first minus)
        (low_both
        (low_part (is_sum (meant t)) (counted.is_sum 0 (shown_tree words t)) (expression_words names (meant t))
        (depth (shown_tree words t))
        (same_sum limit words sorts names t r.0) (low_tree t r.0))
        (low_terms false ts r.1)))

    low_factors : (first : Bool) (fs : Operands) → FactorsReadable limit names (factors sorts fs)
        → IsLow (factor_words names first (factors sorts fs)) (factors_depth (shown_factors words fs))
    low_factors first no_operands r = low_flat [] tt
    low_factors first (operand t fs) r =
        low_more (omega arith)
        (low_both (low_times first)
        (low_both
        (low_part (is_compound (meant t)) (counted.is_compound 0 (shown_tree words t))
        (expression_words names (meant t)) (depth (shown_tree words t))
        (same_compound limit words sorts names t r.0) (low_tree t r.0))
        (low_factors false fs r.1)))

  -- ---- statements
  low_member : (m : Member) → IsLow (member_words names (member sorts m)) 0
  low_member m =
      low_next _ refl
      (low_next _ refl
      (low_both (low_number (signed_fraction m.spread.centre))
      (low_next _ refl (low_number (fraction m.spread.deviation)))))

  low_members : (ms : List Member) (first : Bool) → IsLow (listed (member_words names) first (map (member sorts) ms)) 0
  low_members [] first = low_flat [] tt
  low_members (m ∷ ms) first = low_both (low_comma first) (low_both (low_member m) (low_members ms false))

  low_sides : (r : Relation) → AreReadableSides limit sorts names r
      → IsLow
      (comparison_words names (meant (tree_of r.left)) (relation_of r.rel) (meant (tree_of r.right))
      ++ over_words names.sets (set_at sorts r.over))
      (max (depth (shown_tree words (tree_of r.left))) (depth (shown_tree words (tree_of r.right))))
  low_sides r h =
      low_more (omega arith)
      (low_both (low_both (low_tree (tree_of r.left) h.0)
      (low_next _ (rel_stays r.rel) (low_tree (tree_of r.right) h.1)))
      (low_over names.sets (set_at sorts r.over)))

  pub low_line : (s : Statement) → AreReadable limit sorts names s
      → IsLow (canonical_line words sorts names s) (line_depth (shown words s))
  low_line (parsed.Uncertain d) r =
      low_next _ refl (low_next _ refl (low_bounds (lower_bound d.bounds) (upper_bound d.bounds)))
  low_line (parsed.Over k) r = low_flat _ (refl, (refl, tt))
  low_line (parsed.Set s) r = low_next _ refl (low_sides s r)
  low_line (parsed.Budget b) r =
      low_both
      (low_next _ refl (low_both (low_number (fraction b.limit)) (low_next _ refl (low_members b.members true))))
      (low_over names.sets (set_at sorts b.over))
  low_line (parsed.Var d) r =
      low_next _ refl (low_next _ refl (low_bounds (lower_bound d.bounds) (upper_bound d.bounds)))
  low_line (parsed.Adaptive p) r =
      low_next _ refl
      (low_next _ refl
      (low_parens
      (low_listed (λ k. name_at names.parameters k ∷ []) (λ k. low_flat _ (refl, tt)) true
      (map (parameter_at sorts) p.on))
      (low_bounds (lower_bound p.bounds) (upper_bound p.bounds))))
  low_line (parsed.Goal g) r =
      low_next _ (sense_stays g.sense)
      (low_more (omega arith) (low_both (low_tree (tree_of g.objective) r) (low_over names.sets (set_at sorts g.over))))
  low_line (parsed.Row t) r = low_next _ refl (low_next _ refl (low_next _ refl (low_sides t.relation r)))

  -- where rob_index says that few are open, the canonical line is shallow
  pub line_shallow : (s : Statement) → AreReadable limit sorts names s → line_depth (shown words s) ≤ most_open
      → IsShallow 0 (canonical_line words sorts names s)
  line_shallow s r few =
      words_shallow 0 (canonical_line words sorts names s) ((low_line s r).shallow 0 (omega (arith, few)))
