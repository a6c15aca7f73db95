-- The canonical line of a statement has as many tokens as rob_index counts for it, its line end among them.
use Rattle.std.proofs.Common.{◌≡◌, ℕ, zero, suc, ◌+◌, ◌<◌, Bool, true, false, List, [], ◌∷◌, ◌++◌, length, map, refl, ap, ◌∙◌, arith, length-append}
use Rattle.std.specs.Prelude.{Option, Some, None, if◌then◌else◌}
use Rattle.std.specs.Option.{option_map}
use Rattle.rob_index.specs.Counting.{bounds_tokens, factors_tokens, line_tokens, lines_tokens, member_tokens, members_tokens, names_tokens, over_tokens, parts_tokens, plain_tokens}
use Rattle.rob_index.specs.Counting as counted
use Rattle.rob_meaning.specs.Expressions as meaning
use Rattle.rob_meaning.specs.Places.{Each}
use Rattle.rob_parse.specs.Building.{FitsBounds, FitsMember, FitsOperands, FitsRelation, FitsStatement, FitsSummands, FitsTree}
use Rattle.rob_parse.specs.Modelled.{EndsInSet, IsOfSet}
use Rattle.rob_parse.specs.Written.{expression, factors, fraction, lower_bound, member, named, parameter_at, relation_of, signed_fraction, terms, upper_bound, word_of}
use Rattle.rob_parse.specs.Models.{set_at, set_number}
use Rattle.rob_round_trip.proofs.Lengths.CountedNumbers.{number_counted, signed_counted}
use Rattle.rob_round_trip.specs.Lines.{AreReadable, AreReadableSides, CountsSetsFromOne, canonical_line}
use Rattle.rob_round_trip.specs.Pages.{ended}
use Rattle.rob_round_trip.specs.Readable.{FactorsReadable, IsReadable, TermsReadable}
use Rattle.rob_round_trip.specs.Shown.{shown, shown_factors, shown_member, shown_over, shown_parts, shown_tree}
use Rattle.rob_rules.specs.Degrees.{sort_at}
use Rattle.rob_rules.specs.declared.sort.Sort.{Sort}
use Rattle.rob_rules.specs.declared.sort.Sort.TheVariants as sort
use Rattle.rob_rules.specs.declared.sort.Sort.TheVariants.{Decision, Parameter, Policy, RowName}
use Rattle.rob_syntax.specs.Seen.{seen_bounds}
use Rattle.rob_syntax.specs.Trees.{Operands, Summands, Tree, name, no_operands, no_summands, number, operand, product, sum, summand, tree_of}
use Rattle.rob_syntax.specs.declared.symbol.Keyword.TheVariants as word
use Rattle.rob_syntax.specs.declared.symbol.Mark.TheVariants as mark
use Rattle.rob_syntax.specs.declared.syntax.Bounds.{Bounds}
use Rattle.rob_syntax.specs.declared.syntax.Bounds.TheVariants.{AtLeast, AtMost, Between}
use Rattle.rob_syntax.specs.declared.syntax.Member.{Member}
use Rattle.rob_syntax.specs.declared.syntax.Relation.{Relation}
use Rattle.rob_syntax.specs.declared.syntax.Statement.{Statement}
use Rattle.rob_syntax.specs.declared.syntax.Statement.TheVariants as parsed
use Rattle.rob_write.specs.Pages.{Written, keyword, line_end, sign}
use Rattle.rob_write.specs.ExpressionWords.{Naming, comma, enclosed, expression_words, factor_words, is_compound, is_sum, lead, listed, name_at, number_words, term_words, times}
use Rattle.rob_write.specs.StatementWords.{bound_words, comparison_words, member_words, over_words, relation_word}

-- ---- parts of expressions
enclosed_length : (b : Bool) (ws : List Written) → length (enclosed b ws) ≡ (if b then 2 else 0) + length ws
enclosed_length true ws = omega (arith, length-append ws (sign mark.Close ∷ []))
enclosed_length false ws = omega (arith, length-append ws [])

module _ (limit : ℕ) where
  lead_length : (first minus : Bool) → length (lead first minus) ≡ counted.lead limit first minus
  lead_length true true = refl
  lead_length true false = refl
  lead_length false true = refl
  lead_length false false = refl

  times_length : (first : Bool) → length (times first) ≡ counted.star limit first
  times_length true = refl
  times_length false = refl

  comma_length : (first : Bool) → length (comma first) ≡ counted.star limit first
  comma_length true = refl
  comma_length false = refl

  bounds_counted : (b : Option Bounds) → FitsBounds limit b
      → length (bound_words (lower_bound b) (upper_bound b)) ≡ bounds_tokens limit (option_map seen_bounds b)
  bounds_counted None h = refl
  bounds_counted (Some (AtLeast a)) h = omega (arith, signed_counted limit a h)
  bounds_counted (Some (AtMost b)) h = omega (arith, signed_counted limit b h)
  bounds_counted (Some (Between both)) h =
      let lower = number_words (signed_fraction both.lower) in
      let upper = number_words (signed_fraction both.upper) in
      omega (
        arith,
        signed_counted limit both.lower h.0,
        signed_counted limit both.upper h.1,
        length-append lower (sign mark.Comma ∷ (upper ++ sign mark.CloseBracket ∷ [])),
        length-append upper (sign mark.CloseBracket ∷ []),
      )

module _ (limit : ℕ) (words : List (List ℕ)) (sorts : List (Option Sort)) (names : Naming) where
  -- the expression that a tree is
  abbrev meant : Tree → meaning.Expression
  meant t = expression sorts t

  -- what a name stands for is one word
  named_counted : (o : Option Sort) → IsReadable limit names (named o) → length (expression_words names (named o)) ≡ 1
  named_counted (Some (Parameter j)) r = refl
  named_counted (Some (Decision j)) r = refl
  named_counted (Some (Policy j depends)) r = refl
  named_counted (Some RowName) r = absurd r.0
  named_counted (Some (sort.Set S)) r = absurd r.0
  named_counted None r = absurd r.0

  named_simple : (o : Option Sort) → IsReadable limit names (named o) → (is_sum (named o) ≡ false)
      × (is_compound (named o) ≡ false)
  named_simple (Some (Parameter j)) r = (refl, refl)
  named_simple (Some (Decision j)) r = (refl, refl)
  named_simple (Some (Policy j depends)) r = (refl, refl)
  named_simple (Some RowName) r = absurd r.0
  named_simple (Some (sort.Set S)) r = absurd r.0
  named_simple None r = absurd r.0

  -- a sum is one on both sides, and so is what is compound
  pub same_sum : (t : Tree) → IsReadable limit names (meant t)
      → is_sum (meant t) ≡ counted.is_sum limit (shown_tree words t)
  same_sum (number n) r = refl
  same_sum (name k) r = (named_simple (sort_at sorts k) r).0
  same_sum (sum ts) r = refl
  same_sum (product fs) r = refl

  pub same_compound : (t : Tree) → IsReadable limit names (meant t)
      → is_compound (meant t) ≡ counted.is_compound limit (shown_tree words t)
  same_compound (number n) r = refl
  same_compound (name k) r = (named_simple (sort_at sorts k) r).1
  same_compound (sum ts) r = refl
  same_compound (product fs) r = refl

  enclosed_counted : (b c : Bool) (ws : List Written) (n : ℕ) → b ≡ c → length ws ≡ n
      → length (enclosed b ws) ≡ counted.parens limit c + n
  enclosed_counted b c ws n same e =
      enclosed_length b ws ∙ (λ i. (if same i then 2 else 0) + e i)

  mutual
    pub tree_counted : (t : Tree) → FitsTree limit t → IsReadable limit names (meant t)
        → length (expression_words names (meant t)) ≡ plain_tokens limit (shown_tree words t)
    tree_counted (number n) h r = number_counted limit n h
    tree_counted (name k) h r = named_counted (sort_at sorts k) r
    tree_counted (sum ts) h r = parts_counted true ts h r.1
    tree_counted (product fs) h r = factors_counted true fs h r.1

    parts_counted : (first : Bool) (ts : Summands) → FitsSummands limit ts → TermsReadable limit names (terms sorts ts)
        → length (term_words names first (terms sorts ts)) ≡ parts_tokens limit first (shown_parts words ts)
    parts_counted first no_summands h r = refl
    parts_counted first (summand minus t ts) h r =
        let part = enclosed (is_sum (meant t)) (expression_words names (meant t)) in
        let rest = term_words names false (terms sorts ts) in
        omega (
          arith,
          length-append (lead first minus) (part ++ rest),
          length-append part rest,
          lead_length limit first minus,
          enclosed_counted (is_sum (meant t)) (counted.is_sum limit (shown_tree words t))
              (expression_words names (meant t))
              (plain_tokens limit (shown_tree words t)) (same_sum t r.0) (tree_counted t h.0 r.0),
          parts_counted false ts h.1 r.1,
        )

    factors_counted : (first : Bool) (fs : Operands) → FitsOperands limit fs
        → FactorsReadable limit names (factors sorts fs)
        → length (factor_words names first (factors sorts fs)) ≡ factors_tokens limit first (shown_factors words fs)
    factors_counted first no_operands h r = refl
    factors_counted first (operand t fs) h r =
        let part = enclosed (is_compound (meant t)) (expression_words names (meant t)) in
        let rest = factor_words names false (factors sorts fs) in
        omega (
          arith,
          length-append (times first) (part ++ rest),
          length-append part rest,
          times_length limit first,
          enclosed_counted (is_compound (meant t)) (counted.is_compound limit (shown_tree words t))
              (expression_words names (meant t))
              (plain_tokens limit (shown_tree words t)) (same_compound t r.0) (tree_counted t h.0 r.0),
          factors_counted false fs h.1 r.1,
        )

  -- ---- parts of statements
  member_counted : (m : Member) → FitsMember limit m
      → length (member_words names (member sorts m)) ≡ member_tokens limit (shown_member words m)
  member_counted m h =
      let centre = number_words (signed_fraction m.spread.centre) in
      omega (
        arith,
        length-append centre (keyword word.By ∷ number_words (fraction m.spread.deviation)),
        signed_counted limit m.spread.centre h.0,
        number_counted limit m.spread.deviation h.1,
      )

  members_counted : (first : Bool) (ms : List Member) → Each (FitsMember limit) ms
      → length (listed (member_words names) first (map (member sorts) ms))
      ≡ members_tokens limit first (map (shown_member words) ms)
  members_counted first [] h = refl
  members_counted first (m ∷ ms) h =
      let one = member_words names (member sorts m) in
      let rest = listed (member_words names) false (map (member sorts) ms) in
      omega (
        arith,
        length-append (comma first) (one ++ rest),
        length-append one rest,
        comma_length limit first,
        member_counted m h.0,
        members_counted false ms h.1,
      )

  abbrev write_name : ℕ → List Written
  write_name k = name_at names.parameters k ∷ []

  names_counted : (first : Bool) (on : List ℕ)
      → length (listed write_name first (map (parameter_at sorts) on))
      ≡ names_tokens limit first (map (word_of words) on)
  names_counted first [] = refl
  names_counted first (k ∷ on) =
      let rest = listed write_name false (map (parameter_at sorts) on) in
      omega (
        arith,
        length-append (comma first) (write_name (parameter_at sorts k) ++ rest),
        comma_length limit first,
        names_counted false on,
      )

  -- ---- statements, where named sets are counted from 1
  module _ (named_set : CountsSetsFromOne sorts) where
    over_counted : (o : Option ℕ) → IsOfSet sorts o
        → length (over_words names.sets (set_at sorts o)) ≡ over_tokens limit (shown_over words o)
    over_counted None h = refl
    over_counted (Some k) h =
        ap (λ (x : Option Sort). length (over_words names.sets (set_number x))) h.1 ∙ some h.0 (named_set k h.0 h.1)
      where
        some : (S : ℕ) → 0 < S → length (over_words names.sets S) ≡ 2
        some zero h = absurd (omega arith)
        some (suc S) h = refl

    -- a comparison and what ends its line
    abbrev sides : Relation → List Written
    sides r = comparison_words names (meant (tree_of r.left)) (relation_of r.rel) (meant (tree_of r.right))

    abbrev sides_tokens : Relation → ℕ
    sides_tokens r =
        plain_tokens limit (shown_tree words (tree_of r.left))
        + (plain_tokens limit (shown_tree words (tree_of r.right)) + over_tokens limit (shown_over words r.over))

    sides_counted : (r : Relation) → FitsRelation limit r → AreReadableSides limit sorts names r → IsOfSet sorts r.over
        → length (sides r ++ over_words names.sets (set_at sorts r.over)) ≡ 1 + sides_tokens r
    sides_counted r h k o =
        let left = expression_words names (meant (tree_of r.left)) in
        let right = expression_words names (meant (tree_of r.right)) in
        omega (
          arith,
          length-append (sides r) (over_words names.sets (set_at sorts r.over)),
          length-append left (relation_word (relation_of r.rel) ∷ right),
          tree_counted (tree_of r.left) h.0 k.0,
          tree_counted (tree_of r.right) h.1 k.1,
          over_counted r.over o,
        )

    -- the canonical line of a statement, and its line end
    pub line_counted : (s : Statement) → FitsStatement limit s → AreReadable limit sorts names s → EndsInSet sorts s
        → length (canonical_line words sorts names s) + 1 ≡ line_tokens limit (shown words s)
    line_counted (parsed.Uncertain d) h r o = omega (arith, bounds_counted limit d.bounds h)
    line_counted (parsed.Over k) h r o = refl
    line_counted (parsed.Set s) h r o = omega (arith, sides_counted s h r o)
    line_counted (parsed.Budget b) h r o =
        let bound = number_words (fraction b.limit) in
        let members = listed (member_words names) true (map (member sorts) b.members) in
        let over = over_words names.sets (set_at sorts b.over) in
        omega (
          arith,
          length-append (bound ++ sign mark.Colon ∷ members) over,
          length-append bound (sign mark.Colon ∷ members),
          number_counted limit b.limit h.0,
          members_counted true b.members h.1,
          over_counted b.over o,
        )
    line_counted (parsed.Var d) h r o = omega (arith, bounds_counted limit d.bounds h)
    line_counted (parsed.Adaptive p) h r o =
        let on = listed write_name true (map (parameter_at sorts) p.on) in
        let bounds = bound_words (lower_bound p.bounds) (upper_bound p.bounds) in
        omega (
          arith,
          length-append on (sign mark.Close ∷ bounds),
          names_counted true p.on,
          bounds_counted limit p.bounds h,
        )
    line_counted (parsed.Goal g) h r o =
        let goal = expression_words names (meant (tree_of g.objective)) in
        omega (
          arith,
          length-append goal (over_words names.sets (set_at sorts g.over)),
          tree_counted (tree_of g.objective) h r,
          over_counted g.over o,
        )
    line_counted (parsed.Row t) h r o = omega (arith, sides_counted t.relation h r o)

    -- all lines
    pub lines_counted : (list : List Statement) → Each (FitsStatement limit) list
        → Each (AreReadable limit sorts names) list → Each (EndsInSet sorts) list
        → length (ended (map (canonical_line words sorts names) list)) ≡ lines_tokens limit (map (shown words) list)
    lines_counted [] h r o = refl
    lines_counted (s ∷ list) h r o =
        let more = ended (map (canonical_line words sorts names) list) in
        omega (
          arith,
          length-append (canonical_line words sorts names s) (line_end ∷ more),
          line_counted s h.0 r.0 o.0,
          lines_counted list h.1 r.1 o.1,
        )
