-- What holds of the names of a line holds of the refs of its statement.
use Rattle.std.proofs.Common.{ℕ, true, false, List, [], ◌∷◌, ◌++◌, subst}
use Rattle.std.specs.Prelude.{Option, Some, None}
use Rattle.rob_algebra.specs.Items.{Each}
use Rattle.rob_index.specs.Symbols.{Symbol, sign, word}
use Rattle.rob_index.specs.Symbols as is
use Rattle.rob_index.specs.Statements.{Ref, Ranged, Share, Sides, Indexed, uncertain, over, set, budget, variable, adaptive, goal, row, Tree}
use Rattle.rob_index.specs.Grammar.{Factor, Factors, Term, Terms, Expr, number, ref, parens, sum, no_factors, times, term, no_terms, signed, expr, spell_bounds, spell_expr, spell_factor, spell_factors, spell_list, spell_more, spell_number, spell_over, spell_range, spell_ranges, spell_ref, spell_signed, spell_term, spell_terms, tree_expr, tree_factor, tree_factors, tree_term, tree_terms}
use Rattle.rob_index.specs.Lines.{IsStatement, spell_line, spell_ranged, spell_rel, spell_share, spell_sides, statement_of, trees_of}
use Rattle.rob_index.specs.Reading.{Version, one, two, IsOf}
use Rattle.rob_index.specs.Refs.{EachFactorRef, EachPartRef, EachRef, EachRefOf, EachSideRef, IfName, IfThere}

module _ (P : ℕ → Type 0) where
  -- it holds of each name among the symbols
  abbrev Fine : List Symbol → Type 0
  Fine xs = Each (IfName P) xs

  abbrev Named : Ref → Type 0
  Named r = P r.name

  front : (xs ys : List Symbol) → Fine (xs ++ ys) → Fine xs
  front [] ys h = tt
  front (x ∷ xs) ys h = (h.0, front xs ys h.1)

  back : (xs ys : List Symbol) → Fine (xs ++ ys) → Fine ys
  back [] ys h = h
  back (x ∷ xs) ys h = back xs ys h.1

  mutual
    factor_refs : (f : Factor) → Fine (spell_factor f) → EachRef Named (tree_factor f)
    factor_refs (number n) h = tt
    factor_refs (ref r) h = h.0
    factor_refs (parens e) h = expr_refs e (front (spell_expr e) (sign is.closing ∷ []) h.1)
    factor_refs (sum r e) h =
        expr_refs e
        (front (spell_expr e) (sign is.closing ∷ [])
        (back (spell_range r) (sign is.colon ∷ (spell_expr e ++ sign is.closing ∷ [])) h.1.1).1)

    factors_refs : (fs : Factors) → Fine (spell_factors fs) → EachFactorRef Named (tree_factors fs)
    factors_refs no_factors h = tt
    factors_refs (times f fs) h = (
      factor_refs f (front (spell_factor f) (spell_factors fs) h.1),
      factors_refs fs (back (spell_factor f) (spell_factors fs) h.1),
    )

    term_refs : (t : Term) → Fine (spell_term t) → EachRef Named (tree_term t)
    term_refs (term f no_factors) h = factor_refs f (front (spell_factor f) [] h)
    term_refs (term f (times g fs)) h =
        let more = back (spell_factor f) (spell_factors (times g fs)) h in (
          factor_refs f (front (spell_factor f) (spell_factors (times g fs)) h),
          (
            factor_refs g (front (spell_factor g) (spell_factors fs) more.1),
            factors_refs fs (back (spell_factor g) (spell_factors fs) more.1),
          ),
        )

    terms_refs : (ts : Terms) → Fine (spell_terms ts) → EachPartRef Named (tree_terms ts)
    terms_refs no_terms h = tt
    terms_refs (signed m t ts) h = (
      term_refs t (front (spell_term t) (spell_terms ts) h.1),
      terms_refs ts (back (spell_term t) (spell_terms ts) h.1),
    )

    expr_refs : (e : Expr) → Fine (spell_expr e) → EachRef Named (tree_expr e)
    expr_refs (expr false t no_terms) h = term_refs t (front (spell_term t) [] h)
    expr_refs (expr true t ts) h = (
      term_refs t (front (spell_term t) (spell_terms ts) h.1),
      terms_refs ts (back (spell_term t) (spell_terms ts) h.1),
    )
    expr_refs (expr false t (signed m u us)) h = (
      term_refs t (front (spell_term t) (spell_terms (signed m u us)) h),
      terms_refs (signed m u us) (back (spell_term t) (spell_terms (signed m u us)) h),
    )

  over_refs : (o : Option Ref) → Fine (spell_over o) → IfThere Named o
  over_refs None h = tt
  over_refs (Some r) h = h.1.0

  -- items with commas between them, each with its ranges
  more_refs : {A : Type 0} (spell : A → List Symbol) (name : A → Ref) → ((x : A) → Fine (spell x) → Named (name x))
      → (xs : List (Ranged A)) → Fine (spell_more (spell_ranged spell) xs) → Each (λ x. Named (name x.item)) xs
  more_refs spell name to [] h = tt
  more_refs spell name to (x ∷ xs) h =
      let first = front (spell_ranged spell x) (spell_more (spell_ranged spell) xs) h.1 in (
        to x.item (front (spell x.item) (spell_ranges x.ranges) first),
        more_refs spell name to xs (back (spell_ranged spell x) (spell_more (spell_ranged spell) xs) h.1),
      )

  list_refs : {A : Type 0} (spell : A → List Symbol) (name : A → Ref) → ((x : A) → Fine (spell x) → Named (name x))
      → (xs : List (Ranged A)) → Fine (spell_list (spell_ranged spell) xs) → Each (λ x. Named (name x.item)) xs
  list_refs spell name to [] h = tt
  list_refs spell name to (x ∷ xs) h =
      let first = front (spell_ranged spell x) (spell_more (spell_ranged spell) xs) h in (
        to x.item (front (spell x.item) (spell_ranges x.ranges) first),
        more_refs spell name to xs (back (spell_ranged spell x) (spell_more (spell_ranged spell) xs) h),
      )

  share_ref : (m : Share) → Fine (spell_share m) → Named m.name
  share_ref m h =
      (front (spell_ref m.name) (word is.at ∷ (spell_signed m.centre ++ word is.by ∷ spell_number m.deviation)) h).0

  sides_refs : (s : Sides Expr) → Fine (spell_sides s) → EachSideRef Named (trees_of s)
  sides_refs s h =
      let right = (back (spell_expr s.left) (spell_rel s.rel ∷ (spell_expr s.right ++ spell_over s.over)) h).1 in (
        expr_refs s.left (front (spell_expr s.left) (spell_rel s.rel ∷ (spell_expr s.right ++ spell_over s.over)) h),
        expr_refs s.right (front (spell_expr s.right) (spell_over s.over) right),
        over_refs s.over (back (spell_expr s.right) (spell_over s.over) right),
      )

  line_refs : (l : Indexed Expr) → Fine (spell_line l) → EachRefOf Named (statement_of l)
  line_refs (uncertain r b rs) h = h.1.0
  line_refs (over r rs) h = h.1.0
  line_refs (set s rs) h = sides_refs s (front (spell_sides s) (spell_ranges rs) h.1)
  line_refs (budget n ms o) h =
      let list = spell_list (spell_ranged spell_share) ms in
      let behind = (back (spell_number n) (sign is.colon ∷ (list ++ spell_over o)) h.1).1 in (
        list_refs spell_share (λ m. m.name) share_ref ms (front list (spell_over o) behind),
        over_refs o (back list (spell_over o) behind),
      )
  line_refs (variable r b rs) h = h.1.0
  line_refs (adaptive r on b rs) h =
      let tail = sign is.closing ∷ (spell_bounds b ++ spell_ranges rs) in
      let behind = (back (spell_ref r) (sign is.opening ∷ (spell_list (spell_ranged spell_ref) on ++ tail)) h.1).1 in (
        h.1.0,
        list_refs spell_ref (λ x. x) (λ x k. k.0) on (front (spell_list (spell_ranged spell_ref) on) tail behind),
      )
  line_refs (goal s e o rs) h =
      let behind = back (spell_expr e) (spell_over o ++ spell_ranges rs) h.1 in (
        expr_refs e (front (spell_expr e) (spell_over o ++ spell_ranges rs) h.1),
        over_refs o (front (spell_over o) (spell_ranges rs) behind),
      )
  line_refs (row r s rs) h =
      let behind = (back (spell_ref r) (sign is.colon ∷ (spell_sides s ++ spell_ranges rs)) h.1).1 in
      (h.1.0, sides_refs s (front (spell_sides s) (spell_ranges rs) behind))

  of_statement : (symbols : List Symbol) (s : Indexed Tree) → IsStatement symbols s → Fine symbols → EachRefOf Named s
  of_statement symbols s is h =
      subst (EachRefOf Named) is.statement_is (line_refs is.line (subst Fine is.spelled h))

  pub statement_refs : (v : Version) (symbols : List Symbol) (s : Indexed Tree) → IsOf v symbols s → Fine symbols
      → EachRefOf Named s
  statement_refs one symbols s is h = of_statement symbols s is.0 h
  statement_refs two symbols s is h = of_statement symbols s is h
