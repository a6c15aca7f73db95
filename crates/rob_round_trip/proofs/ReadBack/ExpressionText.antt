-- The words of an expression are read as an expression of the grammar, whose tree is that expression.
use Rattle.std.proofs.Common.{◌≡◌, ℕ, ◌^◌, ◌<◌, Bool, true, false, List, [], ◌∷◌, ◌++◌, map, get_or, refl, sym, ap, ◌∙◌, subst, append-nil}
use Rattle.std.specs.Prelude.{Option, Some, if◌then◌else◌}
use Rattle.std.proofs.lemmas.Grind.{flat_map-append}
use Rattle.rob_algebra.specs.Fraction.{Fraction}
use Rattle.rob_algebra.specs.Width.{Fits}
use Rattle.rob_meaning.proofs.Lists.EachLemmas.{each_append}
use Rattle.rob_meaning.specs.Expressions as meaning
use Rattle.rob_meaning.specs.Places.{Each}
use Rattle.rob_rules.specs.Faults.{is_usable}
use Rattle.rob_rules.specs.Leaves.{factor_leaves, leaves, part_leaves}
use Rattle.rob_rules.specs.declared.sort.Sort.{Sort}
use Rattle.rob_rules.specs.declared.sort.Sort.TheVariants.{Parameter, Decision, Policy}
use Rattle.rob_syntax.specs.declared.symbol.Symbol.{Symbol}
use Rattle.rob_syntax.specs.declared.symbol.Symbol.TheVariants.{Name, Sign}
use Rattle.rob_syntax.specs.declared.symbol.Mark.TheVariants as mark
use Rattle.rob_syntax.specs.declared.syntax.Syntax.{Syntax}
use Rattle.rob_syntax.specs.declared.syntax.Syntax.TheVariants as syntax
use Rattle.rob_syntax.specs.declared.syntax.Summand.{Summand}
use Rattle.rob_write.specs.Pages.{Written, name, sign, bytes_of}
use Rattle.rob_write.specs.ExpressionWords.{Naming, expression_words, term_words, factor_words, is_sum, is_compound, enclosed, lead}
use Rattle.rob_syntax.specs.Grammar.{Factor, Factors, Term, Terms, Expr, number, parens, no_factors, times as g_times, term, no_terms, signed, expr, name as g_name, spell_minus, sign_of, spell_factor, spell_factors, spell_term, spell_terms, spell_expr, tree_factor, tree_factors, tree_term, tree_terms, tree_expr}
use Rattle.rob_parse.specs.Written.{expression, terms, factors, named}
use Rattle.rob_round_trip.specs.Pages.{kind_of, symbols_on}
use Rattle.rob_round_trip.specs.Readable.{IsReadable, TermsReadable, FactorsReadable, StandsFor, AreKnown, IsReadBack}
use Rattle.rob_lex.specs.declared.token.Kind.TheVariants as kind
use Rattle.rob_index.specs.Reading.{one}
use Rattle.rob_syntax.specs.Symbols.{number_of, symbol_at}
use Rattle.rob_syntax.specs.Trees.{Part, Tree, tree_of, part_of, summands_of, operands_of}
use Rattle.rob_round_trip.proofs.Faultless.FineLeaves.{IsFineLeaf, fine_numeral}
use Rattle.rob_round_trip.proofs.ReadBack.NumberText.{numeral_of, number_back, fraction_back}
use Rattle.rob_syntax.proofs.TreeLemmas.{number_is, name_is, sum_is, product_is}
use Rattle.rob_rules.proofs.Trees.WalkLemmas.{part_is}

-- the symbols of words behind words
pub symbols_append : (words : List (List ℕ)) (xs ys : List Written)
    → symbols_on words (xs ++ ys) ≡ symbols_on words xs ++ symbols_on words ys
symbols_append words xs ys = flat_map-append (λ w. symbol_at one words (kind_of w) (bytes_of w)) xs ys

-- a sum of several terms, or of one that is subtracted, is a `Sum`
abbrev IsReal : Bool → Terms → Type 0
IsReal true ts = Unit {0}
IsReal false no_terms = ⊥
IsReal false (signed minus t ts) = Unit {0}

real_tree : (minus : Bool) (t : Term) (ts : Terms) → IsReal minus ts
    → tree_expr (expr minus t ts) ≡ syntax.Sum (record { minus = minus; inner = tree_term t } ∷ tree_terms ts)
real_tree true t ts real = refl
real_tree false t (signed minus u us) real = refl
real_tree false t no_terms real = absurd real

module _ (limit : ℕ) (small : limit < 2 ^ 62) (words : List (List ℕ)) (sorts : List (Option Sort)) (names : Naming)
    (known : AreKnown words sorts names) where
  -- the expression that a tree of the parser is
  abbrev read : Syntax → meaning.Expression
  read s = expression sorts (tree_of s)

  -- no name and no number of such a tree is at fault
  abbrev pub AreFine : Syntax → Type 0
  AreFine s = Each (IsFineLeaf limit sorts) (leaves (tree_of s))

  -- an expression as a factor, as a term and as a whole
  pub record Shown (e : meaning.Expression) : Type 0 where
    pub as_factor : Factor
    pub as_term : Term
    pub whole : Expr
    pub factor_spelled : symbols_on words (enclosed (is_compound e) (expression_words names e)) ≡ spell_factor as_factor
    pub term_spelled : symbols_on words (enclosed (is_sum e) (expression_words names e)) ≡ spell_term as_term
    pub whole_spelled : symbols_on words (expression_words names e) ≡ spell_expr whole
    pub factor_tree : read (tree_factor as_factor) ≡ e
    pub term_tree : read (tree_term as_term) ≡ e
    pub whole_tree : read (tree_expr whole) ≡ e
    pub factor_fine : AreFine (tree_factor as_factor)
    pub term_fine : AreFine (tree_term as_term)
    pub whole_fine : AreFine (tree_expr whole)

  record ShownTerms (ts : meaning.Terms) : Type 0 where
    items : Terms
    spelled : symbols_on words (term_words names false ts) ≡ spell_terms items
    trees : terms sorts (summands_of (map part_of (tree_terms items))) ≡ ts
    fine : Each (IsFineLeaf limit sorts) (part_leaves (summands_of (map part_of (tree_terms items))))

  record ShownFactors (fs : meaning.Factors) : Type 0 where
    items : Factors
    spelled : symbols_on words (factor_words names false fs) ≡ spell_factors items
    trees : factors sorts (operands_of (map tree_of (tree_factors items))) ≡ fs
    fine : Each (IsFineLeaf limit sorts) (factor_leaves (operands_of (map tree_of (tree_factors items))))

  open_words : (ws : List Written) (xs : List Symbol) → symbols_on words ws ≡ xs
      → symbols_on words (enclosed false ws) ≡ xs
  open_words ws xs same = ap (symbols_on words) (append-nil ws) ∙ same

  closed_words : (ws : List Written) (xs : List Symbol) → symbols_on words ws ≡ xs
      → symbols_on words (enclosed true ws) ≡ Sign mark.Open ∷ (xs ++ Sign mark.Close ∷ [])
  closed_words ws xs same =
      ap (λ (l : List Symbol). Sign mark.Open ∷ l)
      (symbols_append words ws (sign mark.Close ∷ []) ∙ ap (λ (l : List Symbol). l ++ Sign mark.Close ∷ []) same)

  -- an expression that is a factor by itself
  from_factor : (e : meaning.Expression) (f : Factor) → is_sum e ≡ false → is_compound e ≡ false
      → symbols_on words (expression_words names e) ≡ spell_factor f → read (tree_factor f) ≡ e
      → AreFine (tree_factor f) → Shown e
  from_factor e f no_sum no_compound spelled tree fine = record {
    as_factor = f;
    as_term = term f no_factors;
    whole = expr false (term f no_factors) no_terms;
    factor_spelled =
        ap (λ (b : Bool). symbols_on words (enclosed b (expression_words names e))) no_compound
        ∙ open_words (expression_words names e) (spell_factor f) spelled;
    term_spelled =
        ap (λ (b : Bool). symbols_on words (enclosed b (expression_words names e))) no_sum
        ∙ open_words (expression_words names e) (spell_factor f) spelled ∙ sym (append-nil (spell_factor f));
    whole_spelled = spelled ∙ sym (append-nil (spell_factor f)) ∙ sym (append-nil (spell_factor f ++ []));
    factor_tree = tree;
    term_tree = tree;
    whole_tree = tree;
    factor_fine = fine;
    term_fine = fine;
    whole_fine = fine;
  }

  lead_back : (first minus : Bool) → symbols_on words (lead first minus)
      ≡ (if first then spell_minus minus else (sign_of minus ∷ []))
  lead_back true true = refl
  lead_back true false = refl
  lead_back false true = refl
  lead_back false false = refl

  part_tree : (minus : Bool) (t : Term) (e : meaning.Expression) (ts : meaning.Terms) (more : Terms)
      → read (tree_term t) ≡ e → terms sorts (summands_of (map part_of (tree_terms more))) ≡ ts
      → terms sorts (summands_of (map part_of (record { minus = minus; inner = tree_term t } ∷ tree_terms more)))
      ≡ meaning.term minus e ts
  part_tree minus t e ts more here rest =
      let x : Summand = record { minus = minus; inner = tree_term t } in
      ap (λ (p : Part). meaning.term p.minus (expression sorts p.inner)
      (terms sorts (summands_of (map part_of (tree_terms more))))) (part_is x)
      ∙ (λ i. meaning.term minus (here i) (rest i))

  -- the leaves of a part more
  part_fine : (minus : Bool) (t : Term) (more : Terms) → AreFine (tree_term t)
      → Each (IsFineLeaf limit sorts) (part_leaves (summands_of (map part_of (tree_terms more))))
      → Each (IsFineLeaf limit sorts)
      (part_leaves (summands_of (map part_of (record { minus = minus; inner = tree_term t } ∷ tree_terms more))))
  part_fine minus t more here rest =
      let x : Summand = record { minus = minus; inner = tree_term t } in
      let others = part_leaves (summands_of (map part_of (tree_terms more))) in
      subst (λ (p : Part). Each (IsFineLeaf limit sorts) (leaves p.inner ++ others)) (sym (part_is x))
      (each_append (IsFineLeaf limit sorts) (leaves (tree_of (tree_term t))) others here rest)

  from_sum : (minus : Bool) (e : meaning.Expression) (ts : meaning.Terms) → Shown e → (more : ShownTerms ts)
      → IsReal minus more.items → Shown (meaning.sum (meaning.term minus e ts))
  from_sum minus e ts here more real =
      let whole = expr minus here.as_term more.items in
      let spelled : symbols_on words (expression_words names (meaning.sum (meaning.term minus e ts)))
      ≡ spell_expr whole =
      symbols_append words (lead true minus)
      (enclosed (is_sum e) (expression_words names e) ++ term_words names false ts)
      ∙ (λ i. lead_back true minus i
      ++ (symbols_append words (enclosed (is_sum e) (expression_words names e)) (term_words names false ts)
      ∙ (λ j. here.term_spelled j ++ more.spelled j)) i) in
      let tree : read (tree_expr whole) ≡ meaning.sum (meaning.term minus e ts) =
      ap read (real_tree minus here.as_term more.items real)
      ∙ ap (expression sorts)
      (sum_is (record { minus = minus; inner = tree_term here.as_term } ∷ tree_terms more.items))
      ∙ ap meaning.sum (part_tree minus here.as_term e ts more.items here.term_tree more.trees) in
      let fine : AreFine (tree_expr whole) =
      subst AreFine (sym (real_tree minus here.as_term more.items real))
      (subst (λ (t : Tree). Each (IsFineLeaf limit sorts) (leaves t))
      (sym (sum_is (record { minus = minus; inner = tree_term here.as_term } ∷ tree_terms more.items)))
      (part_fine minus here.as_term more.items here.term_fine more.fine)) in
      let enclosed_spelled =
      closed_words (expression_words names (meaning.sum (meaning.term minus e ts))) (spell_expr whole) spelled in
      record {
        as_factor = parens whole;
        as_term = term (parens whole) no_factors;
        whole = whole;
        factor_spelled = enclosed_spelled;
        term_spelled = enclosed_spelled ∙ sym (append-nil (spell_factor (parens whole)));
        whole_spelled = spelled;
        factor_tree = tree;
        term_tree = tree;
        whole_tree = tree;
        factor_fine = fine;
        term_fine = fine;
        whole_fine = fine;
      }

  from_product : (e f : meaning.Expression) (fs : meaning.Factors) → Shown e → Shown f → ShownFactors fs
      → Shown (meaning.product (meaning.factor e (meaning.factor f fs)))
  from_product e f fs here two more =
      let item = term here.as_factor (g_times two.as_factor more.items) in
      let whole = expr false item no_terms in
      let inner = expression_words names (meaning.product (meaning.factor e (meaning.factor f fs))) in
      let spelled : symbols_on words inner ≡ spell_term item =
      symbols_append words (enclosed (is_compound e) (expression_words names e))
      (factor_words names false (meaning.factor f fs))
      ∙ (λ i. here.factor_spelled i ++ ap (λ (l : List Symbol). Sign mark.Star ∷ l)
      (symbols_append words (enclosed (is_compound f) (expression_words names f)) (factor_words names false fs)
      ∙ (λ j. two.factor_spelled j ++ more.spelled j)) i) in
      let tree : read (tree_term item) ≡ meaning.product (meaning.factor e (meaning.factor f fs)) =
      ap (expression sorts)
      (product_is (tree_factor here.as_factor ∷ tree_factor two.as_factor ∷ tree_factors more.items))
      ∙ (λ i. meaning.product
      (meaning.factor (here.factor_tree i) (meaning.factor (two.factor_tree i) (more.trees i)))) in
      let first = leaves (tree_of (tree_factor here.as_factor)) in
      let second = leaves (tree_of (tree_factor two.as_factor)) in
      let others = factor_leaves (operands_of (map tree_of (tree_factors more.items))) in
      let fine : AreFine (tree_term item) =
      subst (λ (t : Tree). Each (IsFineLeaf limit sorts) (leaves t))
      (sym (product_is (tree_factor here.as_factor ∷ tree_factor two.as_factor ∷ tree_factors more.items)))
      (each_append (IsFineLeaf limit sorts) first (second ++ others) here.factor_fine
      (each_append (IsFineLeaf limit sorts) second others two.factor_fine more.fine)) in
      record {
        as_factor = parens whole;
        as_term = item;
        whole = whole;
        factor_spelled = closed_words inner (spell_expr whole) (spelled ∙ sym (append-nil (spell_term item)));
        term_spelled = open_words inner (spell_term item) spelled;
        whole_spelled = spelled ∙ sym (append-nil (spell_term item));
        factor_tree = tree;
        term_tree = tree;
        whole_tree = tree;
        factor_fine = fine;
        term_fine = fine;
        whole_fine = fine;
      }

  one_term : (minus : Bool) (e : meaning.Expression) (ts : meaning.Terms) → Shown e → ShownTerms ts
      → ShownTerms (meaning.term minus e ts)
  one_term minus e ts here more = record {
    items = signed minus here.as_term more.items;
    spelled =
        symbols_append words (lead false minus)
        (enclosed (is_sum e) (expression_words names e) ++ term_words names false ts)
        ∙ (λ i. lead_back false minus i
        ++ (symbols_append words (enclosed (is_sum e) (expression_words names e)) (term_words names false ts)
        ∙ (λ j. here.term_spelled j ++ more.spelled j)) i);
    trees = part_tree minus here.as_term e ts more.items here.term_tree more.trees;
    fine = part_fine minus here.as_term more.items here.term_fine more.fine;
  }

  from_two : (e : meaning.Expression) (minus : Bool) (f : meaning.Expression) (ts : meaning.Terms) → Shown e → Shown f
      → ShownTerms ts → Shown (meaning.sum (meaning.term false e (meaning.term minus f ts)))
  unfolding one_term
  from_two e minus f ts here two more =
      from_sum false e (meaning.term minus f ts) here (one_term minus f ts two more) tt

  one_factor : (e : meaning.Expression) (fs : meaning.Factors) → Shown e → ShownFactors fs
      → ShownFactors (meaning.factor e fs)
  one_factor e fs here more = record {
    items = g_times here.as_factor more.items;
    spelled = ap (λ (l : List Symbol). Sign mark.Star ∷ l)
        (symbols_append words (enclosed (is_compound e) (expression_words names e)) (factor_words names false fs)
        ∙ (λ j. here.factor_spelled j ++ more.spelled j));
    trees = λ i. meaning.factor (here.factor_tree i) (more.trees i);
    fine =
        each_append (IsFineLeaf limit sorts) (leaves (tree_of (tree_factor here.as_factor)))
        (factor_leaves (operands_of (map tree_of (tree_factors more.items)))) here.factor_fine more.fine;
  }

  named_back : (bytes : List ℕ) (sort : Sort) → StandsFor words sorts bytes sort
      → symbols_on words (name bytes ∷ []) ≡ Name (number_of words bytes) ∷ []
  named_back bytes sort is = append-nil (symbol_at one words kind.Word bytes) ∙ is.is_name

  named_tree : (bytes : List ℕ) (sort : Sort) → StandsFor words sorts bytes sort
      → read (syntax.Name (number_of words bytes)) ≡ named (Some sort)
  named_tree bytes sort is = ap (expression sorts) (name_is (number_of words bytes)) ∙ ap named is.sort_is

  named_fine : (bytes : List ℕ) (sort : Sort) → StandsFor words sorts bytes sort → is_usable (Some sort) ≡ true
      → AreFine (syntax.Name (number_of words bytes))
  named_fine bytes sort is usable =
      subst (λ (t : Tree). Each (IsFineLeaf limit sorts) (leaves t)) (sym (name_is (number_of words bytes)))
      (ap is_usable is.sort_is ∙ usable, tt)

  number_fine : (q : Fraction) → Fits limit q → AreFine (syntax.Number (numeral_of q))
  number_fine q fits =
      subst (λ (t : Tree). Each (IsFineLeaf limit sorts) (leaves t)) (sym (number_is (numeral_of q)))
      (fine_numeral limit q fits, tt)

  mutual
    pub shown : (e : meaning.Expression) → IsReadable limit names e → Shown e
    shown (meaning.number q) h =
        from_factor (meaning.number q) (number (numeral_of q)) refl refl (number_back limit words q small h.0 h.1)
        (ap (expression sorts) (number_is (numeral_of q)) ∙ ap meaning.number (fraction_back q h.1)) (number_fine q h.0)
    shown (meaning.parameter k) h =
        let bytes = get_or names.parameters k [] in
        let is = known.parameters k h in
        from_factor (meaning.parameter k) (g_name (number_of words bytes)) refl refl (named_back bytes (Parameter k) is)
        (named_tree bytes (Parameter k) is) (named_fine bytes (Parameter k) is refl)
    shown (meaning.variable k) h =
        let bytes = get_or names.variables k [] in
        let is = known.variables k h in
        from_factor (meaning.variable k) (g_name (number_of words bytes)) refl refl (named_back bytes (Decision k) is)
        (named_tree bytes (Decision k) is) (named_fine bytes (Decision k) is refl)
    shown (meaning.adaptive y) h =
        let bytes = get_or names.adaptives y [] in
        let is = known.adaptives y h in
        from_factor (meaning.adaptive y) (g_name (number_of words bytes)) refl refl
        (named_back bytes (Policy y is.0) is.1) (named_tree bytes (Policy y is.0) is.1)
        (named_fine bytes (Policy y is.0) is.1 refl)
    shown (meaning.adaptive_in y S) h = absurd h
    shown (meaning.sum meaning.no_terms) h = absurd h.0
    shown (meaning.sum (meaning.term true e ts)) h = from_sum true e ts (shown e h.1.0) (shown_terms ts h.1.1) tt
    shown (meaning.sum (meaning.term false e meaning.no_terms)) h = absurd h.0
    shown (meaning.sum (meaning.term false e (meaning.term minus f ts))) h =
        from_two e minus f ts (shown e h.1.0) (shown f h.1.1.0) (shown_terms ts h.1.1.1)
    shown (meaning.product meaning.no_factors) h = absurd h.0
    shown (meaning.product (meaning.factor e meaning.no_factors)) h = absurd h.0
    shown (meaning.product (meaning.factor e (meaning.factor f fs))) h =
        from_product e f fs (shown e h.1.0) (shown f h.1.1.0) (shown_factors fs h.1.1.1)

    shown_terms : (ts : meaning.Terms) → TermsReadable limit names ts → ShownTerms ts
    shown_terms meaning.no_terms h = record { items = no_terms; spelled = refl; trees = refl; fine = tt }
    shown_terms (meaning.term minus e ts) h = one_term minus e ts (shown e h.0) (shown_terms ts h.1)

    shown_factors : (fs : meaning.Factors) → FactorsReadable limit names fs → ShownFactors fs
    shown_factors meaning.no_factors h = record { items = no_factors; spelled = refl; trees = refl; fine = tt }
    shown_factors (meaning.factor e fs) h = one_factor e fs (shown e h.0) (shown_factors fs h.1)

-- an expression is read back
pub read_back : (limit : ℕ) → limit < 2 ^ 62 → (words : List (List ℕ)) (sorts : List (Option Sort)) (names : Naming)
    → AreKnown words sorts names → (e : meaning.Expression) → IsReadable limit names e → IsReadBack words sorts names e
read_back limit small words sorts names known e h =
    let s = shown limit small words sorts names known e h in
    record { item = s.whole; spelled = s.whole_spelled; tree_is = s.whole_tree }

-- and no name and no number in it is at fault
pub read_fine : (limit : ℕ) (small : limit < 2 ^ 62) (words : List (List ℕ))
    (sorts : List (Option Sort)) (names : Naming)
    (known : AreKnown words sorts names) (e : meaning.Expression) (h : IsReadable limit names e)
    → Each (IsFineLeaf limit sorts)
    (leaves (tree_of (tree_expr (read_back limit small words sorts names known e h).item)))
unfolding read_back
read_fine limit small words sorts names known e h = (shown limit small words sorts names known e h).whole_fine
