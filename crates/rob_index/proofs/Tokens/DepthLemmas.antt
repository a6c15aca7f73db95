-- The canonical text of an expansion opens no more parentheses at once than the line does, counting two behind `sum`:
-- one for the sum of the settings, and one for a setting that is a sum itself.
use Rattle.std.proofs.Common.{ℕ, ◌+◌, ◌≤◌, Bool, true, false, List, [], ◌∷◌, map, length, Option, Some, None, arith, length-append}
use Rattle.std.specs.Prelude.{ℤ, ◌%◌, ◌==◌, ◌&&◌, if◌then◌else◌}
use Rattle.rob_index.specs.Symbols.{sign}
use Rattle.rob_index.specs.Symbols as is
use Rattle.rob_index.specs.Statements.{Name, Numeral, Plain, Factors}
use Rattle.rob_index.specs.Statements as stated
use Rattle.rob_index.specs.Grammar.{Factor, Term, Terms, Expr, number, ref, parens, sum, no_factors, times, term, no_terms, signed, expr, tree_factor, tree_factors, tree_term, tree_terms, tree_expr, spell_number, spell_factor, spell_factors, spell_term, spell_terms, spell_expr}
use Rattle.rob_index.specs.Grammar as spelled
use Rattle.rob_index.specs.Expansion.{added, summed, expand_tree, expand_parts, expand_factors, IsPlain, ArePlainParts, ArePlainFactors}
use Rattle.rob_index.specs.Counting.{is_sum, is_compound, divided, fits, number_tokens, parens as parens_tokens, plain_tokens, parts_tokens, factors_tokens}
use Rattle.rob_index.specs.Settings.{Setting, values, with_value}
use Rattle.rob_index.specs.Depths.{one_if, depth, parts_depth, factors_depth, factor_open, factors_open, term_open, terms_open, expr_open}

one_at_most : (b : Bool) → one_if b ≤ 1
one_at_most true = omega arith
one_at_most false = omega arith

-- a sum is compound
sum_compound : (p : Plain) → one_if (is_sum 0 p) ≤ one_if (is_compound 0 p)
sum_compound (stated.number n) = omega arith
sum_compound (stated.name k) = omega arith
sum_compound (stated.sum ps) = omega arith
sum_compound (stated.product ps) = omega arith

-- a sum of expressions that are at most so deep
added_depth : (d : ℕ) (f : ℤ → Plain) → ((v : ℤ) → depth (f v) ≤ d) → (vs : List ℤ)
    → parts_depth (added (map f vs)) ≤ 1 + d
added_depth d f h [] = omega arith
added_depth d f h (v ∷ vs) =
    let k = added_depth d f h vs in let l = h v in let m = one_at_most (is_sum 0 (f v)) in omega (arith, k, l, m)

summed_depth : (d : ℕ) (f : ℤ → Plain) → ((v : ℤ) → depth (f v) ≤ d) → (vs : List ℤ)
    → one_if (is_compound 0 (summed (map f vs))) + depth (summed (map f vs)) ≤ 2 + d
summed_depth d f h [] = omega arith
summed_depth d f h (v ∷ []) = let l = h v in let m = one_at_most (is_compound 0 (f v)) in omega (arith, l, m)
summed_depth d f h (v ∷ w ∷ vs) = let k = added_depth d f h (v ∷ w ∷ vs) in omega (arith, k)

module _ (words : List Name) where
  mutual
    factor_depth : (f : Factor) (setting : Setting)
        → one_if (is_compound 0 (expand_tree words (tree_factor f) setting))
        + depth (expand_tree words (tree_factor f) setting) ≤ factor_open f
    factor_depth (number n) setting = omega arith
    factor_depth (ref r) setting = omega arith
    factor_depth (parens e) setting =
        let h = expr_depth e setting in let m = one_at_most
        (is_compound 0 (expand_tree words (tree_expr e) setting)) in omega (arith, h, m)
    factor_depth (sum r e) setting =
        summed_depth (expr_open e) (λ v. expand_tree words (tree_expr e) (with_value r setting v))
        (λ v. expr_depth e (with_value r setting v)) (values setting r)

    factors_depths : (fs : spelled.Factors) (setting : Setting)
        → factors_depth (expand_factors words (tree_factors fs) setting) ≤ factors_open fs
    factors_depths no_factors setting = omega arith
    factors_depths (times f fs) setting =
        let h = factor_depth f setting in let k = factors_depths fs setting in omega (arith, h, k)

    term_depth : (t : Term) (setting : Setting)
        → one_if (is_sum 0 (expand_tree words (tree_term t) setting))
        + depth (expand_tree words (tree_term t) setting) ≤ term_open t
    term_depth (term f no_factors) setting =
        let h = factor_depth f setting in let k = sum_compound (expand_tree words (tree_factor f) setting) in omega
        (arith, h, k)
    term_depth (term f (times g fs)) setting =
        let h = factor_depth f setting in let k = factor_depth g setting in let l = factors_depths fs setting in omega
        (arith, h, k, l)

    terms_depth : (ts : Terms) (setting : Setting)
        → parts_depth (expand_parts words (tree_terms ts) setting) ≤ terms_open ts
    terms_depth no_terms setting = omega arith
    terms_depth (signed m t ts) setting =
        let h = term_depth t setting in let k = terms_depth ts setting in omega (arith, h, k)

    pub expr_depth : (e : Expr) (setting : Setting) → depth (expand_tree words (tree_expr e) setting) ≤ expr_open e
    expr_depth (expr false t no_terms) setting = let h = term_depth t setting in omega (arith, h)
    expr_depth (expr true t ts) setting =
        let h = term_depth t setting in let k = terms_depth ts setting in omega (arith, h, k)
    expr_depth (expr false t (signed m u ts)) setting =
        let h = term_depth t setting in let k =
        term_depth u setting in let l = terms_depth ts setting in omega (arith, h, k, l)

-- ---- a line of version 1 has at least as many tokens as its canonical text
module _ (limit : ℕ) (words : List Name) where
  divided_fits : (b : Bool) (n : ℕ) (d : Option ℕ)
      → divided limit b n d ≤ length (spell_number (record { numerator = n; divisor = d }))
  divided_fits b n None = omega arith
  divided_fits b n (Some d) = go (b && (n % d == 0))
    where
      go : (c : Bool) → (if c then 1 else 3) ≤ 3
      go true = omega arith
      go false = omega arith

  pub number_fits : (n : Numeral) → number_tokens limit n ≤ length (spell_number n)
  number_fits n = divided_fits (fits limit n) n.numerator n.divisor

  two_at_most : (b : Bool) → parens_tokens limit b ≤ 2
  two_at_most true = omega arith
  two_at_most false = omega arith

  sum_parens : (p : Plain) → parens_tokens limit (is_sum limit p) ≤ parens_tokens limit (is_compound limit p)
  sum_parens (stated.number n) = omega arith
  sum_parens (stated.name k) = omega arith
  sum_parens (stated.sum ps) = omega arith
  sum_parens (stated.product ps) = omega arith

  mutual
    factor_tokens_fit : (f : Factor) (setting : Setting) → IsPlain (tree_factor f)
        → parens_tokens limit (is_compound limit (expand_tree words (tree_factor f) setting))
        + plain_tokens limit (expand_tree words (tree_factor f) setting) ≤ length (spell_factor f)
    factor_tokens_fit (number n) setting h = let k = number_fits n in omega (arith, k)
    factor_tokens_fit (ref r) setting h = omega arith
    factor_tokens_fit (parens e) setting h =
        let k = expr_tokens_fit e setting h in let m = two_at_most
        (is_compound limit (expand_tree words (tree_expr e) setting)) in let l = length-append (spell_expr e)
        (sign is.closing ∷ []) in omega (arith, k, m, l)
    factor_tokens_fit (sum r e) setting h = absurd h

    factors_tokens_fit : (fs : spelled.Factors) (setting : Setting) → ArePlainFactors (tree_factors fs)
        → factors_tokens limit false (expand_factors words (tree_factors fs) setting) ≤ length (spell_factors fs)
    factors_tokens_fit no_factors setting h = omega arith
    factors_tokens_fit (times f fs) setting h =
        let j = factor_tokens_fit f setting h.0 in let k = factors_tokens_fit fs setting h.1 in let l = length-append
        (spell_factor f) (spell_factors fs) in omega (arith, j, k, l)

    term_tokens_fit : (t : Term) (setting : Setting) → IsPlain (tree_term t)
        → parens_tokens limit (is_sum limit (expand_tree words (tree_term t) setting))
        + plain_tokens limit (expand_tree words (tree_term t) setting) ≤ length (spell_term t)
    term_tokens_fit (term f no_factors) setting h =
        let j = factor_tokens_fit f setting h in let k = sum_parens
        (expand_tree words (tree_factor f) setting) in let l =
        length-append (spell_factor f) [] in omega (arith, j, k, l)
    term_tokens_fit (term f (times g fs)) setting h =
        let i = factor_tokens_fit f setting h.0 in
        let j = factor_tokens_fit g setting h.1.0 in
        let k = factors_tokens_fit fs setting h.1.1 in
        let l = length-append (spell_factor f) (spell_factors (times g fs)) in
        let m = length-append (spell_factor g) (spell_factors fs) in
        omega (arith, i, j, k, l, m)

    terms_tokens_fit : (ts : Terms) (setting : Setting) → ArePlainParts (tree_terms ts)
        → parts_tokens limit false (expand_parts words (tree_terms ts) setting) ≤ length (spell_terms ts)
    terms_tokens_fit no_terms setting h = omega arith
    terms_tokens_fit (signed m t ts) setting h =
        let j = term_tokens_fit t setting h.0 in let k = terms_tokens_fit ts setting h.1 in let l = length-append
        (spell_term t) (spell_terms ts) in omega (arith, j, k, l)

    pub expr_tokens_fit : (e : Expr) (setting : Setting) → IsPlain (tree_expr e)
        → plain_tokens limit (expand_tree words (tree_expr e) setting) ≤ length (spell_expr e)
    expr_tokens_fit (expr false t no_terms) setting h =
        let j = term_tokens_fit t setting h in let l = length-append (spell_term t) [] in omega (arith, j, l)
    expr_tokens_fit (expr true t ts) setting h =
        let j = term_tokens_fit t setting h.0 in
        let k = terms_tokens_fit ts setting h.1 in
        let l = length-append (spell_term t) (spell_terms ts) in
        omega (arith, j, k, l)
    expr_tokens_fit (expr false t (signed m u ts)) setting h =
        let i = term_tokens_fit t setting h.0 in
        let j = term_tokens_fit u setting h.1.0 in
        let k = terms_tokens_fit ts setting h.1.1 in
        let l = length-append (spell_term t) (spell_terms (signed m u ts)) in
        let n = length-append (spell_term u) (spell_terms ts) in
        omega (arith, i, j, k, l, n)
