-- Each value that a range runs through costs a token, and so does each setting of a statement: so what is run through
-- is no more than the room.
use Rattle.std.proofs.Common.{ℕ, ◌≤◌, ◌*◌, ◌%◌, ◌==◌, Bool, true, false, List, [], ◌∷◌, map, length, Option, Some, None, arith}
use Rattle.std.specs.Prelude.{ℤ, if◌then◌else◌, ◌&&◌}
use Rattle.rob_index.specs.Statements.{Name, Numeral, Plain, Range, Tree, TreeParts, TreeFactors, Statement, Indexed}
use Rattle.rob_index.specs.Statements as stated
use Rattle.rob_index.specs.Grammar.{Factor, Term, Expr, number, ref, parens, sum, no_factors, times, term, no_terms, signed, expr, tree_factor, tree_term, tree_expr}
use Rattle.rob_index.specs.Settings.{Setting, values, with_value}
use Rattle.rob_index.specs.Expansion.{added, summed, expand_tree, expand_parts, expand_factors}
use Rattle.rob_index.specs.Counting.{number_tokens, divided, fits, plain_tokens, parts_tokens, factors_tokens, line_tokens, lines_tokens, IsReal, AreRealParts, AreRealFactors}

module _ (limit : ℕ) (words : List Name) where
  divided_some : (fit : Bool) (n : ℕ) (d : Option ℕ) → 1 ≤ divided limit fit n d
  divided_some fit n None = omega arith
  divided_some fit n (Some d) = go (fit && (n % d == 0))
    where
      go : (b : Bool) → 1 ≤ (if b then 1 else 3)
      go true = omega arith
      go false = omega arith

  number_some : (n : Numeral) → 1 ≤ number_tokens limit n
  number_some n = divided_some (fits limit n) n.numerator n.divisor

  -- a sum of expressions that each have a token has one for each
  added_some : (f : ℤ → Plain) → ((v : ℤ) → 1 ≤ plain_tokens limit (f v)) → (first : Bool) (vs : List ℤ)
      → length vs ≤ parts_tokens limit first (added (map f vs))
  added_some f h first [] = omega arith
  added_some f h first (v ∷ vs) = let k = added_some f h false vs in let l = h v in omega (arith, k, l)

  summed_some : (f : ℤ → Plain) → ((v : ℤ) → 1 ≤ plain_tokens limit (f v)) → (vs : List ℤ)
      → (1 ≤ plain_tokens limit (summed (map f vs))) × (length vs ≤ plain_tokens limit (summed (map f vs)))
  summed_some f h [] = (omega arith, omega arith)
  summed_some f h (v ∷ []) = let l = h v in (l, omega (arith, l))
  summed_some f h (v ∷ w ∷ vs) = let k = added_some f h true (v ∷ w ∷ vs) in (omega (arith, k), k)

  mutual
    pub tree_some : (t : Tree) (setting : Setting) → IsReal t → 1 ≤ plain_tokens limit (expand_tree words t setting)
    tree_some (stated.number n) setting h = number_some n
    tree_some (stated.ref r) setting h = omega arith
    tree_some (stated.sum ts) setting h = parts_some true ts setting h
    tree_some (stated.product ts) setting h = factors_some true ts setting h
    tree_some (stated.ranged r t) setting h =
        (summed_some (λ v. expand_tree words t (with_value r setting v)) (λ v. tree_some t (with_value r setting v) h)
        (values setting r)).0

    parts_some : (first : Bool) (ts : TreeParts) (setting : Setting) → AreRealParts ts
        → 1 ≤ parts_tokens limit first (expand_parts words ts setting)
    parts_some first stated.no_parts setting h = absurd h
    parts_some first (stated.part minus t ts) setting h = let k = tree_some t setting h in omega (arith, k)

    factors_some : (first : Bool) (ts : TreeFactors) (setting : Setting) → AreRealFactors ts
        → 1 ≤ factors_tokens limit first (expand_factors words ts setting)
    factors_some first stated.no_factors setting h = absurd h
    factors_some first (stated.factor t ts) setting h = let k = tree_some t setting h in omega (arith, k)

  -- a sum over a range costs a token for each value
  pub values_paid : (r : Range) (t : Tree) (setting : Setting) → IsReal t
      → length (values setting r) ≤ plain_tokens limit (expand_tree words (stated.ranged r t) setting)
  values_paid r t setting h = (summed_some (λ v. expand_tree words t (with_value r setting v))
      (λ v. tree_some t (with_value r setting v) h) (values setting r)).1

  line_some : (s : Statement) → 2 ≤ line_tokens limit s
  line_some (stated.uncertain n b) = omega arith
  line_some (stated.over n) = omega arith
  line_some (stated.set l r p o) = omega arith
  line_some (stated.budget n ms o) = omega arith
  line_some (stated.variable n b) = omega arith
  line_some (stated.adaptive n on b) = omega arith
  line_some (stated.goal s e o) = omega arith
  line_some (stated.row n l r p o) = omega arith

  -- a statement costs two tokens or more for each setting
  pub settings_paid : (s : Indexed Tree) (make : Setting → Statement) (es : List Setting)
      → 2 * length es ≤ lines_tokens limit (map make es)
  settings_paid s make [] = omega arith
  settings_paid s make (e ∷ es) = let k = settings_paid s make es in let l = line_some (make e) in omega (arith, k, l)

-- the tree of an expression has no empty sum and no empty product
mutual
  factor_real : (f : Factor) → IsReal (tree_factor f)
  factor_real (number n) = tt
  factor_real (ref r) = tt
  factor_real (parens e) = expr_real e
  factor_real (sum r e) = expr_real e

  term_real : (t : Term) → IsReal (tree_term t)
  term_real (term f no_factors) = factor_real f
  term_real (term f (times g fs)) = factor_real f

  pub expr_real : (e : Expr) → IsReal (tree_expr e)
  expr_real (expr false t no_terms) = term_real t
  expr_real (expr true t ts) = term_real t
  expr_real (expr false t (signed m u ts)) = term_real t
