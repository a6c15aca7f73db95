-- The trees of plain statements that a line stands for are as a reader makes them: a sum has two parts or one that is
-- subtracted, and a product has two factors or more.
use Rattle.std.proofs.Common.{true, false, List, [], ◌∷◌, map, sym, subst}
use Rattle.rob_meaning.specs.Places.{Each}
use Rattle.rob_index.specs.Statements.{Name, Plain, Parts, Factors, Statement, TreeParts, TreeFactors, Indexed}
use Rattle.rob_index.specs.Statements as stated
use Rattle.rob_index.specs.Grammar as spelled
use Rattle.rob_index.specs.Grammar.{Expr, tree_factor, tree_factors, tree_term, tree_terms, tree_expr}
use Rattle.rob_index.specs.Settings.{Setting, values, with_value, settings}
use Rattle.rob_index.specs.Expansion.{added, summed, ranges_of, expand_tree, expand_parts, expand_factors, statement_at, expand}
use Rattle.rob_index.specs.Lines.{statement_of}
use Rattle.rob_index.specs.Membership.{Among, here, there}
use Rattle.rob_syntax.specs.Trees.{summands_of, operands_of, tree_of, part_of}
use Rattle.rob_syntax.specs.Trees as trees
use Rattle.rob_syntax.specs.Numbered.{numbered_tree, numbered_parts, numbered_factors, numbered, own_numeral}
use Rattle.rob_syntax.specs.Symbols.{number_of}
use Rattle.rob_syntax.proofs.TreeLemmas.{number_is, name_is, sum_is, product_is}
use Rattle.rob_rules.specs.Faults.{expressions}
use Rattle.rob_rules.specs.RealTrees.{IsReal, AreReal, OperandsReal, IsLongSum, IsLongProduct}
use Rattle.rob_rules.proofs.Trees.WalkLemmas.{part_is}

-- ---- trees with indices
-- two parts, or one that is subtracted
abbrev LongParts : TreeParts → Type 0
LongParts stated.no_parts = ⊥
LongParts (stated.part true t ts) = Unit {0}
LongParts (stated.part false t stated.no_parts) = ⊥
LongParts (stated.part false t (stated.part m u us)) = Unit {0}

-- two factors or more
abbrev LongFactors : TreeFactors → Type 0
LongFactors stated.no_factors = ⊥
LongFactors (stated.factor f stated.no_factors) = ⊥
LongFactors (stated.factor f (stated.factor g gs)) = Unit {0}

abbrev mutual
  Real : stated.Tree → Type 0
  Real (stated.number n) = Unit {0}
  Real (stated.ref r) = Unit {0}
  Real (stated.sum ts) = LongParts ts × RealParts ts
  Real (stated.product fs) = LongFactors fs × RealFactors fs
  Real (stated.ranged r t) = Real t

  RealParts : TreeParts → Type 0
  RealParts stated.no_parts = Unit {0}
  RealParts (stated.part m t ts) = Real t × RealParts ts

  RealFactors : TreeFactors → Type 0
  RealFactors stated.no_factors = Unit {0}
  RealFactors (stated.factor f fs) = Real f × RealFactors fs

mutual
  factor_real : (f : spelled.Factor) → Real (tree_factor f)
  factor_real (spelled.number n) = tt
  factor_real (spelled.ref r) = tt
  factor_real (spelled.parens e) = expr_real e
  factor_real (spelled.sum r e) = expr_real e

  factors_real : (fs : spelled.Factors) → RealFactors (tree_factors fs)
  factors_real spelled.no_factors = tt
  factors_real (spelled.times f fs) = (factor_real f, factors_real fs)

  term_real : (t : spelled.Term) → Real (tree_term t)
  term_real (spelled.term f spelled.no_factors) = factor_real f
  term_real (spelled.term f (spelled.times g gs)) = (tt, (factor_real f, (factor_real g, factors_real gs)))

  terms_real : (ts : spelled.Terms) → RealParts (tree_terms ts)
  terms_real spelled.no_terms = tt
  terms_real (spelled.signed m t ts) = (term_real t, terms_real ts)

  expr_real : (e : Expr) → Real (tree_expr e)
  expr_real (spelled.expr false t spelled.no_terms) = term_real t
  expr_real (spelled.expr false t (spelled.signed m u us)) = (tt, (term_real t, (term_real u, terms_real us)))
  expr_real (spelled.expr true t ts) = (tt, (term_real t, terms_real ts))

-- ---- plain trees
abbrev LongPlain : Parts → Type 0
LongPlain stated.no_parts = ⊥
LongPlain (stated.part true p ps) = Unit {0}
LongPlain (stated.part false p stated.no_parts) = ⊥
LongPlain (stated.part false p (stated.part m q qs)) = Unit {0}

abbrev LongProduct : Factors → Type 0
LongProduct stated.no_factors = ⊥
LongProduct (stated.factor p stated.no_factors) = ⊥
LongProduct (stated.factor p (stated.factor q qs)) = Unit {0}

abbrev mutual
  RealPlain : Plain → Type 0
  RealPlain (stated.number n) = Unit {0}
  RealPlain (stated.name n) = Unit {0}
  RealPlain (stated.sum ps) = LongPlain ps × PlainParts ps
  RealPlain (stated.product ps) = LongProduct ps × PlainFactors ps

  PlainParts : Parts → Type 0
  PlainParts stated.no_parts = Unit {0}
  PlainParts (stated.part m p ps) = RealPlain p × PlainParts ps

  PlainFactors : Factors → Type 0
  PlainFactors stated.no_factors = Unit {0}
  PlainFactors (stated.factor p ps) = RealPlain p × PlainFactors ps

all_added : (ps : List Plain) → Each RealPlain ps → PlainParts (added ps)
all_added [] h = tt
all_added (p ∷ ps) h = (h.0, all_added ps h.1)

summed_real : (ps : List Plain) → Each RealPlain ps → RealPlain (summed ps)
summed_real [] h = tt
summed_real (p ∷ []) h = h.0
summed_real (p ∷ q ∷ ps) h = (tt, all_added (p ∷ q ∷ ps) h)

each_value : {A B : Type 0} (P : B → Type 0) (f : A → B) (xs : List A) → ((x : A) → P (f x)) → Each P (map f xs)
each_value P f [] h = tt
each_value P f (x ∷ xs) h = (h x, each_value P f xs h)

module _ (words : List Name) where
  mutual
    tree_expands : (t : stated.Tree) → Real t → (e : Setting) → RealPlain (expand_tree words t e)
    tree_expands (stated.number n) h e = tt
    tree_expands (stated.ref r) h e = tt
    tree_expands (stated.sum ts) h e = (long_expands ts h.0 e, parts_expand ts h.1 e)
    tree_expands (stated.product fs) h e = (product_expands fs h.0 e, factors_expand fs h.1 e)
    tree_expands (stated.ranged r t) h e =
        summed_real (map (λ v. expand_tree words t (with_value r e v)) (values e r))
        (each_value RealPlain (λ v. expand_tree words t (with_value r e v)) (values e r)
        (λ v. tree_expands t h (with_value r e v)))

    parts_expand : (ts : TreeParts) → RealParts ts → (e : Setting) → PlainParts (expand_parts words ts e)
    parts_expand stated.no_parts h e = tt
    parts_expand (stated.part m t ts) h e = (tree_expands t h.0 e, parts_expand ts h.1 e)

    factors_expand : (fs : TreeFactors) → RealFactors fs → (e : Setting) → PlainFactors (expand_factors words fs e)
    factors_expand stated.no_factors h e = tt
    factors_expand (stated.factor f fs) h e = (tree_expands f h.0 e, factors_expand fs h.1 e)

    long_expands : (ts : TreeParts) → LongParts ts → (e : Setting) → LongPlain (expand_parts words ts e)
    long_expands stated.no_parts h e = h
    long_expands (stated.part true t ts) h e = tt
    long_expands (stated.part false t stated.no_parts) h e = h
    long_expands (stated.part false t (stated.part m u us)) h e = tt

    product_expands : (fs : TreeFactors) → LongFactors fs → (e : Setting) → LongProduct (expand_factors words fs e)
    product_expands stated.no_factors h e = h
    product_expands (stated.factor f stated.no_factors) h e = h
    product_expands (stated.factor f (stated.factor g gs)) h e = tt

-- ---- with numbers for names
module _ (words : List Name) where
  mutual
    numbered_real : (p : Plain) → RealPlain p → IsReal (tree_of (numbered_tree words p))
    numbered_real (stated.number n) h = subst IsReal (sym (number_is (own_numeral n))) tt
    numbered_real (stated.name n) h = subst IsReal (sym (name_is (number_of words n))) tt
    numbered_real (stated.sum ps) h =
        subst IsReal (sym (sum_is (numbered_parts words ps))) (long_numbered ps h.0, parts_numbered ps h.1)
    numbered_real (stated.product ps) h =
        subst IsReal (sym (product_is (numbered_factors words ps))) (product_numbered ps h.0, factors_numbered ps h.1)

    parts_numbered : (ps : Parts) → PlainParts ps → AreReal (summands_of (map part_of (numbered_parts words ps)))
    parts_numbered stated.no_parts h = tt
    parts_numbered (stated.part m p ps) h =
        subst (λ (x : trees.Part).
        AreReal (trees.summand x.minus x.inner (summands_of (map part_of (numbered_parts words ps)))))
        (sym (part_is (record { minus = m; inner = numbered_tree words p })))
        (numbered_real p h.0, parts_numbered ps h.1)

    factors_numbered : (ps : Factors) → PlainFactors ps
        → OperandsReal (operands_of (map tree_of (numbered_factors words ps)))
    factors_numbered stated.no_factors h = tt
    factors_numbered (stated.factor p ps) h = (numbered_real p h.0, factors_numbered ps h.1)

    long_numbered : (ps : Parts) → LongPlain ps → IsLongSum (summands_of (map part_of (numbered_parts words ps)))
    long_numbered stated.no_parts h = h
    long_numbered (stated.part true p ps) h =
        subst (λ (x : trees.Part).
        IsLongSum (trees.summand x.minus x.inner (summands_of (map part_of (numbered_parts words ps)))))
        (sym (part_is (record { minus = true; inner = numbered_tree words p }))) tt
    long_numbered (stated.part false p stated.no_parts) h = absurd h
    long_numbered (stated.part false p (stated.part m q qs)) h =
        subst (λ (x : trees.Part).
        IsLongSum (trees.summand x.minus x.inner
        (summands_of (map part_of (numbered_parts words (stated.part m q qs))))))
        (sym (part_is (record { minus = false; inner = numbered_tree words p }))) tt

    product_numbered : (ps : Factors) → LongProduct ps
        → IsLongProduct (operands_of (map tree_of (numbered_factors words ps)))
    product_numbered stated.no_factors h = h
    product_numbered (stated.factor p stated.no_factors) h = h
    product_numbered (stated.factor p (stated.factor q qs)) h = tt

-- ---- statements
module _ (own words : List Name) where
  setting_real : (l : Indexed Expr) (e : Setting)
      → Each IsReal (expressions (numbered words (statement_at own (statement_of l) e)))
  setting_real (stated.uncertain r b rs) e = tt
  setting_real (stated.over r rs) e = tt
  setting_real (stated.set s rs) e = (
    numbered_real words _ (tree_expands own (tree_expr s.left) (expr_real s.left) e),
    (numbered_real words _ (tree_expands own (tree_expr s.right) (expr_real s.right) e), tt),
  )
  setting_real (stated.budget n ms o) e = tt
  setting_real (stated.variable r b rs) e = tt
  setting_real (stated.adaptive r on b rs) e = tt
  setting_real (stated.goal s x o rs) e = (numbered_real words _ (tree_expands own (tree_expr x) (expr_real x) e), tt)
  setting_real (stated.row r s rs) e = (
    numbered_real words _ (tree_expands own (tree_expr s.left) (expr_real s.left) e),
    (numbered_real words _ (tree_expands own (tree_expr s.right) (expr_real s.right) e), tt),
  )

each_among : {A : Type 0} (P : A → Type 0) (xs : List A) → Each P xs → (x : A) → Among x xs → P x
each_among P [] h x a = elim a [ ]
each_among P (y ∷ ys) h x here = h.0
each_among P (y ∷ ys) h x (there a) = each_among P ys h.1 x a

-- the plain statements of a line
pub expanded_real : (own words : List Name) (l : Indexed Expr) (p : Statement) → Among p (expand own (statement_of l))
    → Each IsReal (expressions (numbered words p))
expanded_real own words l p a =
    each_among (λ q. Each IsReal (expressions (numbered words q)))
    (map (statement_at own (statement_of l)) (settings (ranges_of (statement_of l)) []))
    (each_value (λ q. Each IsReal (expressions (numbered words q))) (statement_at own (statement_of l))
    (settings (ranges_of (statement_of l)) []) (setting_real own words l)) p a
