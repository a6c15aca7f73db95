-- An expression of version 1 is one without indices: how it is spelled, that it
-- is plain, and that its tree is the reader's.
use Rattle.std.proofs.Common.{◌≡◌, ℕ, Bool, true, false, List, [], ◌∷◌, ◌++◌, refl, ap, ◌∙◌}
use Rattle.std.specs.Prelude.{Option, Some, None}
use Rattle.std.proofs.lemmas.List.{map-append}
use Rattle.rob_index.specs.Expansion.{IsPlain, ArePlainParts, ArePlainFactors, itself, itself_factors, itself_parts}
use Rattle.rob_index.specs.Grammar as plain
use Rattle.rob_index.specs.Statements.{Ref, Tree, TreeFactors, TreeParts}
use Rattle.rob_index.specs.Symbols as is
use Rattle.rob_meaning.proofs.Lists.EachLemmas.{each_left, each_right}
use Rattle.rob_meaning.specs.Places.{Each}
use Rattle.rob_round_trip.specs.Shown.{IsFoundAgain}
use Rattle.rob_syntax.specs.Grammar.{Expr, Factor, Factors, Term, Terms, expr, name, no_factors, no_terms, number, parens, sign_of, signed, spell_expr, spell_factor, spell_factors, spell_minus, spell_number, spell_term, spell_terms, term, times, tree_expr, tree_factor, tree_factors, tree_term, tree_terms}
use Rattle.rob_syntax.specs.Numbered.{numbered_factors, numbered_parts, numbered_tree}
use Rattle.rob_syntax.specs.SeenSymbols.{seen_line, seen_symbol}
use Rattle.rob_syntax.specs.Seen.{seen_numeral}
use Rattle.rob_syntax.specs.declared.symbol.Mark.TheVariants as mark
use Rattle.rob_syntax.specs.declared.symbol.Symbol.{Symbol}
use Rattle.rob_syntax.specs.declared.symbol.Symbol.TheVariants.{Sign}
use Rattle.rob_syntax.specs.declared.syntax.Numeral.{Numeral}
use Rattle.rob_syntax.specs.declared.syntax.Summand.{Summand}
use Rattle.rob_syntax.specs.declared.syntax.Syntax.{Syntax}
use Rattle.rob_syntax.specs.declared.syntax.Syntax.TheVariants as syntax

-- ---- the expression without indices
-- a name without indices
abbrev pub bare_ref : ℕ → Ref
bare_ref k = record { name = k; indices = [] }

abbrev mutual
  pub plain_factor : Factor → plain.Factor
  plain_factor (number n) = plain.number (seen_numeral n)
  plain_factor (name k) = plain.ref (bare_ref k)
  plain_factor (parens e) = plain.parens (plain_expr e)

  pub plain_factors : Factors → plain.Factors
  plain_factors no_factors = plain.no_factors
  plain_factors (times f fs) = plain.times (plain_factor f) (plain_factors fs)

  pub plain_term : Term → plain.Term
  plain_term (term f fs) = plain.term (plain_factor f) (plain_factors fs)

  pub plain_terms : Terms → plain.Terms
  plain_terms no_terms = plain.no_terms
  plain_terms (signed minus t ts) = plain.signed minus (plain_term t) (plain_terms ts)

  pub plain_expr : Expr → plain.Expr
  plain_expr (expr minus t ts) = plain.expr minus (plain_term t) (plain_terms ts)

-- ---- it is spelled as the expression is seen
pub seen_both : (xs ys : List Symbol) {us vs : List is.Symbol} → seen_line xs ≡ us → seen_line ys ≡ vs
    → seen_line (xs ++ ys) ≡ us ++ vs
seen_both xs ys {us} {vs} h k = map-append seen_symbol xs ys ∙ (λ i. h i ++ k i)

pub seen_next : (x : Symbol) (ys : List Symbol) {vs : List is.Symbol} → seen_line ys ≡ vs
    → seen_line (x ∷ ys) ≡ seen_symbol x ∷ vs
seen_next x ys {vs} k = ap (λ (l : List is.Symbol). seen_symbol x ∷ l) k

pub seen_number : (n : Numeral) → seen_line (spell_number n) ≡ plain.spell_number (seen_numeral n)
seen_number n = go n.divisor
  where
    go : (d : Option ℕ) → seen_line (spell_number (record { numerator = n.numerator; divisor = d }))
        ≡ plain.spell_number (record { numerator = n.numerator; divisor = d })
    go None = refl
    go (Some d) = refl

pub seen_minus : (m : Bool) → seen_line (spell_minus m) ≡ plain.spell_minus m
seen_minus true = refl
seen_minus false = refl

seen_sign : (m : Bool) → seen_symbol (sign_of m) ≡ plain.sign_of m
seen_sign true = refl
seen_sign false = refl

mutual
  seen_factor : (f : Factor) → seen_line (spell_factor f) ≡ plain.spell_factor (plain_factor f)
  seen_factor (number n) = seen_number n
  seen_factor (name k) = refl
  seen_factor (parens e) =
      seen_next (Sign mark.Open) (spell_expr e ++ Sign mark.Close ∷ [])
      (seen_both (spell_expr e) (Sign mark.Close ∷ []) (seen_expr e) refl)

  seen_factors : (fs : Factors) → seen_line (spell_factors fs) ≡ plain.spell_factors (plain_factors fs)
  seen_factors no_factors = refl
  seen_factors (times f fs) = seen_next (Sign mark.Star) (spell_factor f ++ spell_factors fs)
      (seen_both (spell_factor f) (spell_factors fs) (seen_factor f) (seen_factors fs))

  seen_term : (t : Term) → seen_line (spell_term t) ≡ plain.spell_term (plain_term t)
  seen_term (term f fs) = seen_both (spell_factor f) (spell_factors fs) (seen_factor f) (seen_factors fs)

  seen_terms : (ts : Terms) → seen_line (spell_terms ts) ≡ plain.spell_terms (plain_terms ts)
  seen_terms no_terms = refl
  seen_terms (signed m t ts) =
      seen_next (sign_of m) (spell_term t ++ spell_terms ts)
      (seen_both (spell_term t) (spell_terms ts) (seen_term t) (seen_terms ts))
      ∙ ap (λ (x : is.Symbol). x ∷ (plain.spell_term (plain_term t) ++ plain.spell_terms (plain_terms ts)))
      (seen_sign m)

  pub seen_expr : (e : Expr) → seen_line (spell_expr e) ≡ plain.spell_expr (plain_expr e)
  seen_expr (expr m t ts) =
      seen_both (spell_minus m) (spell_term t ++ spell_terms ts) (seen_minus m)
      (seen_both (spell_term t) (spell_terms ts) (seen_term t) (seen_terms ts))

-- ---- it is plain
mutual
  plain_of_factor : (f : Factor) → IsPlain (plain.tree_factor (plain_factor f))
  plain_of_factor (number n) = tt
  plain_of_factor (name k) = refl
  plain_of_factor (parens e) = plain_of_expr e

  plain_of_factors : (fs : Factors) → ArePlainFactors (plain.tree_factors (plain_factors fs))
  plain_of_factors no_factors = tt
  plain_of_factors (times f fs) = (plain_of_factor f, plain_of_factors fs)

  plain_of_term : (t : Term) → IsPlain (plain.tree_term (plain_term t))
  plain_of_term (term f no_factors) = plain_of_factor f
  plain_of_term (term f (times g fs)) = (plain_of_factor f, (plain_of_factor g, plain_of_factors fs))

  plain_of_terms : (ts : Terms) → ArePlainParts (plain.tree_terms (plain_terms ts))
  plain_of_terms no_terms = tt
  plain_of_terms (signed m t ts) = (plain_of_term t, plain_of_terms ts)

  pub plain_of_expr : (e : Expr) → IsPlain (plain.tree_expr (plain_expr e))
  plain_of_expr (expr false t no_terms) = plain_of_term t
  plain_of_expr (expr true t ts) = (plain_of_term t, plain_of_terms ts)
  plain_of_expr (expr false t (signed m u us)) = (plain_of_term t, plain_of_terms (signed m u us))

-- ---- its tree with numbers for names is the reader's, where names are found again
module _ (words : List (List ℕ)) where
  abbrev pub AreFound : List Symbol → Type 0
  AreFound symbols = Each (IsFoundAgain words) symbols

  -- the tree with numbers for names
  abbrev pub back : Tree → Syntax
  back t = numbered_tree words (itself words t)

  abbrev factors_back : TreeFactors → List Syntax
  factors_back ts = numbered_factors words (itself_factors words ts)

  abbrev parts_back : TreeParts → List Summand
  parts_back ts = numbered_parts words (itself_parts words ts)

  mutual
    back_factor : (f : Factor) → AreFound (spell_factor f) → back (plain.tree_factor (plain_factor f)) ≡ tree_factor f
    back_factor (number n) h = refl
    back_factor (name k) h = ap syntax.Name h.0
    back_factor (parens e) h = back_expr e (each_left (IsFoundAgain words) (spell_expr e) (Sign mark.Close ∷ []) h.1)

    back_factors : (fs : Factors) → AreFound (spell_factors fs)
        → factors_back (plain.tree_factors (plain_factors fs)) ≡ tree_factors fs
    back_factors no_factors h = refl
    back_factors (times f fs) h =
        let one = back_factor f (each_left (IsFoundAgain words) (spell_factor f) (spell_factors fs) h.1) in
        let more = back_factors fs (each_right (IsFoundAgain words) (spell_factor f) (spell_factors fs) h.1) in
        λ i. one i ∷ more i

    back_term : (t : Term) → AreFound (spell_term t) → back (plain.tree_term (plain_term t)) ≡ tree_term t
    back_term (term f no_factors) h = back_factor f (each_left (IsFoundAgain words) (spell_factor f) [] h)
    back_term (term f (times g fs)) h =
        let rest = each_right (IsFoundAgain words) (spell_factor f) (spell_factors (times g fs)) h in
        let one = back_factor f (each_left (IsFoundAgain words) (spell_factor f) (spell_factors (times g fs)) h) in
        let two = back_factor g (each_left (IsFoundAgain words) (spell_factor g) (spell_factors fs) rest.1) in
        let more = back_factors fs (each_right (IsFoundAgain words) (spell_factor g) (spell_factors fs) rest.1) in
        λ i. syntax.Product (one i ∷ two i ∷ more i)

    back_terms : (ts : Terms) → AreFound (spell_terms ts)
        → parts_back (plain.tree_terms (plain_terms ts)) ≡ tree_terms ts
    back_terms no_terms h = refl
    back_terms (signed m t ts) h =
        let one = back_term t (each_left (IsFoundAgain words) (spell_term t) (spell_terms ts) h.1) in
        let more = back_terms ts (each_right (IsFoundAgain words) (spell_term t) (spell_terms ts) h.1) in
        λ i. record { minus = m; inner = one i } ∷ more i

    pub back_expr : (e : Expr) → AreFound (spell_expr e) → back (plain.tree_expr (plain_expr e)) ≡ tree_expr e
    back_expr (expr false t no_terms) h = back_term t (each_left (IsFoundAgain words) (spell_term t) [] h)
    back_expr (expr true t ts) h =
        let one = back_term t (each_left (IsFoundAgain words) (spell_term t) (spell_terms ts) h.1) in
        let more = back_terms ts (each_right (IsFoundAgain words) (spell_term t) (spell_terms ts) h.1) in
        λ i. syntax.Sum (record { minus = true; inner = one i } ∷ more i)
    back_expr (expr false t (signed m u us)) h =
        let one = back_term t (each_left (IsFoundAgain words) (spell_term t) (spell_terms (signed m u us)) h) in
        let more = back_terms (signed m u us)
        (each_right (IsFoundAgain words) (spell_term t) (spell_terms (signed m u us)) h) in
        λ i. syntax.Sum (record { minus = false; inner = one i } ∷ more i)
