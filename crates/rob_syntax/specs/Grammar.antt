-- Expressions: a data type for each line of their grammar, how each alternative is spelled, and its tree.
use Rattle.std.specs.Prelude.{ℕ, Bool, true, false, List, [], ◌∷◌, ◌++◌, Option, Some, None}
use Rattle.rob_syntax.specs.declared.symbol.Symbol.{Symbol}
use Rattle.rob_syntax.specs.declared.symbol.Symbol.TheVariants.{Name, Digits, Sign}
use Rattle.rob_syntax.specs.declared.symbol.Mark.TheVariants.{Plus, Minus, Star, Slash, Open, Close}
use Rattle.rob_syntax.specs.declared.syntax.Numeral.{Numeral}
use Rattle.rob_syntax.specs.declared.syntax.Syntax.{Syntax}
use Rattle.rob_syntax.specs.declared.syntax.Syntax.TheVariants as syntax
use Rattle.rob_syntax.specs.declared.syntax.Summand.{Summand}

mutual
  -- number | name | "(" expr ")"
  pub data Factor : Type 0 where
    number : Numeral → Factor
    name : ℕ → Factor
    parens : Expr → Factor

  -- { "*" factor }
  pub data Factors : Type 0 where
    no_factors : Factors
    times : Factor → Factors → Factors

  -- factor { "*" factor }
  pub data Term : Type 0 where
    term : Factor → Factors → Term

  -- { ( "+" | "-" ) term }
  pub data Terms : Type 0 where
    no_terms : Terms
    signed : (minus : Bool) → Term → Terms → Terms

  -- [ "-" ] term { ( "+" | "-" ) term }
  pub data Expr : Type 0 where
    expr : (minus : Bool) → Term → Terms → Expr

-- digits [ "/" digits ]
abbrev pub spell_divisor : Option ℕ → List Symbol
spell_divisor None = []
spell_divisor (Some d) = Sign Slash ∷ Digits d ∷ []

-- a number as it is written
abbrev pub spell_number : Numeral → List Symbol
spell_number n = Digits n.numerator ∷ spell_divisor n.divisor

-- the `-` in front of an expression, if it is there
abbrev pub spell_minus : Bool → List Symbol
spell_minus true = Sign Minus ∷ []
spell_minus false = []

-- the sign in front of a term
abbrev pub sign_of : Bool → Symbol
sign_of true = Sign Minus
sign_of false = Sign Plus

abbrev mutual
  -- a factor as it is written
  pub spell_factor : Factor → List Symbol
  spell_factor (number n) = spell_number n
  spell_factor (name span) = Name span ∷ []
  spell_factor (parens e) = Sign Open ∷ (spell_expr e ++ Sign Close ∷ [])

  -- factors behind the first, each with its `*`
  pub spell_factors : Factors → List Symbol
  spell_factors no_factors = []
  spell_factors (times f fs) = Sign Star ∷ (spell_factor f ++ spell_factors fs)

  -- a term as it is written
  pub spell_term : Term → List Symbol
  spell_term (term f fs) = spell_factor f ++ spell_factors fs

  -- terms behind the first, each with its sign
  pub spell_terms : Terms → List Symbol
  spell_terms no_terms = []
  spell_terms (signed minus t ts) = sign_of minus ∷ (spell_term t ++ spell_terms ts)

  -- an expression as it is written
  pub spell_expr : Expr → List Symbol
  spell_expr (expr minus t ts) = spell_minus minus ++ (spell_term t ++ spell_terms ts)

abbrev mutual
  -- parentheses leave the tree of what they hold
  pub tree_factor : Factor → Syntax
  tree_factor (number n) = syntax.Number n
  tree_factor (name span) = syntax.Name span
  tree_factor (parens e) = tree_expr e

  -- the trees of factors
  pub tree_factors : Factors → List Syntax
  tree_factors no_factors = []
  tree_factors (times f fs) = tree_factor f ∷ tree_factors fs

  -- a term of one factor is that factor
  pub tree_term : Term → Syntax
  tree_term (term f no_factors) = tree_factor f
  tree_term (term f (times g fs)) = syntax.Product (tree_factor f ∷ tree_factor g ∷ tree_factors fs)

  -- the trees of terms, each with its sign
  pub tree_terms : Terms → List Summand
  tree_terms no_terms = []
  tree_terms (signed minus t ts) = record { minus = minus; inner = tree_term t } ∷ tree_terms ts

  -- an expression of one term without `-` is that term
  pub tree_expr : Expr → Syntax
  tree_expr (expr false t no_terms) = tree_term t
  tree_expr (expr minus t ts) = syntax.Sum (record { minus = minus; inner = tree_term t } ∷ tree_terms ts)
