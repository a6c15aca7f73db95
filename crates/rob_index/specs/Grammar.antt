-- The grammar of lines of version 2: a data type for each line of it, how each alternative is spelled, and the tree
-- of an expression.
use Rattle.std.specs.Prelude.{ℕ, Bool, true, false, List, [], ◌∷◌, ◌++◌, Option, Some, None}
use Rattle.rob_index.specs.Symbols.{Symbol}
use Rattle.rob_index.specs.Symbols as is
use Rattle.rob_index.specs.Statements.{Numeral, Signed, Bounds, between, Atom, Step, Index, Ref, Range, Tree, TreeParts, TreeFactors}
use Rattle.rob_index.specs.Statements as stated

mutual
  -- number | ref | "(" expr ")" | "sum" "(" range ":" expr ")"
  pub data Factor : Type 0 where
    number : Numeral → Factor
    ref : Ref → Factor
    parens : Expr → Factor
    sum : Range → Expr → Factor

  -- { "*" factor }
  pub data Factors : Type 0 where
    no_factors : Factors
    times : Factor → Factors → Factors

  -- factor { "*" factor }
  pub data Term : Type 0 where
    term : Factor → Factors → Term

  -- { ( "+" | "-" ) term }
  pub data Terms : Type 0 where
    no_terms : Terms
    signed : (minus : Bool) → Term → Terms → Terms

  -- [ "-" ] term { ( "+" | "-" ) term }
  pub data Expr : Type 0 where
    expr : (minus : Bool) → Term → Terms → Expr

-- ---- indices, ranges and refs
-- "+", or "-"
abbrev pub sign_of : Bool → Symbol
sign_of true = is.sign is.minus
sign_of false = is.sign is.plus

-- digits, or a name
abbrev pub spell_atom : Atom → Symbol
spell_atom (stated.digits n) = is.digits n
spell_atom (stated.bound k) = is.name k

-- { ( "+" | "-" ) atom }
abbrev pub spell_steps : List Step → List Symbol
spell_steps [] = []
spell_steps (s ∷ ss) = sign_of s.minus ∷ spell_atom s.atom ∷ spell_steps ss

-- atom { ( "+" | "-" ) atom }
abbrev pub spell_index : Index → List Symbol
spell_index x = spell_atom x.first ∷ spell_steps x.more

-- { "," item }
abbrev pub spell_more : {A : Type 0} → (A → List Symbol) → List A → List Symbol
spell_more spell [] = []
spell_more spell (x ∷ xs) = is.sign is.comma ∷ (spell x ++ spell_more spell xs)

-- [ item { "," item } ]
abbrev pub spell_list : {A : Type 0} → (A → List Symbol) → List A → List Symbol
spell_list spell [] = []
spell_list spell (x ∷ xs) = spell x ++ spell_more spell xs

-- [ "[" index { "," index } "]" ]
abbrev pub spell_indices : List Index → List Symbol
spell_indices [] = []
spell_indices (x ∷ xs) = is.sign is.open_bracket ∷ (spell_list spell_index (x ∷ xs) ++ is.sign is.close_bracket ∷ [])

-- name [ "[" index { "," index } "]" ]
abbrev pub spell_ref : Ref → List Symbol
spell_ref r = is.name r.name ∷ spell_indices r.indices

-- name "=" index "to" index
abbrev pub spell_range : Range → List Symbol
spell_range r = is.name r.name ∷ is.sign is.equal ∷ (spell_index r.from ++ is.word is.to ∷ spell_index r.upto)

-- [ "for" range [ "," range ] ]
abbrev pub spell_ranges : List Range → List Symbol
spell_ranges [] = []
spell_ranges (r ∷ rs) = is.word is.for ∷ spell_list spell_range (r ∷ rs)

-- [ "over" ref ]
abbrev pub spell_over : Option Ref → List Symbol
spell_over None = []
spell_over (Some r) = is.word is.over ∷ spell_ref r

-- ---- numbers and bounds
-- [ "/" digits ]
abbrev pub spell_divisor : Option ℕ → List Symbol
spell_divisor None = []
spell_divisor (Some d) = is.sign is.slash ∷ is.digits d ∷ []

-- digits [ "/" digits ]
abbrev pub spell_number : Numeral → List Symbol
spell_number n = is.digits n.numerator ∷ spell_divisor n.divisor

-- [ "-" ]
abbrev pub spell_minus : Bool → List Symbol
spell_minus true = is.sign is.minus ∷ []
spell_minus false = []

-- [ "-" ] number
abbrev pub spell_signed : Signed → List Symbol
spell_signed s = spell_minus s.minus ++ spell_number s.number

-- [ "in" "[" signed "," signed "]" | ">=" signed | "<=" signed ]
abbrev pub spell_bounds : Option Bounds → List Symbol
spell_bounds None = []
spell_bounds (Some (between a b)) =
    is.word is.within ∷ is.sign is.open_bracket
    ∷ (spell_signed a ++ is.sign is.comma ∷ (spell_signed b ++ is.sign is.close_bracket ∷ []))
spell_bounds (Some (stated.at_least a)) = is.sign is.at_least ∷ spell_signed a
spell_bounds (Some (stated.at_most b)) = is.sign is.at_most ∷ spell_signed b

-- ---- expressions
abbrev mutual
  pub spell_factor : Factor → List Symbol
  spell_factor (number n) = spell_number n
  spell_factor (ref r) = spell_ref r
  spell_factor (parens e) = is.sign is.opening ∷ (spell_expr e ++ is.sign is.closing ∷ [])
  spell_factor (sum r e) =
      is.word is.sum ∷ is.sign is.opening
      ∷ (spell_range r ++ is.sign is.colon ∷ (spell_expr e ++ is.sign is.closing ∷ []))

  pub spell_factors : Factors → List Symbol
  spell_factors no_factors = []
  spell_factors (times f fs) = is.sign is.star ∷ (spell_factor f ++ spell_factors fs)

  pub spell_term : Term → List Symbol
  spell_term (term f fs) = spell_factor f ++ spell_factors fs

  pub spell_terms : Terms → List Symbol
  spell_terms no_terms = []
  spell_terms (signed minus t ts) = sign_of minus ∷ (spell_term t ++ spell_terms ts)

  pub spell_expr : Expr → List Symbol
  spell_expr (expr minus t ts) = spell_minus minus ++ (spell_term t ++ spell_terms ts)

abbrev mutual
  -- parentheses leave the tree of what they hold; a sum over a range is a tree of its own
  pub tree_factor : Factor → Tree
  tree_factor (number n) = stated.number n
  tree_factor (ref r) = stated.ref r
  tree_factor (parens e) = tree_expr e
  tree_factor (sum r e) = stated.ranged r (tree_expr e)

  pub tree_factors : Factors → TreeFactors
  tree_factors no_factors = stated.no_factors
  tree_factors (times f fs) = stated.factor (tree_factor f) (tree_factors fs)

  -- a term of one factor is that factor
  pub tree_term : Term → Tree
  tree_term (term f no_factors) = tree_factor f
  tree_term (term f (times g fs)) =
      stated.product (stated.factor (tree_factor f) (stated.factor (tree_factor g) (tree_factors fs)))

  pub tree_terms : Terms → TreeParts
  tree_terms no_terms = stated.no_parts
  tree_terms (signed minus t ts) = stated.part minus (tree_term t) (tree_terms ts)

  -- an expression of one term without `-` is that term
  pub tree_expr : Expr → Tree
  tree_expr (expr false t no_terms) = tree_term t
  tree_expr (expr minus t ts) = stated.sum (stated.part minus (tree_term t) (tree_terms ts))
