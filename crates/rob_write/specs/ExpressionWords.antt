-- How numbers and expressions are written, word by word and sign by sign.
use Rattle.std.specs.Prelude.{ℕ, ◌++◌, ◌==◌, Bool, true, false, List, [], ◌∷◌, get_or, nat_abs, int_lt, pos, if◌then◌else◌}
use Rattle.rob_algebra.specs.Fraction.{Fraction}
use Rattle.rob_meaning.specs.Expressions.{Expression, number, parameter, variable, adaptive, adaptive_in, sum, product, Terms, no_terms, term, Factors, no_factors, factor}
use Rattle.rob_meaning.specs.Named.{written_names, variable_names, adaptive_names}
use Rattle.rob_meaning.specs.Names.{Name}
use Rattle.rob_meaning.specs.RobustModel.{RobustModel}
use Rattle.rob_syntax.specs.declared.symbol.Mark.{Mark}
use Rattle.rob_syntax.specs.declared.symbol.Mark.TheVariants as mark
use Rattle.rob_write.specs.Pages.{Written, name, digits, sign, negative}

-- ---- numbers, in lowest terms
-- the divisor, unless it is 1
abbrev pub divisor_words : ℕ → List Written
divisor_words den = if den == 1 then [] else (sign mark.Slash ∷ (digits den ∷ []))

-- the `-` in front, if there is one
abbrev pub minus_words : Bool → List Written
minus_words minus = if minus then (negative ∷ []) else []

-- a number
abbrev pub number_words : Fraction → List Written
number_words q = minus_words (int_lt q.num (pos 0)) ++ (digits (nat_abs q.num) ∷ divisor_words q.den)

-- ---- expressions
abbrev pub is_sum : Expression → Bool
is_sum (sum ts) = true
is_sum _ = false

-- it is a sum or a product
abbrev pub is_compound : Expression → Bool
is_compound (sum ts) = true
is_compound (product fs) = true
is_compound _ = false

-- a parenthesis, if there is one
abbrev pub paren : Bool → Mark → List Written
paren is_there m = if is_there then (sign m ∷ []) else []

-- in parentheses, or not
abbrev pub enclosed : Bool → List Written → List Written
enclosed is_inside ws = paren is_inside mark.Open ++ (ws ++ paren is_inside mark.Close)

-- in front of a term: the first has a sign only where it is subtracted
abbrev pub lead : (first minus : Bool) → List Written
lead true minus = minus_words minus
lead false true = sign mark.Minus ∷ []
lead false false = sign mark.Plus ∷ []

-- in front of a factor
abbrev pub times : (first : Bool) → List Written
times true = []
times false = sign mark.Star ∷ []

-- in front of an item of a list
abbrev pub comma : (first : Bool) → List Written
comma true = []
comma false = sign mark.Comma ∷ []

-- items with commas between them
abbrev pub listed : {A : Type 0} → (A → List Written) → Bool → List A → List Written
listed words first [] = []
listed words first (x ∷ xs) = comma first ++ (words x ++ listed words false xs)

-- the names of what an expression that is written holds, and of the sets
pub record Naming : Type 0 where
  pub parameters : List Name
  pub sets : List Name
  pub variables : List Name
  pub adaptives : List Name

-- the names of a model, by which its written parts are written
abbrev pub naming_of : RobustModel → Naming
naming_of m =
    record { parameters = written_names m; sets = m.sets; variables = variable_names m; adaptives = adaptive_names m }

-- the name of this number
abbrev pub name_at : List Name → ℕ → Written
name_at names k = name (get_or names k [])

module _ (names : Naming) where
  abbrev mutual
    -- a sum inside a sum or a product stands in parentheses, and a product inside a product does
    pub expression_words : Expression → List Written
    expression_words (number q) = number_words q
    expression_words (parameter k) = name_at names.parameters k ∷ []
    expression_words (variable k) = name_at names.variables k ∷ []
    expression_words (adaptive y) = name_at names.adaptives y ∷ []
    expression_words (adaptive_in y S) = name_at names.adaptives y ∷ []
    expression_words (sum ts) = term_words true ts
    expression_words (product fs) = factor_words true fs

    pub term_words : Bool → Terms → List Written
    term_words first no_terms = []
    term_words first (term minus e ts) =
        lead first minus ++ (enclosed (is_sum e) (expression_words e) ++ term_words false ts)

    pub factor_words : Bool → Factors → List Written
    factor_words first no_factors = []
    factor_words first (factor e fs) =
        times first ++ (enclosed (is_compound e) (expression_words e) ++ factor_words false fs)
