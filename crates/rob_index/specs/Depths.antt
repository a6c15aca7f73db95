-- How many parentheses are open at once: in the canonical text of a plain expression, and in an expression as it is
-- written, where the parenthesis behind `sum` counts as two.
use Rattle.std.specs.Prelude.{true, false, ℕ, ◌+◌, max, Bool, if◌then◌else◌, ◌-◌, List, [], ◌∷◌}
use Rattle.rob_index.specs.Symbols.{Symbol, name, digits, sign, word}
use Rattle.rob_index.specs.Symbols as is
use Rattle.rob_index.specs.Statements.{Indexed, Plain, Parts, Factors, Statement}
use Rattle.rob_index.specs.Statements as stated
use Rattle.rob_index.specs.Grammar.{Factor, Term, Terms, Expr, number, ref, parens, sum, no_factors, times, term, no_terms, signed, expr}
use Rattle.rob_index.specs.Grammar as spelled
use Rattle.rob_index.specs.Counting.{is_sum, is_compound}

-- 1 where there are parentheses
abbrev pub one_if : Bool → ℕ
one_if b = if b then 1 else 0

abbrev mutual
  pub depth : Plain → ℕ
  depth (stated.number n) = 0
  depth (stated.name k) = 0
  depth (stated.sum ps) = parts_depth ps
  depth (stated.product ps) = factors_depth ps

  -- a sum inside a sum stands in parentheses
  pub parts_depth : Parts → ℕ
  parts_depth stated.no_parts = 0
  parts_depth (stated.part minus p ps) = max (one_if (is_sum 0 p) + depth p) (parts_depth ps)

  -- a sum or a product inside a product does
  pub factors_depth : Factors → ℕ
  factors_depth stated.no_factors = 0
  factors_depth (stated.factor p ps) = max (one_if (is_compound 0 p) + depth p) (factors_depth ps)

abbrev mutual
  pub factor_open : Factor → ℕ
  factor_open (number n) = 0
  factor_open (ref r) = 0
  factor_open (parens e) = 1 + expr_open e
  factor_open (sum r e) = 2 + expr_open e

  pub factors_open : spelled.Factors → ℕ
  factors_open no_factors = 0
  factors_open (times f fs) = max (factor_open f) (factors_open fs)

  pub term_open : Term → ℕ
  term_open (term f fs) = max (factor_open f) (factors_open fs)

  pub terms_open : Terms → ℕ
  terms_open no_terms = 0
  terms_open (signed m t ts) = max (term_open t) (terms_open ts)

  pub expr_open : Expr → ℕ
  expr_open (expr m t ts) = max (term_open t) (terms_open ts)

-- ---- as the tokens of a line are read from the left
abbrev pub weight : Bool → ℕ
weight b = if b then 2 else 1

-- the most that is open at once behind some symbols: so much is open, by these parentheses with the innermost first,
-- and the symbol in front is `sum` or not
abbrev pub deepest : ℕ → List ℕ → Bool → List Symbol → ℕ
deepest d open_ones b [] = d
deepest d open_ones b (name k ∷ rest) = deepest d open_ones false rest
deepest d open_ones b (digits k ∷ rest) = deepest d open_ones false rest
deepest d open_ones b (word is.sum ∷ rest) = deepest d open_ones true rest
deepest d open_ones b (word w ∷ rest) = deepest d open_ones false rest
deepest d open_ones b (sign is.opening ∷ rest) = deepest (d + weight b) (weight b ∷ open_ones) false rest
deepest d [] b (sign is.closing ∷ rest) = max d (deepest d [] false rest)
deepest d (w ∷ open_ones) b (sign is.closing ∷ rest) = max d (deepest (d - w) open_ones false rest)
deepest d open_ones b (sign m ∷ rest) = deepest d open_ones false rest

-- a symbol as `deepest` looks at it: the word `sum`, a parenthesis, or something else
abbrev pub bare : Symbol → Symbol
bare (word is.sum) = word is.sum
bare (sign is.opening) = sign is.opening
bare (sign is.closing) = sign is.closing
bare _ = digits 0

-- ---- whole lines
-- the most that is open at once in the canonical line of a plain statement; the list of an adaptive variable is a pair
abbrev pub line_depth : Statement → ℕ
line_depth (stated.uncertain n b) = 0
line_depth (stated.over n) = 0
line_depth (stated.set l r p o) = max (depth l) (depth p)
line_depth (stated.budget n ms o) = 0
line_depth (stated.variable n b) = 0
line_depth (stated.adaptive n on b) = 1
line_depth (stated.goal s e o) = depth e
line_depth (stated.row n l r p o) = max (depth l) (depth p)

-- the same in a line as it is written, where the parenthesis behind `sum` counts as two
abbrev pub line_open : Indexed Expr → ℕ
line_open (stated.uncertain r b rs) = 0
line_open (stated.over r rs) = 0
line_open (stated.set s rs) = max (expr_open s.left) (expr_open s.right)
line_open (stated.budget n ms o) = 0
line_open (stated.variable r b rs) = 0
line_open (stated.adaptive r on b rs) = 1
line_open (stated.goal s e o rs) = expr_open e
line_open (stated.row r s rs) = max (expr_open s.left) (expr_open s.right)
