-- What an expression that is written keeps, and what is known of the names that it is written with.
use Rattle.std.specs.Prelude.{◌≡◌, ℕ, suc, ◌<◌, Bool, true, false, List, [], ◌∷◌, length, get_or, int_lt, pos, Option, Some, None}
use Rattle.rob_algebra.specs.Fraction.{Fraction}
use Rattle.rob_algebra.specs.Width.{Fits}
use Rattle.rob_lex.specs.declared.token.Kind.TheVariants.{Word}
use Rattle.rob_meaning.specs.Expressions.{Expression, number, parameter, variable, adaptive, adaptive_in, sum, product, Terms, no_terms, term, Factors, no_factors, factor}
use Rattle.rob_meaning.specs.Named.{adaptive_names, row_names, variable_names, written_names}
use Rattle.rob_meaning.specs.Names.{Name}
use Rattle.rob_meaning.specs.Places.{Each}
use Rattle.rob_meaning.specs.RobustModel as model
use Rattle.rob_meaning.specs.RobustModel.{Variable, AdaptiveVariable, Member, SetLine, line, budget, Row, RobustModel, list_of, set_count, written_parameters}
use Rattle.rob_rules.specs.declared.sort.Sort.{Sort}
use Rattle.rob_rules.specs.declared.sort.Sort.TheVariants as sort
use Rattle.rob_rules.specs.declared.sort.Sort.TheVariants.{Parameter, Decision, Policy, RowName}
use Rattle.rob_syntax.specs.declared.symbol.Symbol.TheVariants as symbol
use Rattle.rob_syntax.specs.declared.syntax.Statement.{Statement}
use Rattle.rob_write.specs.Pages.{Written}
use Rattle.rob_write.specs.WrittenModel.{written_model}
use Rattle.rob_write.specs.ExpressionWords.{Naming, expression_words}
use Rattle.rob_write.specs.Canonical.{lines_of}
use Rattle.rob_rules.specs.Degrees.{sort_at}
use Rattle.rob_syntax.specs.Grammar.{Expr, spell_expr, tree_expr}
use Rattle.rob_parse.specs.Written.{expression, word_of}
use Rattle.rob_parse.specs.Models.{in_sets, model_of}
use Rattle.rob_round_trip.specs.Pages.{symbols_on}
use Rattle.rob_rules.specs.Scopes.{has_some}
use Rattle.rob_syntax.specs.Statements.{IsStatement}
use Rattle.rob_index.specs.Reading.{one}
use Rattle.rob_syntax.specs.Symbols.{number_of, symbol_at}
use Rattle.rob_syntax.specs.Trees.{tree_of}

-- a sum has two terms or more, or one that is subtracted
abbrev pub IsRealSum : Terms → Type 0
IsRealSum no_terms = ⊥
IsRealSum (term true e ts) = Unit {0}
IsRealSum (term false e no_terms) = ⊥
IsRealSum (term false e (term minus f ts)) = Unit {0}

-- a product has two factors or more
abbrev pub IsRealProduct : Factors → Type 0
IsRealProduct no_factors = ⊥
IsRealProduct (factor e no_factors) = ⊥
IsRealProduct (factor e (factor f fs)) = Unit {0}

module _ (limit : ℕ) (names : Naming) where
  abbrev mutual
    -- no number in it is negative, and its names are there
    pub IsReadable : Expression → Type 0
    IsReadable (number q) = Fits limit q × (int_lt q.num (pos 0) ≡ false)
    IsReadable (parameter k) = k < length names.parameters
    IsReadable (variable k) = k < length names.variables
    IsReadable (adaptive y) = y < length names.adaptives
    IsReadable (adaptive_in y S) = ⊥
    IsReadable (sum ts) = IsRealSum ts × TermsReadable ts
    IsReadable (product fs) = IsRealProduct fs × FactorsReadable fs

    pub TermsReadable : Terms → Type 0
    TermsReadable no_terms = Unit {0}
    TermsReadable (term minus e ts) = IsReadable e × TermsReadable ts

    pub FactorsReadable : Factors → Type 0
    FactorsReadable no_factors = Unit {0}
    FactorsReadable (factor e fs) = IsReadable e × FactorsReadable fs

module _ (words : List (List ℕ)) (sorts : List (Option Sort)) where
  -- the word is a name, and it stands for this
  pub record StandsFor (name : Name) (sort : Sort) : Type 0 where
    pub is_name : symbol_at one words Word name ≡ symbol.Name (number_of words name) ∷ []
    pub sort_is : sort_at sorts (number_of words name) ≡ Some sort

  -- each name stands for what has it
  pub record AreKnown (names : Naming) : Type 0 where
    pub parameters : (k : ℕ) → k < length names.parameters → StandsFor (get_or names.parameters k []) (Parameter k)
    pub sets : (k : ℕ) → k < length names.sets → StandsFor (get_or names.sets k []) (sort.Set (suc k))
    pub variables : (k : ℕ) → k < length names.variables → StandsFor (get_or names.variables k []) (Decision k)
    pub adaptives : (y : ℕ) → y < length names.adaptives → (depends : Bool)
        × StandsFor (get_or names.adaptives y []) (Policy y depends)

  -- the words of an expression are one of the grammar, whose tree it is
  pub record IsReadBack (names : Naming) (e : Expression) : Type 0 where
    pub item : Expr
    pub spelled : symbols_on words (expression_words names e) ≡ spell_expr item
    pub tree_is : expression sorts (tree_of (tree_expr item)) ≡ e

-- the name stands at this place of the list
abbrev pub IsAt : List Name → ℕ → Name → Type 0
IsAt names k name = (k < length names) × (get_or names k [] ≡ name)

module _ (m : RobustModel) where
  -- the model has what a name stands for, by that name: the written parameter, variable or adaptive variable of this
  -- number, with parameters in its list or without, the named set of this number, counted from 1, or some row
  abbrev pub HasByName : Name → Sort → Type 0
  HasByName name (Parameter k) = IsAt (written_names m) k name
  HasByName name (Decision k) = IsAt (variable_names m) k name
  HasByName name (Policy y depends) = IsAt (adaptive_names m) y name × (depends ≡ has_some (list_of m y))
  HasByName name RowName = (r : ℕ) × IsAt (row_names m) r name
  HasByName name (sort.Set S) = (k : ℕ) × (S ≡ suc k) × IsAt m.sets k name

-- ---- statements
-- the number is there and within the limit, or it isn't there
abbrev pub IsBound : ℕ → Option Fraction → Type 0
IsBound limit None = Unit {0}
IsBound limit (Some q) = Fits limit q

-- the number is within the limit and isn't negative
abbrev pub IsPlainNumber : ℕ → Fraction → Type 0
IsPlainNumber limit q = Fits limit q × (int_lt q.num (pos 0) ≡ false)

-- the model is what it has written, each part taken in its set, and the sets are there
pub record IsPlaced (m : RobustModel) : Type 0 where
  pub taken_is : in_sets (written_model m) m.sets m.line_sets m.objective_set m.row_sets ≡ m
  pub line_sets : length m.line_sets ≡ length m.set_lines
  pub row_sets : length m.row_sets ≡ length m.rows
  pub of_lines : Each (λ S. S < set_count m) m.line_sets
  pub of_objective : m.objective_set < set_count m
  pub of_rows : Each (λ S. S < set_count m) m.row_sets

module _ (limit : ℕ) (names : Naming) where
  -- a member is a parameter that is there, and its deviation isn't negative
  pub record IsReadableMember (h : Member) : Type 0 where
    pub parameter : h.parameter < length names.parameters
    pub centre : Fits limit h.centre
    pub deviation : IsPlainNumber limit h.deviation

  -- a budget has a member, and its limit isn't negative
  abbrev pub IsReadableSetLine : SetLine → Type 0
  IsReadableSetLine (line left relation right) = IsReadable limit names left × IsReadable limit names right
  IsReadableSetLine (budget bound []) = ⊥
  IsReadableSetLine (budget bound (h ∷ hs)) = IsPlainNumber limit bound × Each IsReadableMember (h ∷ hs)

  -- what each statement of a model over written parameters keeps
  pub record HasReadableParts (w : RobustModel) : Type 0 where
    pub parameters : Each (λ (p : model.Parameter). IsBound limit p.lower × IsBound limit p.upper) w.parameters
    pub set_lines : Each IsReadableSetLine w.set_lines
    pub variables : Each (λ (x : Variable). IsBound limit x.lower × IsBound limit x.upper) w.variables
    pub adaptives : Each (λ (y : AdaptiveVariable). Each (λ k. k < length names.parameters) y.on
        × (IsBound limit y.lower × IsBound limit y.upper)) w.adaptives
    pub objective : IsReadable limit names w.objective
    pub rows : Each (λ (r : Row). IsReadable limit names r.left × IsReadable limit names r.right) w.rows

  -- each part is taken in its set, and what the model has written is readable
  pub record IsReadableModel (m : RobustModel) : Type 0 where
    pub placed : IsPlaced m
    pub parts : HasReadableParts (written_model m)

module _ (words : List (List ℕ)) where
  -- the word is a name, which is found by its number
  pub record IsDeclarable (name : Name) : Type 0 where
    pub is_name : symbol_at one words Word name ≡ symbol.Name (number_of words name) ∷ []
    pub word_is : word_of words (number_of words name) ≡ name

  -- the declared names are so
  pub record AreDeclarable (m : RobustModel) : Type 0 where
    pub parameters : Each (λ (p : model.Parameter). IsDeclarable p.name) (written_parameters m)
    pub sets : Each IsDeclarable m.sets
    pub variables : Each (λ (x : Variable). IsDeclarable x.name) m.variables
    pub adaptives : Each (λ (y : AdaptiveVariable). IsDeclarable y.name) m.adaptives
    pub rows : Each (λ (r : Row). IsDeclarable r.name) m.rows

  -- each line is the statement beside it
  abbrev pub AreStatements : List (List Written) → List Statement → Type 0
  AreStatements [] [] = Unit {0}
  AreStatements (l ∷ ls) (s ∷ ss) = IsStatement (symbols_on words l) s × AreStatements ls ss
  AreStatements _ _ = ⊥

  -- the canonical lines of a model are statements, whose model it is, where this is what names stand for
  pub record AreReadBack (sorts : List (Option Sort)) (m : RobustModel) : Type 0 where
    pub list : List Statement
    pub statements : AreStatements (lines_of m) list
    pub model_is : model_of words sorts list ≡ m
