-- Terms: a factor, or a product of factors.
use Rattle.std.proofs.Common.{◌≡◌, ◌⊎◌, inl, inr, List, [], ◌∷◌, ◌++◌, refl, sym, ap, ◌∙◌, arith}
use Rattle.rob_index.specs.Symbols.{Symbol, sign}
use Rattle.rob_index.specs.Symbols as is
use Rattle.rob_index.specs.Statements.{Tree}
use Rattle.rob_index.specs.Statements as stated
use Rattle.rob_index.specs.Grammar.{Factor, Factors, no_factors, times, Term, term, spell_factor, spell_factors, spell_term, tree_factor, tree_term}
use Rattle.rob_syntax.specs.Fronts.{BeginsNot, EndsFactor, EndsTerm, Found, IsMissing, Reads, ReadsMore}
use Rattle.rob_syntax.specs.Parts.{factor_trees}
use Rattle.rob_syntax.specs.Seen.{factors_of}
use Rattle.rob_syntax.proofs.Fronts.PartLemmas.{led, both, both_found, first_missing, second_missing, found_as, missing_as}
use Rattle.rob_syntax.proofs.Fronts.ChainLemmas.{Chain}
use Rattle.rob_syntax.proofs.Fronts.TreeLemmas.{factors_are}

-- ---- factors behind `*`
-- the sign and the factor behind it
abbrev pub spell_next : Factor → List Symbol
spell_next = led (sign is.star) spell_factor

pub factor_cases : (s : Factors) → (s ≡ no_factors) ⊎ ((x : Factor) × (xs : Factors) × (s ≡ times x xs))
factor_cases no_factors = inl refl
factor_cases (times x xs) = inr (x, xs, refl)

-- factors and what is behind them don't go on a factor
pub factors_end : (fs : Factors) (end : List Symbol) → EndsTerm end → EndsFactor (spell_factors fs ++ end)
factors_end no_factors end stop = stop.factor
factors_end (times f fs) end stop = record { number = λ rest same. cc; ref = λ rest same. cc }

abbrev pub factor_chain : Chain spell_next EndsFactor spell_factors EndsTerm
factor_chain = record {
  none = no_factors;
  cons = times;
  spell_none = refl;
  spell_cons = λ x xs. refl;
  cases = factor_cases;
  behind = factors_end;
}

pub star_stuck : {rest behind : List Symbol} → rest ≡ sign is.star ∷ behind → EndsTerm rest → ⊥
star_stuck {rest} {behind} star stop = stop.star behind star

pub no_next : {rest : List Symbol} → BeginsNot (sign is.star) rest → (f : Factor) (end : List Symbol)
    → rest ≡ spell_next f ++ end → ⊥
no_next none f end same = none _ same

-- the tree of a factor in front of others
pub factor_in_front : {symbols rest : List Symbol} {value : Tree}
    (read : Reads spell_factor EndsFactor tree_factor symbols rest value) (fs : Factors)
    → factor_trees (times read.item fs) ≡ value ∷ factor_trees fs
factor_in_front read fs = ap (λ (v : Tree). v ∷ factor_trees fs) read.value_is

-- ---- a term
abbrev term_of : Factor × Factors → Term
term_of p = term p.0 p.1

abbrev parts_of : Term → Factor × Factors
parts_of (term f fs) = (f, fs)

term_back : (t : Term) → term_of (parts_of t) ≡ t
term_back (term f fs) = refl

term_spelled : (t : Term) → spell_term t ≡ both spell_factor spell_factors (parts_of t)
term_spelled (term f fs) = refl

-- no factor behind the first
none_behind : {rest : List Symbol} → BeginsNot (sign is.star) rest → Found spell_factors EndsTerm rest rest no_factors
none_behind {rest} none = record { spelled = refl; only = only }
  where
    only : (other : Factors) (end : List Symbol) → rest ≡ spell_factors other ++ end → EndsTerm end
        → (other ≡ no_factors) × (end ≡ rest)
    only no_factors end same stop = (refl, sym same)
    only (times f fs) end same stop = absurd (none _ same)

module _ {symbols middle : List Symbol} {value : Tree}
    (first : Reads spell_factor EndsFactor tree_factor symbols middle value) where
  pub term_of_one : BeginsNot (sign is.star) middle → Reads spell_term EndsTerm tree_term symbols middle value
  term_of_one none = record {
    item = term first.item no_factors;
    found =
        found_as term_of parts_of term_spelled term_back (λ p. refl)
        (both_found spell_factors factors_end first.found (none_behind none));
    value_is = first.value_is;
    shorter = first.shorter;
  }

  pub no_factors_behind : IsMissing spell_factors EndsTerm middle → IsMissing spell_term EndsTerm symbols
  no_factors_behind missing =
      missing_as term_of parts_of term_spelled term_back (λ p. refl)
      (second_missing spell_factors factors_end first.found missing)

  pub term_of_more : {behind rest : List Symbol} {new : List Tree} → middle ≡ sign is.star ∷ behind
      → ReadsMore spell_factors EndsTerm factor_trees middle rest (value ∷ []) new → BeginsNot (sign is.star) rest
      → Reads spell_term EndsTerm tree_term symbols rest (stated.product (factors_of new))
  term_of_more {behind} {rest} {new} star more none = record {
    item = term first.item more.items;
    found =
        found_as term_of parts_of term_spelled term_back (λ p. refl)
        (both_found spell_factors factors_end first.found more.found);
    value_is = tree more.items more.found.spelled more.appended;
    shorter = let h = first.shorter in let k = more.shorter in omega arith;
  }
    where
      tree : (items : Factors) → middle ≡ spell_factors items ++ rest → new ≡ (value ∷ []) ++ factor_trees items
          → tree_term (term first.item items) ≡ stated.product (factors_of new)
      tree no_factors spelled appended = absurd (none behind (sym spelled ∙ star))
      tree (times g gs) spelled appended =
          (λ i. stated.product (stated.factor (first.value_is i)
          (stated.factor (tree_factor g) (sym (factors_are gs) i))))
          ∙ ap (λ (l : List Tree). stated.product (factors_of l)) (sym appended)

pub no_first_factor : {symbols : List Symbol} → IsMissing spell_factor EndsFactor symbols
    → IsMissing spell_term EndsTerm symbols
no_first_factor missing =
    missing_as term_of parts_of term_spelled term_back (λ p. refl) (first_missing spell_factors factors_end missing)
