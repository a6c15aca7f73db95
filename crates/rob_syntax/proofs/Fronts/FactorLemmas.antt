-- Factors: a number, a name with its indices, an expression in parentheses, a sum over a range.
use Rattle.std.proofs.Common.{◌≡◌, ◌<◌, List, ◌∷◌, ◌++◌, length, refl, sym, ap, ◌∙◌, arith, length-append}
use Rattle.rob_index.specs.Symbols.{Symbol, sign, word}
use Rattle.rob_index.specs.Symbols as is
use Rattle.rob_index.specs.Statements.{Numeral, Ref, Range, Tree}
use Rattle.rob_index.specs.Statements as stated
use Rattle.rob_index.specs.Grammar.{Factor, number, ref, parens, sum, Expr, spell_number, spell_ref, spell_range, spell_factor, spell_expr, tree_factor, tree_expr}
use Rattle.rob_syntax.specs.Fronts.{BeginsNot, Ends, EndsNumber, EndsRef, EndsIndex, EndsFactor, EndsExpr, Found, IsMissing, Reads}
use Rattle.rob_syntax.specs.Parts.{spell_closed, spell_summed, tree_summed}
use Rattle.rob_syntax.proofs.Fronts.PartLemmas.{tails, led, led_found, led_missing, not_led, trailed_found, trailed_missing, not_trailed, both_found, first_missing, second_missing, shorter_behind}
use Rattle.rob_syntax.proofs.Fronts.IndexLemmas.{ends_index}

-- what is behind a part that begins with a symbol is shorter
pub shorter_number : {symbols rest : List Symbol} {n : Numeral} → Found spell_number EndsNumber symbols rest n
    → length rest < length symbols
shorter_number {symbols} {rest} {n} found =
    omega (arith, ap length found.spelled, length-append (spell_number n) rest)

pub shorter_ref : {symbols rest : List Symbol} {r : Ref} → Found spell_ref EndsRef symbols rest r
    → length rest < length symbols
shorter_ref {symbols} {rest} {r} found = omega (arith, ap length found.spelled, length-append (spell_ref r) rest)

pub factor_of_number : {symbols rest : List Symbol} (n : Numeral) → Found spell_number EndsNumber symbols rest n
    → Reads spell_factor EndsFactor tree_factor symbols rest (stated.number n)
factor_of_number {symbols} {rest} n found = record {
  item = number n;
  found = record { spelled = found.spelled; only = only };
  value_is = refl;
  shorter = shorter_number found;
}
  where
    only : (other : Factor) (end : List Symbol) → symbols ≡ spell_factor other ++ end → EndsFactor end
        → (other ≡ number n) × (end ≡ rest)
    only (number m) end same stop = let e = found.only m end same stop.number in (ap number e.0, e.1)
    only (ref r) end same stop = let e = found.spelled in cc
    only (parens x) end same stop = let e = found.spelled in cc
    only (sum r x) end same stop = let e = found.spelled in cc

pub factor_of_ref : {symbols rest : List Symbol} (r : Ref) → Found spell_ref EndsRef symbols rest r
    → Reads spell_factor EndsFactor tree_factor symbols rest (stated.ref r)
factor_of_ref {symbols} {rest} r found = record {
  item = ref r;
  found = record { spelled = found.spelled; only = only };
  value_is = refl;
  shorter = shorter_ref found;
}
  where
    only : (other : Factor) (end : List Symbol) → symbols ≡ spell_factor other ++ end → EndsFactor end
        → (other ≡ ref r) × (end ≡ rest)
    only (number m) end same stop = let e = found.spelled in cc
    only (ref s) end same stop = let e = found.only s end same stop.ref in (ap ref e.0, e.1)
    only (parens x) end same stop = let e = found.spelled in cc
    only (sum s x) end same stop = let e = found.spelled in cc

-- ---- in parentheses
-- a closing parenthesis ends an expression
closing_ends : (end : List Symbol) → EndsExpr (sign is.closing ∷ end)
closing_ends end = record {
  term = record {
    factor = record { number = λ rest same. cc; ref = λ rest same. cc };
    star = λ rest same. cc;
  };
  sign = ends_index (sign is.closing) end (λ e. cc) (λ e. cc);
}

pub closed_read : {symbols last rest : List Symbol} {value : Tree}
    → Reads spell_expr EndsExpr tree_expr symbols last value → last ≡ sign is.closing ∷ rest
    → Reads spell_closed Ends tree_expr symbols rest value
closed_read read closes = record {
  item = read.item;
  found = trailed_found (sign is.closing) closing_ends read.found closes;
  value_is = read.value_is;
  shorter = let h = read.shorter in omega (arith, ap length closes);
}

pub not_closed : {symbols last : List Symbol} {value : Tree} → Reads spell_expr EndsExpr tree_expr symbols last value
    → BeginsNot (sign is.closing) last → IsMissing spell_closed Ends symbols
not_closed read none = not_trailed (sign is.closing) closing_ends read.found none

pub nothing_closed : {symbols : List Symbol} → IsMissing spell_expr EndsExpr symbols
    → IsMissing spell_closed Ends symbols
nothing_closed missing = trailed_missing (sign is.closing) closing_ends missing

module _ {symbols inside : List Symbol} (opens : symbols ≡ sign is.opening ∷ inside) where
  pub factor_of_parens : {rest : List Symbol} {value : Tree} → Reads spell_closed Ends tree_expr inside rest value
      → Reads spell_factor EndsFactor tree_factor symbols rest value
  factor_of_parens {rest} {value} read = record {
    item = parens read.item;
    found = record { spelled = (led_found opens read.found).spelled; only = only };
    value_is = read.value_is;
    shorter = let h = read.shorter in omega (arith, ap length opens);
  }
    where
      only : (other : Factor) (end : List Symbol) → symbols ≡ spell_factor other ++ end → EndsFactor end
          → (other ≡ parens read.item) × (end ≡ rest)
      only (number m) end same stop = cc
      only (ref s) end same stop = cc
      only (parens x) end same stop =
          let e = read.found.only x end (tails (sym opens ∙ same)) tt in (ap parens e.0, e.1)
      only (sum s x) end same stop = cc

  pub no_parens : IsMissing spell_closed Ends inside → IsMissing spell_factor EndsFactor symbols
  no_parens missing = record { none = none }
    where
      none : (other : Factor) (end : List Symbol) → symbols ≡ spell_factor other ++ end → EndsFactor end → ⊥
      none (number m) end same stop = cc
      none (ref s) end same stop = cc
      none (parens x) end same stop = missing.none x end (tails (sym opens ∙ same)) tt
      none (sum s x) end same stop = cc

-- ---- a sum over a range
-- the colon, the expression and the parenthesis
abbrev behind_range : Expr → List Symbol
behind_range = led (sign is.colon) spell_closed

colon_ends : (x : Expr) (end : List Symbol) → Ends end → EndsIndex (behind_range x ++ end)
colon_ends x end stop = ends_index (sign is.colon) (spell_closed x ++ end) (λ e. cc) (λ e. cc)

pub not_summed : {symbols : List Symbol} → BeginsNot (sign is.opening) symbols → IsMissing spell_summed Ends symbols
not_summed none = record { none = λ other end same stop. none _ same }

module _ {symbols inside : List Symbol} (opens : symbols ≡ sign is.opening ∷ inside) where
  pub no_range_inside : IsMissing spell_range EndsIndex inside → IsMissing spell_summed Ends symbols
  no_range_inside missing = led_missing opens (first_missing behind_range colon_ends missing)

  module _ {middle : List Symbol} {r : Range} (range : Found spell_range EndsIndex inside middle r) where
    pub no_colon : BeginsNot (sign is.colon) middle → IsMissing spell_summed Ends symbols
    no_colon none = led_missing opens (second_missing behind_range colon_ends range (not_led none))

    module _ {behind : List Symbol} (colon : middle ≡ sign is.colon ∷ behind) where
      pub no_summand : IsMissing spell_closed Ends behind → IsMissing spell_summed Ends symbols
      no_summand missing = led_missing opens (second_missing behind_range colon_ends range (led_missing colon missing))

      pub summed_read : {rest : List Symbol} {value : Tree} → Reads spell_closed Ends tree_expr behind rest value
          → Reads spell_summed Ends tree_summed symbols rest (stated.ranged r value)
      summed_read {rest} {value} read = record {
        item = (r, read.item);
        found = led_found opens (both_found behind_range colon_ends range (led_found colon read.found));
        value_is = ap (stated.ranged r) read.value_is;
        shorter = let h = read.shorter in let k = shorter_behind range in
            omega (arith, ap length opens, ap length colon);
      }

module _ {symbols behind : List Symbol} (leads : symbols ≡ word is.sum ∷ behind) where
  pub factor_of_sum : {rest : List Symbol} {value : Tree} → Reads spell_summed Ends tree_summed behind rest value
      → Reads spell_factor EndsFactor tree_factor symbols rest value
  factor_of_sum {rest} {value} read = record {
    item = sum read.item.0 read.item.1;
    found = record { spelled = (led_found leads read.found).spelled; only = only };
    value_is = read.value_is;
    shorter = let h = read.shorter in omega (arith, ap length leads);
  }
    where
      only : (other : Factor) (end : List Symbol) → symbols ≡ spell_factor other ++ end → EndsFactor end
          → (other ≡ sum read.item.0 read.item.1) × (end ≡ rest)
      only (number m) end same stop = cc
      only (ref s) end same stop = cc
      only (parens x) end same stop = cc
      only (sum s x) end same stop =
          let e = read.found.only (s, x) end (tails (sym leads ∙ same)) tt in
          (ap (λ (p : Range × Expr). sum p.0 p.1) e.0, e.1)

  pub no_sum : IsMissing spell_summed Ends behind → IsMissing spell_factor EndsFactor symbols
  no_sum missing = record { none = none }
    where
      none : (other : Factor) (end : List Symbol) → symbols ≡ spell_factor other ++ end → EndsFactor end → ⊥
      none (number m) end same stop = cc
      none (ref s) end same stop = cc
      none (parens x) end same stop = cc
      none (sum s x) end same stop = missing.none (s, x) end (tails (sym leads ∙ same)) tt

-- ---- none of the four
pub no_factor : {symbols : List Symbol} → IsMissing spell_number EndsNumber symbols
    → BeginsNot (sign is.opening) symbols → BeginsNot (word is.sum) symbols → IsMissing spell_ref EndsRef symbols
    → IsMissing spell_factor EndsFactor symbols
no_factor {symbols} no_number no_open no_word missing = record { none = none }
  where
    none : (other : Factor) (end : List Symbol) → symbols ≡ spell_factor other ++ end → EndsFactor end → ⊥
    none (number m) end same stop = no_number.none m end same stop.number
    none (ref s) end same stop = missing.none s end same stop.ref
    none (parens x) end same stop = no_open _ same
    none (sum s x) end same stop = no_word _ same
