-- A model that a text reads as is readable: its numbers are within the limit, and its trees are the grammar's.
use Rattle.std.proofs.Common.{◌≡◌, ℕ, zero, suc, Bool, true, false, List, length, refl, sym, ap, subst, arith}
use Rattle.std.specs.Prelude.{pos, nat_abs, int_lt, Option, Some, None, unwrap_or}
use Rattle.std.proofs.lemmas.Int.{ints}
use Rattle.std.proofs.lemmas.Bool.Decides.{nat_tests}
use Rattle.rob_algebra.specs.Fraction.{Fraction, of_pair, neg_ℚ}
use Rattle.rob_algebra.specs.Width.{Fits}
use Rattle.rob_algebra.proofs.Parts.{neg_parts}
use Rattle.rob_meaning.specs.RobustModel.{RobustModel}
use Rattle.rob_meaning.specs.Values.{signed}
use Rattle.rob_rules.specs.declared.sort.Sort.{Sort}
use Rattle.rob_rules.specs.declared.sort.Sort.TheVariants as sort
use Rattle.rob_rules.specs.declared.sort.Sort.TheVariants.{Parameter, Decision, Policy, RowName}
use Rattle.rob_syntax.specs.declared.syntax.Numeral.{Numeral}
use Rattle.rob_syntax.specs.declared.syntax.Signed.{Signed}
use Rattle.rob_syntax.specs.declared.syntax.Bounds.{Bounds}
use Rattle.rob_syntax.specs.declared.syntax.Bounds.TheVariants.{Between, AtLeast, AtMost}
use Rattle.rob_parse.specs.Building.{FitsNumber, FitsBounds, FitsTree, FitsSummands, FitsOperands}
use Rattle.rob_write.specs.ExpressionWords.{Naming}
use Rattle.rob_rules.specs.Degrees.{sort_at}
use Rattle.rob_rules.specs.Faults.{is_usable}
use Rattle.rob_parse.specs.Written.{fraction, signed_fraction, lower_bound, upper_bound, expression, terms, factors, named}
use Rattle.rob_round_trip.specs.Readable.{IsPlainNumber, IsBound, IsReadable, TermsReadable, FactorsReadable, IsRealSum, IsRealProduct}
use Rattle.rob_syntax.specs.Trees.{Tree, number, name, sum, product, Summands, no_summands, summand, Operands, no_operands, operand}
use Rattle.rob_parse.proofs.Degrees.DegreeLemmas.{EachName, EachSummand, EachOperand, Stands}
use Rattle.rob_parse.proofs.Degrees.NumberLemmas.{pair_fits}
use Rattle.rob_rules.specs.RealTrees.{IsReal, AreReal, OperandsReal, IsLongSum, IsLongProduct}
use Rattle.rob_parse.proofs.Names.SortLemmas.{Names}

-- ---- numbers
pub not_below : (n : ℕ) → int_lt (pos n) (pos 0) ≡ false
not_below n = grind (arith, nat_tests)

pub pair_plain : (n d : ℕ) → int_lt (of_pair (pos n) d).num (pos 0) ≡ false
unfolding of_pair
pair_plain n zero = refl
pair_plain n (suc k) = not_below _

pub plain_number : (limit : ℕ) (n : Numeral) → FitsNumber limit n → IsPlainNumber limit (fraction n)
plain_number limit n fits = (
  pair_fits limit n.numerator (unwrap_or n.divisor 1) fits.positive fits.numerator fits.divisor,
  pair_plain n.numerator (unwrap_or n.divisor 1),
)

pub negated_fits : (limit : ℕ) (x : Fraction) → Fits limit x → Fits limit (neg_ℚ x)
negated_fits limit x fits =
    let p = neg_parts x in
    record {
      num_fits = omega (arith, ints, fits.num_fits, ap nat_abs p.0);
      den_fits = omega (arith, fits.den_fits, p.1);
    }

pub signed_number : (limit : ℕ) (s : Signed) → FitsNumber limit s.number → Fits limit (signed_fraction s)
signed_number limit s fits = go s.minus
  where
    go : (minus : Bool) → Fits limit (signed minus (fraction s.number))
    go true = negated_fits limit (fraction s.number) (plain_number limit s.number fits).0
    go false = (plain_number limit s.number fits).0

pub lower_fits : (limit : ℕ) (b : Option Bounds) → FitsBounds limit b → IsBound limit (lower_bound b)
lower_fits limit None fits = tt
lower_fits limit (Some (Between both)) fits = signed_number limit both.lower fits.0
lower_fits limit (Some (AtLeast a)) fits = signed_number limit a fits
lower_fits limit (Some (AtMost b)) fits = tt

pub upper_fits : (limit : ℕ) (b : Option Bounds) → FitsBounds limit b → IsBound limit (upper_bound b)
upper_fits limit None fits = tt
upper_fits limit (Some (Between both)) fits = signed_number limit both.upper fits.1
upper_fits limit (Some (AtLeast a)) fits = tt
upper_fits limit (Some (AtMost b)) fits = signed_number limit b fits

-- ---- expressions
module _ (limit : ℕ) (m : RobustModel) (names : Naming) (ps : length names.parameters ≡ length m.parameters)
    (vs : length names.variables ≡ length m.variables)
    (ys : length names.adaptives ≡ length m.adaptives) (sorts before : List (Option Sort)) where
  named_readable : (o : Option Sort) → is_usable o ≡ true
      → Names (length m.parameters) (length m.variables) m.adaptives o → IsReadable limit names (named o)
  named_readable (Some (Parameter j)) usable there = omega (arith, there, ps)
  named_readable (Some (Decision j)) usable there = omega (arith, there, vs)
  named_readable (Some (Policy j depends)) usable there = omega (arith, there.0, ys)
  named_readable (Some RowName) usable there = cc
  named_readable (Some (sort.Set S)) usable there = cc
  named_readable None usable there = cc

  long_sum : (ts : Summands) → IsLongSum ts → IsRealSum (terms sorts ts)
  long_sum no_summands h = h
  long_sum (summand true t ts) h = tt
  long_sum (summand false t no_summands) h = h
  long_sum (summand false t (summand minus u us)) h = tt

  long_product : (fs : Operands) → IsLongProduct fs → IsRealProduct (factors sorts fs)
  long_product no_operands h = h
  long_product (operand f no_operands) h = h
  long_product (operand f (operand g gs)) h = tt

  mutual
    pub readable_tree : (t : Tree) → FitsTree limit t → IsReal t → EachName (Stands m sorts before) t
        → IsReadable limit names (expression sorts t)
    readable_tree (number n) fits real stands = plain_number limit n fits
    readable_tree (name k) fits real stands =
        subst (λ (o : Option Sort). IsReadable limit names (named o)) (sym stands.0)
        (named_readable (sort_at before k) stands.1 stands.2)
    readable_tree (sum ts) fits real stands = (long_sum ts real.0, readable_summands ts fits real.1 stands)
    readable_tree (product fs) fits real stands = (long_product fs real.0, readable_operands fs fits real.1 stands)

    readable_summands : (ts : Summands) → FitsSummands limit ts → AreReal ts → EachSummand (Stands m sorts before) ts
        → TermsReadable limit names (terms sorts ts)
    readable_summands no_summands fits real stands = tt
    readable_summands (summand minus t ts) fits real stands =
        (readable_tree t fits.0 real.0 stands.0, readable_summands ts fits.1 real.1 stands.1)

    readable_operands : (fs : Operands) → FitsOperands limit fs → OperandsReal fs
        → EachOperand (Stands m sorts before) fs → FactorsReadable limit names (factors sorts fs)
    readable_operands no_operands fits real stands = tt
    readable_operands (operand f fs) fits real stands =
        (readable_tree f fits.0 real.0 stands.0, readable_operands fs fits.1 real.1 stands.1)
