-- The canonical text of a number's model is read as that model: the parts of the twelve models are tested one by one.
use Rattle.std.proofs.Common.{◌≡◌, ℕ, zero, suc, ◌+◌, ◌%◌, ◌^◌, ◌<◌, ◌≤◌, Bool, true, false, List, [], ◌∷◌, length, Option, Some, None, refl, arith}
use Rattle.std.specs.Fmt.{digits}
use Rattle.std.specs.Prelude.{int_lt, nat_abs, pos}
use Rattle.rob_algebra.specs.Fraction.{Fraction, ratio}
use Rattle.rob_algebra.specs.Width.{Fits}
use Rattle.rob_gen.proofs.GeneratedLemmas.{by_twelve, test_members, well_named, within_limits}
use Rattle.rob_gen.specs.Generated.{generated, model_over, centre}
use Rattle.rob_lex.specs.Bytes.{begins_word, goes_on_word}
use Rattle.rob_lex.specs.Offences.{most_tokens}
use Rattle.rob_meaning.proofs.ByHand.WorkedTests.{both, found, so, test_at_most, test_below, test_each, test_model, test_numbers}
use Rattle.rob_meaning.specs.Expressions.{Expression, number, parameter, variable, adaptive, adaptive_in, sum, product, Terms, no_terms, term}
use Rattle.rob_meaning.specs.Named.{HasDistinctMembers, declared_names}
use Rattle.rob_meaning.specs.Names.{Name}
use Rattle.rob_meaning.specs.Places.{Each}
use Rattle.rob_meaning.specs.RobustModel as model
use Rattle.rob_meaning.specs.RobustModel.{AdaptiveVariable, Member, Row, RobustModel, SetLine, Variable, line, budget}
use Rattle.rob_meaning.specs.WellFormed.{IsModel}
use Rattle.rob_parse.specs.Modelled.{ReadsModel}
use Rattle.rob_round_trip.proofs.Canonical.CanonicalReading.{canonical_reads}
use Rattle.rob_round_trip.specs.Pages.{IsShallow, MayOpen, depth_behind, ended}
use Rattle.rob_round_trip.specs.Readable.{HasReadableParts, IsBound, IsPlaced, IsPlainNumber, IsReadable, IsReadableMember, IsReadableSetLine, IsRealSum, TermsReadable}
use Rattle.rob_syntax.specs.Names.{GoesOn, IsSpelled, IsWord}
use Rattle.rob_syntax.specs.Symbols.{keyword_among, keywords, longest_name}
use Rattle.rob_syntax.specs.declared.symbol.Keyword.{Keyword}
use Rattle.rob_syntax.specs.declared.symbol.Mark.TheVariants.{Open}
use Rattle.rob_top.specs.WorkedCalls.{first_text}
use Rattle.rob_write.specs.Pages.{Written, sign}
use Rattle.rob_write.specs.WrittenModel.{written_model}
use Rattle.rob_write.specs.ExpressionWords.{Naming, naming_of}
use Rattle.rob_write.specs.Canonical.{lines_of, model_text}

-- ---- the text for 0
pub first_is : model_text (generated 0) ≡ first_text
unfolding ratio digits
first_is = refl

-- ---- tests of names and lines
abbrev test_true : (b : Bool) → Option (b ≡ true)
test_true true = Some refl
test_true false = None

abbrev test_false : (b : Bool) → Option (b ≡ false)
test_false true = None
test_false false = Some refl

abbrev test_none : (o : Option Keyword) → Option (o ≡ None)
test_none None = Some refl
test_none (Some k) = None

abbrev test_goes_on : (bytes : List ℕ) → Option (GoesOn bytes)
test_goes_on [] = Some tt
test_goes_on (b ∷ bytes) = both (test_true (goes_on_word b)) (test_goes_on bytes)

abbrev test_word : (name : Name) → Option (IsWord name)
test_word [] = None
test_word (b ∷ bytes) = both (test_true (begins_word b)) (test_goes_on bytes)

abbrev test_spelled : (name : Name) → Option (IsSpelled name)
test_spelled name =
    so (λ h. record { is_word = h.0; no_keyword = h.1.0; is_short = h.1.1 })
    (both (test_word name) (both (test_none (keyword_among keywords name)) (test_at_most (length name) longest_name)))

abbrev test_open : (d : ℕ) (w : Written) → Option (MayOpen d w)
test_open d (sign Open) = test_below d 50
test_open d _ = Some tt

abbrev test_shallow : (d : ℕ) (ws : List Written) → Option (IsShallow d ws)
test_shallow d [] = Some tt
test_shallow d (w ∷ ws) = both (test_open d w) (test_shallow (depth_behind d w) ws)

-- ---- tests of numbers and expressions, whose numbers are 14 at most
module _ (limit : ℕ) (high : 14 ≤ limit) where
  up : (k : ℕ) → k ≤ 14 → k ≤ limit
  up k h = omega (arith, h, high)

  abbrev test_fits : (q : Fraction) → Option (Fits limit q)
  test_fits q =
      so (λ h. record { num_fits = up (nat_abs q.num) h.0; den_fits = up q.den h.1 })
      (both (test_at_most (nat_abs q.num) 14) (test_at_most q.den 14))

  abbrev test_within : (b : Option Fraction) → Option (IsBound limit b)
  test_within None = Some tt
  test_within (Some q) = test_fits q

  abbrev test_plain : (q : Fraction) → Option (IsPlainNumber limit q)
  test_plain q = both (test_fits q) (test_false (int_lt q.num (pos 0)))

  abbrev test_real : (ts : Terms) → Option (IsRealSum ts)
  test_real no_terms = None
  test_real (term true e ts) = Some tt
  test_real (term false e no_terms) = None
  test_real (term false e (term minus f ts)) = Some tt

  module _ (names : Naming) where
    abbrev mutual
      test_readable : (e : Expression) → Option (IsReadable limit names e)
      test_readable (number q) = test_plain q
      test_readable (parameter k) = test_below k (length names.parameters)
      test_readable (variable k) = test_below k (length names.variables)
      test_readable (adaptive k) = test_below k (length names.adaptives)
      test_readable (adaptive_in k S) = None
      test_readable (sum ts) = both (test_real ts) (test_terms ts)
      test_readable (product fs) = None

      test_terms : (ts : Terms) → Option (TermsReadable limit names ts)
      test_terms no_terms = Some tt
      test_terms (term minus e ts) = both (test_readable e) (test_terms ts)

    abbrev test_member : (h : Member) → Option (IsReadableMember limit names h)
    test_member h =
        so (λ f. record { parameter = f.0; centre = f.1.0; deviation = f.1.1 })
        (both (test_below h.parameter (length names.parameters)) (both (test_fits h.centre) (test_plain h.deviation)))

    abbrev test_set_line : (c : SetLine) → Option (IsReadableSetLine limit names c)
    test_set_line (line left relation right) = both (test_readable left) (test_readable right)
    test_set_line (budget bound []) = None
    test_set_line (budget bound (h ∷ hs)) =
        both (test_plain bound) (test_each (IsReadableMember limit names) test_member (h ∷ hs))

    abbrev test_adaptive : (y : AdaptiveVariable)
        → Option (Each (λ k. k < length names.parameters) y.on × (IsBound limit y.lower × IsBound limit y.upper))
    test_adaptive y =
        both (test_each (λ k. k < length names.parameters) (λ k. test_below k (length names.parameters)) y.on)
        (both (test_within y.lower) (test_within y.upper))

    abbrev test_parts : (w : RobustModel) → Option (HasReadableParts limit names w)
    test_parts w =
        so
        (λ h. record {
          parameters = h.0.0;
          set_lines = h.0.1.0;
          variables = h.0.1.1;
          adaptives = h.1.0;
          objective = h.1.1.0;
          rows = h.1.1.1;
        })
        (both
        (both
        (test_each (λ (p : model.Parameter). IsBound limit p.lower × IsBound limit p.upper)
        (λ p. both (test_within p.lower) (test_within p.upper)) w.parameters)
        (both (test_each (IsReadableSetLine limit names) test_set_line w.set_lines)
        (test_each (λ (x : Variable). IsBound limit x.lower × IsBound limit x.upper)
        (λ x. both (test_within x.lower) (test_within x.upper)) w.variables)))
        (both
        (test_each (λ (y : AdaptiveVariable). Each (λ k. k < length names.parameters) y.on
        × (IsBound limit y.lower × IsBound limit y.upper))
        test_adaptive w.adaptives)
        (both (test_readable w.objective)
        (test_each (λ (r : Row). IsReadable limit names r.left × IsReadable limit names r.right)
        (λ r. both (test_readable r.left) (test_readable r.right)) w.rows))))

-- ---- what is asked of a model, by its number
-- what is read of its lines
record IsWritten (m : RobustModel) : Type 0 where
  written : IsModel (written_model m)
  members : Each HasDistinctMembers (written_model m).set_lines
  shallow : Each (IsShallow 0) (lines_of m)
  few : length (ended (lines_of m)) ≤ most_tokens

abbrev test_written : (m : RobustModel) → Option (IsWritten m)
test_written m =
    so (λ h. record { written = h.0.0; members = h.0.1; shallow = h.1.0; few = h.1.1 })
    (both (both (test_model (written_model m)) (test_each HasDistinctMembers test_members (written_model m).set_lines))
    (both (test_each (IsShallow 0) (test_shallow 0) (lines_of m))
    (test_at_most (length (ended (lines_of m))) most_tokens)))

twelve_written : (r : ℕ) → r < 12 → IsWritten (generated r)
unfolding ratio digits
twelve_written = found (test_numbers 12 (λ r. IsWritten (generated r)) (λ r. test_written (generated r))) tt

four_spelled : (centres : ℕ → ℕ) (r : ℕ) → r < 4 → Each IsSpelled (declared_names (model_over (r + 2) centres))
unfolding ratio digits
four_spelled centres =
    found
    (test_numbers 4 (λ r. Each IsSpelled (declared_names (model_over (r + 2) centres)))
    (λ r. test_each IsSpelled test_spelled (declared_names (model_over (r + 2) centres)))) tt

four_placed : (centres : ℕ → ℕ) (r : ℕ) → r < 4 → IsPlaced (model_over (r + 2) centres)
unfolding ratio digits
four_placed centres zero h = record {
  taken_is = refl;
  line_sets = refl;
  row_sets = refl;
  of_lines = (omega arith, tt);
  of_objective = omega arith;
  of_rows = (omega arith, (omega arith, tt));
}
four_placed centres (suc zero) h = record {
  taken_is = refl;
  line_sets = refl;
  row_sets = refl;
  of_lines = (omega arith, tt);
  of_objective = omega arith;
  of_rows = (omega arith, (omega arith, (omega arith, tt)));
}
four_placed centres (suc (suc zero)) h = record {
  taken_is = refl;
  line_sets = refl;
  row_sets = refl;
  of_lines = (omega arith, tt);
  of_objective = omega arith;
  of_rows = (omega arith, (omega arith, (omega arith, (omega arith, tt))));
}
four_placed centres (suc (suc (suc zero))) h = record {
  taken_is = refl;
  line_sets = refl;
  row_sets = refl;
  of_lines = (omega arith, tt);
  of_objective = omega arith;
  of_rows = (omega arith, (omega arith, (omega arith, (omega arith, (omega arith, tt)))));
}
four_placed centres (suc (suc (suc (suc r)))) h = absurd (omega (arith, h))

below_four : (n : ℕ) → n % 4 < 4
below_four n = omega arith

module _ (limit : ℕ) (high : 14 ≤ limit) (wide : limit < 2 ^ 62) where
  twelve_parts : (r : ℕ) → r < 12 → HasReadableParts limit (naming_of (generated r)) (written_model (generated r))
  unfolding ratio digits
  twelve_parts =
      found
      (test_numbers 12 (λ r. HasReadableParts limit (naming_of (generated r)) (written_model (generated r)))
      (λ r. test_parts limit high (naming_of (generated r)) (written_model (generated r)))) tt

  pub text_is_read : (n : ℕ) → ReadsModel limit (model_text (generated n)) (generated n)
  text_is_read n =
      let w : IsWritten (generated n) = by_twelve IsWritten twelve_written n in
      canonical_reads limit (generated n) (omega (arith, high)) wide
      (record {
        placed = four_placed (centre n) (n % 4) (below_four n);
        parts = by_twelve (λ m. HasReadableParts limit (naming_of m) (written_model m)) twelve_parts n;
      })
      w.written (well_named n) (four_spelled (centre n) (n % 4) (below_four n)) w.members
      (within_limits n) w.shallow w.few
