-- The cleared set rows say what the set rows say; so a vector is taken from the set exactly where it is lifted.
use Rattle.std.specs.Prelude.{◌≡◌, pos, List, [], ◌∷◌, ◌++◌, length, map, refl, ◌↔◌}
use Rattle.std.proofs.Common.{sym, ◌∙◌, ap, ap₂, subst}
use Rattle.std.proofs.lemmas.Nat.Gcd.{dvd_refl}
use Rattle.rob_algebra.specs.Fraction.{Fraction, of_int, ◌+ℚ◌, ◌*ℚ◌, ◌≤ℚ◌, ◌<ℚ◌}
use Rattle.rob_algebra.specs.FractionLaws as Q
use Rattle.rob_algebra.specs.FractionOrderLaws.{le_of_lt_ℚ, mul_mono_ℚ, cancel_le_ℚ}
use Rattle.rob_algebra.specs.FractionLaws.{ℚ_ring}
use Rattle.rob_algebra.specs.Lists.{dot, dot-scale}
use Rattle.rob_algebra.specs.Polynomials.{◌:*◌, v0, v1, v2}
use Rattle.rob_meaning.proofs.Tables.ClearingLemmas.{each_divides, denominator_pos, multiplier_pos, whole_at-is, whole-row, dot-tabulate, dot-append, length-tabulate}
use Rattle.rob_meaning.proofs.Conditions.ConeLemmas.{Rows, rows_of, meets_of}
use Rattle.rob_meaning.proofs.Lists.EachLemmas.{each_map}
use Rattle.rob_meaning.proofs.Lists.LinearLemmas.{le_along, along_le}
use Rattle.rob_meaning.proofs.Conditions.SetRowLemmas.{RowHolds}
use Rattle.rob_meaning.specs.Places.{0ℚ, along, tabulate}
use Rattle.rob_meaning.specs.RobustModel.{RobustModel}
use Rattle.rob_meaning.specs.SetConditions.{Meets}
use Rattle.rob_meaning.specs.SetRows.{IsLifted, SetRow, WholeRowHolds, coefficients, lift_count, row_denominator, set_rows, whole_limit, whole_row}
use Rattle.rob_meaning.specs.WellFormed.{IsModel}

module _
    (m : RobustModel) (s : Fraction) (p t : List Fraction)
    (e : length p ≡ length m.parameters) (f : length t ≡ lift_count m.set_lines)
  where
    dot_row : (r : SetRow) → dot ℚ_ring (coefficients m r) (p ++ t) ≡ along r.on_parameters p +ℚ along r.on_lifts t
    dot_row r =
        dot-append (tabulate (length m.parameters) r.on_parameters) (tabulate (lift_count m.set_lines) r.on_lifts) p t
        (length-tabulate (length m.parameters) r.on_parameters ∙ sym e)
        ∙ ap₂ ◌+ℚ◌ (dot-tabulate (length m.parameters) r.on_parameters p e)
        (dot-tabulate (lift_count m.set_lines) r.on_lifts t f)

    whole_dot : (r : SetRow) →
        dot ℚ_ring (map of_int (whole_row m r)) (p ++ t) ≡ of_int
        (pos (row_denominator m r)) *ℚ (along r.on_parameters p +ℚ along r.on_lifts t)
    whole_dot r =
        let divides =
        each_divides (row_denominator m r) (r.limit ∷ coefficients m r) (dvd_refl (row_denominator m r)) in
        ap (λ (xs : List Fraction). dot ℚ_ring xs (p ++ t))
        (whole-row (row_denominator m r) (coefficients m r) divides.1)
        ∙ dot-scale ℚ_ring (of_int (pos (row_denominator m r))) (coefficients m r) (p ++ t)
        ∙ ap (λ z. of_int (pos (row_denominator m r)) *ℚ z) (dot_row r)

    right_side : (r : SetRow) → s *ℚ of_int (whole_limit m r) ≡ of_int (pos (row_denominator m r)) *ℚ (s *ℚ r.limit)
    right_side r =
        let divides =
        each_divides (row_denominator m r) (r.limit ∷ coefficients m r) (dvd_refl (row_denominator m r)) in
        ap (λ z. s *ℚ z) (whole_at-is (row_denominator m r) r.limit divides.0)
        ∙ Q.ring (s ∷ of_int (pos (row_denominator m r)) ∷ r.limit ∷ []) (v0 :* (v1 :* v2)) (v1 :* (v0 :* v2)) refl

    positive : (r : SetRow) → 0ℚ <ℚ of_int (pos (row_denominator m r))
    positive r = multiplier_pos (row_denominator m r) (denominator_pos (r.limit ∷ coefficients m r))

    pub whole_in : (r : SetRow) → RowHolds s p t r → WholeRowHolds m s (p ++ t) r
    whole_in r h =
        record {
          at_most =
              le_along (whole_dot r)
              (subst (λ z. of_int (pos (row_denominator m r)) *ℚ (along r.on_parameters p +ℚ along r.on_lifts t) ≤ℚ z)
              (sym (right_side r))
              (mul_mono_ℚ (along r.on_parameters p +ℚ along r.on_lifts t) (s *ℚ r.limit)
              (of_int (pos (row_denominator m r))) h.at_most
              (le_of_lt_ℚ 0ℚ (of_int (pos (row_denominator m r))) (positive r))));
        }

    pub whole_out : (r : SetRow) → WholeRowHolds m s (p ++ t) r → RowHolds s p t r
    whole_out r h =
        record {
          at_most =
              cancel_le_ℚ (along r.on_parameters p +ℚ along r.on_lifts t) (s *ℚ r.limit)
              (of_int (pos (row_denominator m r))) (positive r)
              (along_le (whole_dot r) (subst (λ z. dot ℚ_ring (map of_int (whole_row m r)) (p ++ t) ≤ℚ z)
              (right_side r) h.at_most));
        }

module _ (m : RobustModel) (model : IsModel m) (s : Fraction) (p : List Fraction) where
  pub lifted_of : Meets m s p → IsLifted m s p
  lifted_of h = by (rows_of m model s p h)
    where
      by : Rows m model s p → IsLifted m s p
      by a = record {
        lifts = a.lifts;
        count = a.count;
        numbers = a.numbers;
        rows =
            each_map (RowHolds s p a.lifts) (WholeRowHolds m s (p ++ a.lifts))
            (whole_in m s p a.lifts a.numbers a.count)
            (set_rows m) a.rows;
      }

  pub meets_lifted : IsLifted m s p → Meets m s p
  meets_lifted a =
      meets_of m model s p
      (record {
        lifts = a.lifts;
        count = a.count;
        numbers = a.numbers;
        rows =
            each_map (WholeRowHolds m s (p ++ a.lifts)) (RowHolds s p a.lifts)
            (whole_out m s p a.lifts a.numbers a.count)
            (set_rows m) a.rows;
      })

  pub lifted_law : Meets m s p ↔ IsLifted m s p
  lifted_law = (lifted_of, meets_lifted)
