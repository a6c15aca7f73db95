-- What is covered is at most 0 in every scenario: the easy half of the affine Farkas lemma.
use Rattle.std.specs.Prelude.{◌≡◌, ℕ, suc, ◌+◌, ◌<◌, pos, List, [], ◌∷◌, ◌++◌, length, map, refl}
use Rattle.std.proofs.Common.{sym, ◌∙◌, ap, ap₂, subst, length-append}
use Rattle.std.proofs.lemmas.List.{length-map}
use Rattle.rob_algebra.specs.Fraction.{Fraction, of_int, ◌+ℚ◌, ◌*ℚ◌, ◌≤ℚ◌, ◌<ℚ◌}
use Rattle.rob_algebra.specs.FractionLaws as Q
use Rattle.rob_algebra.specs.FractionOrderLaws.{le_two, cancel_le_ℚ}
use Rattle.rob_algebra.specs.FractionLaws.{ℚ_ring}
use Rattle.rob_algebra.specs.FractionLists.{AllLe, AllNonneg, dot_ℚ, dot_mono}
use Rattle.rob_algebra.specs.Lists.{dot, scale, zeros, mat_vec, Rows, dot_comm, dot-scale, dot-zeros, dot-vec_mat, length-scale}
use Rattle.rob_algebra.specs.Polynomials.{lit, ◌:+◌, ◌:*◌, v0, v1, v2, v3, v4}
use Rattle.rob_meaning.proofs.Lists.AlongLemmas.{suc_same}
use Rattle.rob_meaning.proofs.Tables.ClearingLemmas.{dot-append, length-tabulate}
use Rattle.rob_meaning.proofs.Lists.LinearLemmas.{zero_le_one}
use Rattle.rob_meaning.proofs.Tables.MatrixLemmas.{dot-scale_right, length-mat_vec, matrix_height}
use Rattle.rob_meaning.proofs.Conditions.WholeRowLemmas.{lifted_of}
use Rattle.rob_meaning.specs.Clearing.{fractions, whole_at}
use Rattle.rob_meaning.specs.Forms.{constant_part, parameter_part, form_at, head_of, matrices, matrix_at, numbers_at, tail_of}
use Rattle.rob_meaning.specs.Multipliers.{Covers, set_limits, set_matrix}
use Rattle.rob_meaning.specs.Places.{0ℚ, Each, tabulate}
use Rattle.rob_meaning.specs.RobustModel.{RobustModel}
use Rattle.rob_meaning.specs.SetConditions.{Meets}
use Rattle.rob_meaning.specs.SetRows.{IsLifted, SetRow, WholeRowHolds, coefficients, lift_count, row_denominator, set_column_count, set_rows, whole_limit, whole_row}
use Rattle.rob_meaning.specs.WellFormed.{IsModel}

pub dot_le : (c xs ys : List Fraction) → AllNonneg c → AllLe xs ys → dot ℚ_ring c xs ≤ℚ dot ℚ_ring c ys
unfolding dot_ℚ
dot_le c xs ys n h = dot_mono c xs ys n h

pub dot-split : (b : Fraction) (p xs : List Fraction) (n : ℕ) → length xs ≡ suc n →
    dot ℚ_ring (b ∷ p) xs ≡ b *ℚ head_of xs +ℚ dot ℚ_ring (tail_of xs) p
dot-split b p [] n e = cc
dot-split b p (x ∷ xs) n e = ap (λ z. b *ℚ x +ℚ z) (dot_comm ℚ_ring p xs)

pub length-tail : (xs : List Fraction) (n : ℕ) → length xs ≡ suc n → length (tail_of xs) ≡ n
length-tail [] n e = cc
length-tail (x ∷ xs) n e = suc_same e

module _ (m : RobustModel) where
  length-row : (r : SetRow) → length (map of_int (whole_row m r)) ≡ set_column_count m
  length-row r =
      length-map (whole_row m r) of_int ∙ length-map (coefficients m r) (whole_at (row_denominator m r))
      ∙ length-append (tabulate (length m.parameters) r.on_parameters) (tabulate (lift_count m.set_lines) r.on_lifts)
      ∙ ap₂ ◌+◌ (length-tabulate (length m.parameters) r.on_parameters)
      (length-tabulate (lift_count m.set_lines) r.on_lifts)

  pub rows_shape : (rs : List SetRow) →
      Rows ℚ_ring (set_column_count m) (map (λ (r : SetRow). map of_int (whole_row m r)) rs)
  rows_shape [] = tt
  rows_shape (r ∷ rs) = (length-row r, rows_shape rs)

  pub rows_le : (b : Fraction) (x : List Fraction) (rs : List SetRow) → Each (WholeRowHolds m b x) rs →
      AllLe (mat_vec ℚ_ring (map (λ (r : SetRow). map of_int (whole_row m r)) rs) x)
      (scale ℚ_ring b (map (λ (r : SetRow). of_int (whole_limit m r)) rs))
  rows_le b x [] h = tt
  rows_le b x (r ∷ rs) h = (h.0.at_most, rows_le b x rs h.1)

  -- a form's whole sum, by its constant part and its parameter part
  pub form_at-parts : (i : ℕ) → i < length (matrices m) → (s : Fraction) (p z : List Fraction) →
      form_at m i s p z ≡ s *ℚ constant_part m i z +ℚ dot ℚ_ring (parameter_part m i z) p
  form_at-parts i some s p z =
      dot-split s p (numbers_at (matrix_at (matrices m) i) z) (length m.parameters)
      (length-mat_vec (fractions (matrix_at (matrices m) i)) z ∙ matrix_height m i some)

  -- the last step, over plain numbers
  weigh : (s b h d amount : Fraction) → s *ℚ d ≤ℚ b *ℚ amount → amount +ℚ s *ℚ h ≤ℚ 0ℚ → 0ℚ ≤ℚ b →
      s *ℚ (b *ℚ h +ℚ d) ≤ℚ 0ℚ
  weigh s b h d amount p q some =
      le_two (s ∷ b ∷ h ∷ d ∷ amount ∷ []) (v0 :* (v1 :* v2 :+ v3)) (lit (pos 0)) (lit (pos 1)) (v0 :* v3)
      (v1 :* v4) v1 (v4 :+ v0 :* v2) (lit (pos 0)) refl zero_le_one p some q

  module _
      (model : IsModel m)
      (i : ℕ) (some : i < length (matrices m))
      (s : Fraction) (z amounts : List Fraction) (c : Covers m i s z amounts)
    where
      numbers : List Fraction
      numbers = numbers_at (matrix_at (matrices m) i) z

      length-numbers : length (numbers_at (matrix_at (matrices m) i) z) ≡ suc (length m.parameters)
      length-numbers = length-mat_vec (fractions (matrix_at (matrices m) i)) z ∙ matrix_height m i some

      pub covers_sound : (b : Fraction) (p : List Fraction) → 0ℚ ≤ℚ b → Meets m b p → s *ℚ form_at m i b p z ≤ℚ 0ℚ
      covers_sound b p nonneg meets = by (lifted_of m model b p meets)
        where
          by : IsLifted m b p → s *ℚ form_at m i b p z ≤ℚ 0ℚ
          by a =
              subst (λ y. s *ℚ y ≤ℚ 0ℚ)
              (sym (dot-split b p (numbers_at (matrix_at (matrices m) i) z) (length m.parameters) length-numbers))
              (weigh s b (head_of (numbers_at (matrix_at (matrices m) i) z))
              (dot ℚ_ring (tail_of (numbers_at (matrix_at (matrices m) i) z)) p) (dot ℚ_ring amounts (set_limits m))
              (subst (λ y. y ≤ℚ b *ℚ dot ℚ_ring amounts (set_limits m)) left_side
              (subst (λ y. dot ℚ_ring amounts (mat_vec ℚ_ring (set_matrix m) (p ++ a.lifts)) ≤ℚ y)
              (dot-scale_right b amounts (set_limits m)) bounded))
              c.constant nonneg)
            where
              bounded : dot ℚ_ring amounts (mat_vec ℚ_ring (set_matrix m) (p ++ a.lifts))
                  ≤ℚ dot ℚ_ring amounts (scale ℚ_ring b (set_limits m))
              bounded =
                  dot_le amounts (mat_vec ℚ_ring (set_matrix m) (p ++ a.lifts))
                  (scale ℚ_ring b (set_limits m)) c.nonnegative (rows_le b (p ++ a.lifts) (set_rows m) a.rows)

              left_side : dot ℚ_ring amounts (mat_vec ℚ_ring (set_matrix m) (p ++ a.lifts))
                  ≡ s *ℚ dot ℚ_ring (tail_of (numbers_at (matrix_at (matrices m) i) z)) p
              left_side =
                  sym (dot-vec_mat ℚ_ring (set_column_count m) amounts (set_matrix m) (p ++ a.lifts)
                  (rows_shape (set_rows m)))
                  ∙ ap (λ (xs : List Fraction). dot ℚ_ring xs (p ++ a.lifts)) c.columns
                  ∙ dot-append (scale ℚ_ring s (tail_of (numbers_at (matrix_at (matrices m) i) z)))
                  (zeros ℚ_ring (lift_count m.set_lines)) p a.lifts
                  (length-scale ℚ_ring s (tail_of (numbers_at (matrix_at (matrices m) i) z))
                  ∙ length-tail (numbers_at (matrix_at (matrices m) i) z)
                  (length m.parameters) length-numbers ∙ sym a.numbers)
                  ∙ ap₂ ◌+ℚ◌ (dot-scale ℚ_ring s (tail_of (numbers_at (matrix_at (matrices m) i) z)) p)
                  (dot-zeros ℚ_ring (lift_count m.set_lines) a.lifts)
                  ∙ Q.ring ((s *ℚ dot ℚ_ring (tail_of (numbers_at (matrix_at (matrices m) i) z)) p) ∷ [])
                  (v0 :+ lit (pos 0)) v0 refl

      pub covered_at : (b : Fraction) (p : List Fraction) → 0ℚ <ℚ s → 0ℚ ≤ℚ b → Meets m b p → form_at m i b p z ≤ℚ 0ℚ
      covered_at b p positive nonneg meets =
          cancel_le_ℚ (form_at m i b p z) 0ℚ s positive
          (subst (λ y. s *ℚ form_at m i b p z ≤ℚ y) (Q.ring (s ∷ []) (lit (pos 0)) (v0 :* lit (pos 0)) refl)
          (covers_sound b p nonneg meets))
