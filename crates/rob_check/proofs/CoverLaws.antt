-- The sums of a form's multipliers as they are computed are what it means that
-- they cover the form; and the whole verdict.
use Rattle.std.proofs.Common.{◌≡◌, ℕ, zero, suc, ◌+◌, ◌<◌, Bool, List, [], ◌∷◌, ◌++◌, map, length, arith, refl, sym, ◌∙◌, ap, ap₂, subst, ℤ, pos, length-append}
use Rattle.std.specs.Bool.{Decides}
use Rattle.std.specs.Prelude.{Some}
use Rattle.std.proofs.lemmas.List.{length-map}
use Rattle.rob_algebra.specs.Fraction.{Fraction, of_int, ◌+ℚ◌, ◌*ℚ◌, ◌≤ℚ◌}
use Rattle.rob_algebra.specs.FractionLaws as Q
use Rattle.rob_algebra.specs.FractionLaws.{ℚ-zero-add, ℚ_ring}
use Rattle.rob_algebra.specs.FractionOrder.{eq_ℚ, eq_ℚ-decides}
use Rattle.rob_algebra.specs.Lists.{dot_comm, length-scale, length-vec_mat, length-zeros}
use Rattle.rob_algebra.specs.Polynomials.{lit, ◌:*◌, v0}
use Rattle.rob_algebra.specs.Width.{kept}
use Rattle.rob_cert.specs.Shape.{AreCoversOf, IsCoverOf}
use Rattle.rob_meaning.proofs.Tables.ClearingLemmas.{length-tabulate}
use Rattle.rob_meaning.proofs.Proving.CoverLemmas.{rows_shape, length-tail}
use Rattle.rob_meaning.proofs.Lists.EachLemmas.{each_map}
use Rattle.rob_meaning.proofs.Tables.MatrixLemmas.{length-mat_vec, matrix_height}
use Rattle.rob_meaning.proofs.Lists.PlaceLemmas.{at-vec_mat, at-zeros, same_by_places}
use Rattle.rob_meaning.specs.Certificates.{Cover}
use Rattle.rob_meaning.specs.Clearing.{fractions}
use Rattle.rob_meaning.specs.Forms.{head_of, matrices, matrix_at, numbers_at, parameter_part, tail_of}
use Rattle.rob_meaning.specs.Multipliers.{Covers, set_limits, set_matrix}
use Rattle.rob_meaning.specs.Places.{0ℚ, at, Each}
use Rattle.rob_meaning.specs.Proves.{EachCovered, amount_at, amounts_of}
use Rattle.rob_meaning.specs.RobustModel.{RobustModel}
use Rattle.rob_meaning.specs.SetRows as rows
use Rattle.rob_meaning.specs.SetRows.{lift_count, set_column_count, set_rows}
use Rattle.rob_meaning.specs.Vectors.{dot, mat_vec, scale, vec_mat, zeros}
use Rattle.rob_model.proofs.JudgingLemmas.{at_most_decides}
use Rattle.rob_model.proofs.KeptLemmas.{kept_is, some_is, through, through_kept}
use Rattle.rob_model.specs.Within.{◌>>=◌, is_at_most}
use Rattle.rob_check.specs.Covers.{Covering, column_test, column_tests, constant_test, cover_tests, covers_of, form_tests, form_within, rows_within, sign_test}
use Rattle.rob_check.specs.Conditions.{covering_tests}
use Rattle.rob_check.specs.LiftedSet.{lifted}
use Rattle.rob_check.specs.Sums.{column, dot_within, is_nonnegative, numbers_from, row_at}
use Rattle.rob_check.specs.Verdicts.{Judges, verdict}
use Rattle.rob_check.specs.declared.verdict.Verdict.TheVariants.{Accepted}
use Rattle.rob_check.proofs.DenseLemmas.{dense, signs_in, signs_out}
use Rattle.rob_check.proofs.JudgeLemmas.{Tells, judges_append, judges_as, judges_each, judges_first, nonnegative_decides, tells_by, tells_test}
use Rattle.rob_check.proofs.SumLaws.{added_is, dot_is, each_numbers, numbers_each, total}

-- ---- places
at-mat_vec : (a : List (List Fraction)) (z : List Fraction) (k : ℕ) → at (mat_vec a z) k ≡ dot (row_at a k) z
at-mat_vec [] z k = refl
at-mat_vec (row ∷ a) z zero = refl
at-mat_vec (row ∷ a) z (suc k) = at-mat_vec a z k

at-tail : (xs : List Fraction) (k : ℕ) → at (tail_of xs) k ≡ at xs (suc k)
at-tail [] k = refl
at-tail (x ∷ xs) k = refl

at-head : (xs : List Fraction) → head_of xs ≡ at xs 0
at-head [] = refl
at-head (x ∷ xs) = refl

at-scaled : (s : Fraction) (xs : List Fraction) (n k : ℕ) → at (scale s xs ++ zeros n) k ≡ s *ℚ at xs k
at-scaled s [] n k = at-zeros n k ∙ Q.ring (s ∷ []) (lit (pos 0)) (v0 :* lit (pos 0)) refl
at-scaled s (x ∷ xs) n zero = refl
at-scaled s (x ∷ xs) n (suc k) = at-scaled s xs n k

module _ (limit : ℕ) (m : RobustModel) (g : Covering) (h : AreCoversOf m g.covers) (i : ℕ)
    (inside : i < length (matrices m)) where
  abbrev mine : List Cover
  mine = covers_of i g.covers

  abbrev form : List (List Fraction)
  form = fractions (matrix_at (matrices m) i)

  abbrev amounts : List Fraction
  amounts = amounts_of m g.covers i

  named : Each (λ (c : Cover). c.set_row < length (set_rows m)) g.covers
  named = each_map (IsCoverOf m) (λ (c : Cover). c.set_row < length (set_rows m)) (λ c k. k.set_row) g.covers h.each

  -- the multipliers times numbers of set rows
  rows_are : (numbers : List Fraction) (x : Fraction) → length numbers ≡ length (set_rows m)
      → rows_within limit mine numbers ≡ Some x → dot amounts numbers ≡ x
  rows_are numbers x len e =
      dense i (length (set_rows m)) numbers len g.covers named h.ordered
      ∙ sym (ℚ-zero-add (total (map (λ (c : Cover). c.amount *ℚ at numbers c.set_row) mine)))
      ∙ added_is limit (λ (c : Cover). kept limit (c.amount *ℚ at numbers c.set_row))
      (λ (c : Cover). c.amount *ℚ at numbers c.set_row)
      (λ c y k. kept_is limit (c.amount *ℚ at numbers c.set_row) y k) mine 0ℚ x e

  -- the form's number
  form_is : (k : ℕ) (x : Fraction) → form_within limit g form k ≡ Some x → g.scale *ℚ at (mat_vec form g.vector) k ≡ x
  form_is k x e =
      let number = through (dot_within limit g.vector (row_at form k)) (λ y. kept limit (g.scale *ℚ y)) x e in
      ap (λ y. g.scale *ℚ y) (at-mat_vec form g.vector k ∙ dot_comm ℚ_ring (row_at form k) g.vector
      ∙ dot_is limit g.vector (row_at form k) number.0 number.1)
      ∙ kept_is limit (g.scale *ℚ number.0) x number.2

  length-columns : (k : ℕ) → length (column k (set_matrix m)) ≡ length (set_rows m)
  length-columns k =
      length-map (set_matrix m) (λ (row : List Fraction). at row k)
      ∙ length-map (set_rows m) (λ (r : rows.SetRow). map of_int (rows.whole_row m r))

  length-limits : length (set_limits m) ≡ length (set_rows m)
  length-limits = length-map (set_rows m) (λ (r : rows.SetRow). of_int (rows.whole_limit m r))

  -- ---- a set column
  abbrev same_column : ℕ → Type 0
  same_column k = dot amounts (column k (set_matrix m)) ≡ g.scale *ℚ at (mat_vec form g.vector) (suc k)

  column_tells : (k : ℕ) → Tells (same_column k) (column_test limit (lifted m) g i form mine k).holds
  column_tells k = tells_by (same_column k) (column_test limit (lifted m) g i form mine k).holds told
    where
      told : (t : Bool) → (column_test limit (lifted m) g i form mine k).holds ≡ Some t → Decides t (same_column k)
      told t e =
          let left = through (rows_within limit mine (column k (set_matrix m)))
          (λ rows. form_within limit g form (suc k) >>= (λ x. Some (eq_ℚ rows x))) t e in
          let right = through (form_within limit g form (suc k)) (λ x. Some (eq_ℚ left.0 x)) t left.2 in
          subst (λ t. Decides t (same_column k)) (some_is right.2)
          (subst (λ y. Decides (eq_ℚ left.0 right.0) (y ≡ g.scale *ℚ at (mat_vec form g.vector) (suc k)))
          (sym (rows_are (column k (set_matrix m)) left.0 (length-columns k) left.1))
          (subst (λ y. Decides (eq_ℚ left.0 right.0) (left.0 ≡ y)) (sym (form_is (suc k) right.0 right.1))
          (eq_ℚ-decides left.0 right.0)))

  -- ---- the constant
  abbrev at_most : Type 0
  at_most = dot amounts (set_limits m) +ℚ g.scale *ℚ at (mat_vec form g.vector) 0 ≤ℚ 0ℚ

  constant_tells : Tells at_most (constant_test limit (lifted m) g i form mine).holds
  constant_tells = tells_by at_most (constant_test limit (lifted m) g i form mine).holds told
    where
      told : (t : Bool) → (constant_test limit (lifted m) g i form mine).holds ≡ Some t → Decides t at_most
      told t e =
          let left = through (rows_within limit mine (set_limits m))
          (λ rows. form_within limit g form zero >>=
          (λ x. kept limit (rows +ℚ x) >>= (λ total. Some (is_at_most total 0ℚ)))) t e in
          let right =
          through (form_within limit g form zero)
          (λ x. kept limit (left.0 +ℚ x) >>= (λ total. Some (is_at_most total 0ℚ))) t left.2 in
          let sum = through_kept limit (left.0 +ℚ right.0) (λ total. Some (is_at_most total 0ℚ)) t right.2 in
          subst (λ t. Decides t at_most) (some_is sum)
          (subst (λ y. Decides (is_at_most (left.0 +ℚ right.0) 0ℚ) (y ≤ℚ 0ℚ))
          (sym (ap₂ ◌+ℚ◌ (rows_are (set_limits m) left.0 length-limits left.1) (form_is 0 right.0 right.1)))
          (at_most_decides (left.0 +ℚ right.0) 0ℚ))

  -- ---- the form
  abbrev parts : Type 0
  parts = Each (λ (c : Cover). 0ℚ ≤ℚ c.amount) mine
      × (Each same_column (numbers_from 0 (set_column_count m)) × (at_most × Unit {0}))

  parts_judged : Judges parts (verdict (form_tests limit (lifted m) g i form mine))
  parts_judged =
      judges_append (Each (λ (c : Cover). 0ℚ ≤ℚ c.amount) mine)
      (Each same_column (numbers_from 0 (set_column_count m)) × (at_most × Unit {0})) (map (sign_test g i) mine)
      (column_tests limit (lifted m) g i form mine)
      (judges_each (λ (c : Cover). 0ℚ ≤ℚ c.amount) (sign_test g i)
      (λ c. tells_test (0ℚ ≤ℚ c.amount) (is_nonnegative c.amount) (nonnegative_decides c.amount)) mine)
      (judges_append (Each same_column (numbers_from 0 (set_column_count m))) (at_most × Unit {0})
      (map (column_test limit (lifted m) g i form mine) (numbers_from 0 (set_column_count m)))
      (constant_test limit (lifted m) g i form mine ∷ [])
      (judges_each same_column (column_test limit (lifted m) g i form mine) column_tells
      (numbers_from 0 (set_column_count m)))
      (judges_first at_most (Unit {0}) (constant_test limit (lifted m) g i form mine).place
      (constant_test limit (lifted m) g i form mine).holds Accepted constant_tells tt))

  length-left : length (vec_mat (set_column_count m) amounts (set_matrix m)) ≡ set_column_count m
  length-left = length-vec_mat ℚ_ring (set_column_count m) amounts (set_matrix m) (rows_shape m (set_rows m))

  length-right : length (scale g.scale (parameter_part m i g.vector) ++ zeros (lift_count m.set_lines))
      ≡ set_column_count m
  length-right =
      length-append (scale g.scale (parameter_part m i g.vector)) (zeros (lift_count m.set_lines))
      ∙ ap₂ ◌+◌ (length-scale ℚ_ring g.scale (parameter_part m i g.vector)
      ∙ length-tail (numbers_at (matrix_at (matrices m) i) g.vector) (length m.parameters)
      (length-mat_vec form g.vector ∙ matrix_height m i inside))
      (length-zeros ℚ_ring (lift_count m.set_lines))

  at-left : (k : ℕ) → at (vec_mat (set_column_count m) amounts (set_matrix m)) k ≡ dot amounts (column k (set_matrix m))
  at-left k = at-vec_mat (set_column_count m) amounts (set_matrix m) k (rows_shape m (set_rows m))

  at-right : (k : ℕ) → at (scale g.scale (parameter_part m i g.vector) ++ zeros (lift_count m.set_lines)) k
      ≡ g.scale *ℚ at (mat_vec form g.vector) (suc k)
  at-right k =
      at-scaled g.scale (parameter_part m i g.vector) (lift_count m.set_lines) k
      ∙ ap (λ y. g.scale *ℚ y) (at-tail (mat_vec form g.vector) k)

  parts_in : parts → Covers m i g.scale g.vector amounts
  parts_in p = record {
    count = length-tabulate (length (set_rows m)) (λ r. amount_at g.covers i r);
    nonnegative = signs_in i (length (set_rows m)) g.covers p.0;
    columns = same_by_places (vec_mat (set_column_count m) amounts (set_matrix m))
        (scale g.scale (parameter_part m i g.vector) ++ zeros (lift_count m.set_lines)) (length-left ∙ sym length-right)
        (λ k low. at-left k
        ∙ each_numbers same_column 0 (set_column_count m) p.1.0 k (omega arith) (omega (arith, length-left, low))
        ∙ sym (at-right k));
    constant = subst (λ y. dot amounts (set_limits m) +ℚ g.scale *ℚ y ≤ℚ 0ℚ)
        (sym (at-head (mat_vec form g.vector))) p.1.1.0;
  }

  parts_out : Covers m i g.scale g.vector amounts → parts
  parts_out c = (
    signs_out i (length (set_rows m)) g.covers named h.ordered c.nonnegative,
    (
      numbers_each same_column 0 (set_column_count m)
          (λ k low high. sym (at-left k) ∙ ap (λ (xs : List Fraction). at xs k) c.columns ∙ at-right k),
      (subst (λ y. dot amounts (set_limits m) +ℚ g.scale *ℚ y ≤ℚ 0ℚ) (at-head (mat_vec form g.vector)) c.constant, tt),
    ),
  )

  -- the verdict on a form says whether its multipliers cover it
  pub form_judged : Judges (Covers m i g.scale g.vector (amounts_of m g.covers i))
      (verdict (form_tests limit (lifted m) g i (fractions (matrix_at (matrices m) i)) (covers_of i g.covers)))
  form_judged =
      judges_as parts (Covers m i g.scale g.vector amounts) (verdict (form_tests limit (lifted m) g i form mine))
      parts_in parts_out parts_judged

-- ---- all forms
module _ (limit : ℕ) (m : RobustModel) (g : Covering) (h : AreCoversOf m g.covers) where
  abbrev covered_at : ℕ → Type 0
  covered_at i = Covers m i g.scale g.vector (amounts_of m g.covers i)

  forms_judged : (i : ℕ) (all : List (List (List ℤ)))
      → ((k : ℕ) → k < length all → matrix_at all k ≡ matrix_at (matrices m) (i + k))
      → i + length all ≡ length (matrices m)
      → Judges (Each covered_at (numbers_from i (length all))) (verdict (cover_tests limit (lifted m) g i all))
  forms_judged i [] same len = tt
  forms_judged i (a ∷ all) same len =
      judges_append (covered_at i) (Each covered_at (numbers_from (suc i) (length all)))
      (form_tests limit (lifted m) g i (fractions a) (covers_of i g.covers))
      (cover_tests limit (lifted m) g (suc i) all)
      (subst (λ (x : List (List ℤ)).
      Judges (covered_at i) (verdict (form_tests limit (lifted m) g i (fractions x) (covers_of i g.covers))))
      (ap (matrix_at (matrices m)) (let e : i ≡ i + 0 = omega arith in e) ∙ sym (same 0 (omega arith)))
      (form_judged limit m g h i (omega (arith, len))))
      (forms_judged (suc i) all (λ k low. same (suc k) (omega arith)
      ∙ ap (matrix_at (matrices m)) (let e : i + suc k ≡ suc i + k = omega arith in e)) (omega (arith, len)))

  pub covering_judged : Judges (EachCovered m g.covers g.scale g.vector) (verdict (covering_tests limit m g))
  covering_judged =
      judges_as (Each covered_at (numbers_from 0 (length (matrices m)))) (EachCovered m g.covers g.scale g.vector)
      (verdict (covering_tests limit m g))
      (λ all i low. each_numbers covered_at 0 (length (matrices m)) all i (omega arith) (omega arith))
      (λ all. numbers_each covered_at 0 (length (matrices m)) (λ i low high. all i (omega arith)))
      (forms_judged 0 (matrices m)
      (λ k low. ap (matrix_at (matrices m)) (let e : k ≡ 0 + k = omega arith in e)) (omega arith))
