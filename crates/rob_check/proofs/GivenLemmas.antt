-- What the shapes of a model's forms, its lifted set and a certificate say to the steps of the check.
use Rattle.std.proofs.Common.{◌≡◌, ℕ, zero, suc, ◌^◌, ◌<◌, ◌≤◌, ℤ, List, [], ◌∷◌, map, length, arith, sym, ◌∙◌, ap, ap₂, subst}
use Rattle.std.proofs.lemmas.List.{length-map}
use Rattle.rob_algebra.specs.Fraction.{Fraction, of_int}
use Rattle.rob_algebra.specs.FractionLaws.{ℚ_ring}
use Rattle.rob_algebra.specs.Lists.{Rows}
use Rattle.rob_algebra.proofs.ListLemmas.{map_map}
use Rattle.rob_cert.specs.Shape.{AreCoversOf, HasParts, IsCoverOf, IsItemOf}
use Rattle.rob_cert.specs.View.{certificate_of, status_of}
use Rattle.rob_cert.specs.declared.certificate.Status.{Status}
use Rattle.rob_cert.specs.declared.certificate.Status.TheVariants.{Optimal, Unbounded}
use Rattle.rob_cert.specs.declared.certificate.Cert.{Cert}
use Rattle.rob_elab.specs.Forms.{IsForms}
use Rattle.rob_elab.specs.declared.forms.Forms.{Forms}
use Rattle.rob_meaning.proofs.Lists.EachLemmas.{each_map}
use Rattle.rob_meaning.proofs.Tables.MatrixLemmas.{matrix_height, matrix_rows}
use Rattle.rob_meaning.proofs.Naming.NameLemmas.{length-form_names}
use Rattle.rob_meaning.specs.Certificates.{Cover, Item}
use Rattle.rob_meaning.specs.Clearing.{fractions}
use Rattle.rob_meaning.specs.Forms as meaning
use Rattle.rob_meaning.specs.Forms.{matrices, matrix_at, matrix_of}
use Rattle.rob_meaning.specs.Places.{Each}
use Rattle.rob_meaning.specs.RobustModel.{RobustModel, column_count}
use Rattle.rob_meaning.specs.SetRows as rows
use Rattle.rob_model.proofs.NameCountLemmas.{kind_few}
use Rattle.rob_model.specs.Limits.{IsWithinLimits}
use Rattle.rob_model.specs.declared.group.Kind.TheVariants.{Form}
use Rattle.rob_sets.specs.SetForm.{IsSetForm, cleared_row}
use Rattle.rob_sets.specs.declared.set_form.SetForm.{SetForm}
use Rattle.rob_sets.specs.declared.set_form.SetRow.{SetRow}
use Rattle.rob_check.specs.LiftedSet.{LiftedSet, lifted, lifted_of}
use Rattle.rob_check.specs.View.{AreOrdered, HasColumns, TakesForm}

-- ---- forms
rows_of : (n : ℕ) (a : List (List ℤ)) → Rows ℚ_ring (suc (suc n)) (fractions a) → HasColumns n a
rows_of n [] h = tt
rows_of n (row ∷ a) h = ((let e = length-map row of_int in let k = h.0 in omega (arith, e, k)), rows_of n a h.1)

each_matrix : (P : List (List ℤ) → Type 0) (xs : List (List (List ℤ))) → ((i : ℕ) → P (matrix_at xs i)) → Each P xs
each_matrix P [] h = tt
each_matrix P (x ∷ xs) h = (h zero, each_matrix P xs (λ i. h (suc i)))

module _ (m : RobustModel) (forms : Forms) (h : IsForms m forms) where
  pub each_columns : (n : ℕ) → n ≡ forms.columns → Each (HasColumns n) forms.matrices
  each_columns n e =
      subst (λ k. Each (HasColumns k) forms.matrices) (sym (e ∙ h.columns))
      (subst (Each (HasColumns (column_count m))) (sym h.matrices)
      (each_matrix (HasColumns (column_count m)) (matrices m)
      (λ i. rows_of (column_count m) (matrix_at (matrices m) i) (matrix_rows m i))))

  pub few_forms : IsWithinLimits m → length forms.matrices < 2 ^ 32
  few_forms limits =
      omega (
        arith,
        ap length h.matrices,
        length-map (meaning.forms m) (matrix_of m),
        length-form_names m,
        kind_few m limits Form,
      )

  takes : (item : Item) → IsItemOf m item → TakesForm forms.matrices item
  takes item k =
      let inside : item.form < length (matrices m) =
      (let e = length-map (meaning.forms m) (matrix_of m) in let f = k.form in omega (arith, e, f)) in
      subst (λ (all : List (List (List ℤ))). TakesForm all item) (sym h.matrices)
      (record {
        form = inside;
        rows = sym (length-map (matrix_at (matrices m) item.form) (map of_int)) ∙ matrix_height m item.form inside
            ∙ ap suc (sym k.numbers);
      })

  pub each_takes : (items : List Item) → Each (IsItemOf m) items → Each (TakesForm forms.matrices) items
  each_takes items k = each_map (IsItemOf m) (TakesForm forms.matrices) takes items k

-- ---- the lifted set
module _ (m : RobustModel) (set : SetForm) (h : IsSetForm m set) where
  pub lifted_is : lifted_of set ≡ lifted m
  lifted_is =
      ap₂ (λ (columns : ℕ) (rs : List SetRow). let all : LiftedSet = record {
        columns = columns;
        rows = map (λ (row : SetRow). map of_int row.g) rs;
        limits = map (λ (row : SetRow). of_int row.h) rs;
      } in all)
      h.columns h.rows
      ∙ ap₂ (λ (xs : List (List Fraction)) (ys : List Fraction). let all : LiftedSet = record {
        columns = rows.set_column_count m;
        rows = xs;
        limits = ys;
      } in all)
      (map_map (λ (row : SetRow). map of_int row.g) (cleared_row m) (rows.set_rows m))
      (map_map (λ (row : SetRow). of_int row.h) (cleared_row m) (rows.set_rows m))

  pub few_columns : IsWithinLimits m → set.columns ≤ 1000
  few_columns limits = omega (arith, h.columns, limits.parameters, limits.members)

  row_count : length set.rows ≡ length (rows.set_rows m)
  row_count = ap length h.rows ∙ length-map (rows.set_rows m) (cleared_row m)

  pub ordered : (covers : List Cover) → AreCoversOf m covers → AreOrdered (length set.rows) covers
  ordered covers k =
      record {
        rows = each_map (IsCoverOf m) (λ (c : Cover). c.set_row < length set.rows)
            (λ c here. (let e = row_count in let r = here.set_row in omega (arith, e, r))) covers k.each;
        ordered = k.ordered;
      }

-- ---- the parts that a status uses
module _ {N : Type 0} (value : N → Fraction) (m : RobustModel) (forms : Forms)
    (h : IsForms m forms) (cert : Cert N) where
  pub optimal_plan : cert.status ≡ Optimal → HasParts m (status_of cert.status) (certificate_of value cert)
      → length cert.plan ≡ forms.columns
  optimal_plan e parts = by (subst (λ (s : Status). HasParts m (status_of s) (certificate_of value cert)) e parts)
    where
      by : HasParts m (status_of Optimal) (certificate_of value cert) → length cert.plan ≡ forms.columns
      by k = sym (length-map cert.plan value) ∙ k.plan ∙ sym h.columns

  pub unbounded_plan : cert.status ≡ Unbounded → HasParts m (status_of cert.status) (certificate_of value cert)
      → length cert.plan ≡ forms.columns
  unbounded_plan e parts = by (subst (λ (s : Status). HasParts m (status_of s) (certificate_of value cert)) e parts)
    where
      by : HasParts m (status_of Unbounded) (certificate_of value cert) → length cert.plan ≡ forms.columns
      by k = sym (length-map cert.plan value) ∙ k.plan ∙ sym h.columns

  pub unbounded_step : cert.status ≡ Unbounded → HasParts m (status_of cert.status) (certificate_of value cert)
      → length cert.step ≡ forms.columns
  unbounded_step e parts = by (subst (λ (s : Status). HasParts m (status_of s) (certificate_of value cert)) e parts)
    where
      by : HasParts m (status_of Unbounded) (certificate_of value cert) → length cert.step ≡ forms.columns
      by k = sym (length-map cert.step value) ∙ k.step ∙ sym h.columns
