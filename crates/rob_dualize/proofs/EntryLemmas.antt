-- Numbers of forms and set rows, as they are read place by place.
use Rattle.std.proofs.Common.{◌≡◌, ◌⊎◌, ℕ, zero, suc, ◌+◌, ◌-◌, ◌*◌, ◌/◌, ◌^◌, ◌<◌, ◌≤◌, List, [], ◌∷◌, length, inl, inr, sym, ap, ap₂, ◌∙◌, subst, arith, w64, to_z, of_z, get_or}
use Rattle.std.proofs.lemmas.Nat.{mul-le}
use Rattle.std.specs.Prelude.{slice_index_or}
use lib.IntN.{ℤ, pos, neg_ℤ, nat_abs}
use Rattle.rob_linear.specs.Vectors.{at}
use Rattle.rob_meaning.specs.Forms.{matrix_at}
use Rattle.rob_number.proofs.CastLemmas.{seen}
use Rattle.rob_counterpart.specs.Counterpart.{cell}
use Rattle.rob_counterpart.specs.RobustProgram.{RobustProgram, entry}
use Rattle.rob_counterpart.specs.Splitting.{signed_entry}
use Rattle.rob_counterpart.specs.Reform.{pairs, plan_entry, multiplier_entry, row_entry}
use Rattle.rob_counterpart.proofs.Positions.ReformPlaces.{where_less}
use Rattle.rob_sets.specs.declared.set_form.SetForm.{SetForm}
use Rattle.rob_sets.specs.declared.set_form.SetRow.{SetRow}
use Rattle.rob_elab.specs.declared.forms.Forms.{Forms}
use Rattle.rob_dualize.specs.Wholes.{AreSound, IsSound}
use Rattle.rob_dualize.proofs.CounterpartLists.{in_multipliers, outside_multipliers}
use Rattle.rob_meaning.proofs.Tables.MatrixLemmas.{matrix_is as matrix_item}
use Rattle.rob_dualize.specs.SetProgram.{left_sides, right_sides}

-- a machine number that is small is what it is read as
pub seen_as : (v w : ℤ) → v ≡ w → nat_abs w ≤ 2 ^ 62 - 1 → to_z w64 (of_z w64 v) ≡ w
seen_as v w e h = ap (λ x. to_z w64 (of_z w64 x)) e ∙ seen w (omega arith)

pub small_as : (v w : ℤ) → v ≡ w → nat_abs w ≤ 2 ^ 62 - 1 → nat_abs (to_z w64 (of_z w64 v)) ≤ 2 ^ 62 - 1
small_as v w e h = subst (λ x. nat_abs x ≤ 2 ^ 62 - 1) (sym (seen_as v w e h)) h

-- the item at a place, whatever stands for one past the end
item_any : {A : Type 0} (xs : List A) (k : ℕ) (x d : A) → k < length xs → x ≡ get_or xs k x → slice_index_or xs k d ≡ x
item_any [] k x d l e = absurd (omega arith)
item_any (y ∷ xs) zero x d l e = sym e
item_any (y ∷ xs) (suc k) x d l e = item_any xs k x d (omega arith) e

module _ (forms : Forms) (sound : AreSound forms) (i k : ℕ) (l : i < length forms.matrices) (kl : k ≤ forms.params)
    (all : List (List (List ℤ))) (a rows : List (List ℤ)) (row numbers : List ℤ)
    (all_is : all ≡ forms.matrices) (a_is : a ≡ get_or all i a) (rows_are : rows ≡ a) where
  matrix_is : matrix_at forms.matrices i ≡ rows
  matrix_is = matrix_item forms.matrices i a l (a_is ∙ ap (λ xs. get_or xs i a) all_is) ∙ sym rows_are

  pub rows_count : length rows ≡ suc forms.params
  rows_count = ap length (sym matrix_is) ∙ sound.rows i l

  row_is : row ≡ get_or rows k row → numbers ≡ row → slice_index_or (matrix_at forms.matrices i) k [] ≡ numbers
  row_is e f = ap (λ xs. slice_index_or xs k []) matrix_is ∙ item_any rows k row []
      (let h : length rows ≡ suc forms.params = rows_count in omega arith) e ∙ sym f

  pub numbers_count : row ≡ get_or rows k row → numbers ≡ row → length numbers ≡ suc (suc forms.columns)
  numbers_count e f = ap length (sym (row_is e f)) ∙ sound.columns i k l kl

  pub form_number_is : row ≡ get_or rows k row → numbers ≡ row → (j : ℕ)
      → get_or numbers j (pos 0) ≡ cell (matrix_at forms.matrices i) k j
  form_number_is e f j = ap (λ xs. at xs j) (sym (row_is e f))

left_item : (rows : List SetRow) (r : ℕ) (row : SetRow) → r < length rows → row ≡ get_or rows r row
    → slice_index_or (left_sides rows) r [] ≡ row.g
left_item [] r row l e = absurd (omega arith)
left_item (x ∷ rows) zero row l e = ap (λ (y : SetRow). y.g) (sym e)
left_item (x ∷ rows) (suc r) row l e = left_item rows r row (omega arith) e

right_item : (rows : List SetRow) (r : ℕ) (row : SetRow) → r < length rows → row ≡ get_or rows r row
    → at (right_sides rows) r ≡ row.h
right_item [] r row l e = absurd (omega arith)
right_item (x ∷ rows) zero row l e = ap (λ (y : SetRow). y.h) (sym e)
right_item (x ∷ rows) (suc r) row l e = right_item rows r row (omega arith) e

module _ (set : SetForm) (sound : IsSound set) (r : ℕ) (l : r < length set.rows) (all : List SetRow) (row : SetRow)
    (numbers : List ℤ)
    (all_is : all ≡ set.rows) (row_at : row ≡ get_or all r row) where
  pub left_is : numbers ≡ (get_or all r row).g → slice_index_or (left_sides set.rows) r [] ≡ numbers
  left_is f = left_item set.rows r row l (row_at ∙ ap (λ xs. get_or xs r row) all_is)
      ∙ ap (λ (y : SetRow). y.g) row_at ∙ sym f

  pub left_count : numbers ≡ (get_or all r row).g → length numbers ≡ set.columns
  left_count f = ap length (sym (left_is f)) ∙ sound.columns r l

  pub left_number_is : numbers ≡ (get_or all r row).g → (c : ℕ)
      → get_or numbers c (pos 0) ≡ cell (left_sides set.rows) r c
  left_number_is f c = ap (λ xs. at xs c) (sym (left_is f))

  pub right_number_is : (get_or all r row).h ≡ at (right_sides set.rows) r
  right_number_is = ap (λ (y : SetRow). y.h) (sym row_at) ∙ sym
      (right_item set.rows r row l (row_at ∙ ap (λ xs. get_or xs r row) all_is))

pub seen_same : (v w : ℤ) → v ≡ w → nat_abs v ≤ 2 ^ 62 - 1 → to_z w64 (of_z w64 v) ≡ w
seen_same v w e h = seen v (omega arith) ∙ e

-- ---- a row's columns, as they are counted
module _ (d : RobustProgram) (i p k : ℕ) where
  pub inside_row : (plan count : ℕ) → plan ≡ pairs d → count ≡ d.set_rows → plan + i * count ≤ k
      → k < (plan + i * count) + count
      → multiplier_entry d p (k - (plan + i * count)) ≡ row_entry d i p k
  inside_row plan count e f low high =
      let w : plan + i * count ≡ pairs d + (i * d.set_rows) = ap₂ (λ a b. a + i * b) e f in
      ap (λ v. multiplier_entry d p (k - v)) w ∙ sym (in_multipliers d i p k (omega arith) (omega arith))

  pub outside_row : (plan count : ℕ) → plan ≡ pairs d → count ≡ d.set_rows → plan ≤ k
      → k < pairs d + (d.forms * d.set_rows)
      → (k < plan + i * count) ⊎ ((plan + i * count) + count ≤ k) → pos 0 ≡ row_entry d i p k
  outside_row plan count e f low high out =
      let w : plan + i * count ≡ pairs d + (i * d.set_rows) = ap₂ (λ a b. a + i * b) e f in
      sym (outside_multipliers d i p k (omega arith) high (elim out
      [ inl a ↦ inl (omega arith) | inr b ↦ inr (omega arith) ]))

-- ---- the columns of a form's own multipliers, as they are counted
module _ (d : RobustProgram) (i : ℕ) (l : i < d.forms) (plan count : ℕ) (e : plan ≡ pairs d) (f : count ≡ d.set_rows)
  where
    pub own_within : (plan + i * count) + count ≤ pairs d + (d.forms * d.set_rows)
    own_within =
        let own : i * count ≡ i * d.set_rows = ap (λ v. i * v) f in
        let next : suc i * d.set_rows ≡ (i * d.set_rows) + d.set_rows = grind arith in
        let all : suc i * d.set_rows ≤ d.forms * d.set_rows = mul-le (suc i) d.set_rows d.forms d.set_rows (omega arith)
        (omega arith) in
        omega arith

    pub zero_before : (p k : ℕ) → plan ≤ k → k < plan + i * count → row_entry d i p k ≡ pos 0
    zero_before p k low high =
        let w : (plan + i * count) + count ≤ pairs d + (d.forms * d.set_rows) = own_within in
        sym (outside_row d i p k plan count e f low (omega arith) (inl high))

    pub zero_behind : (p k : ℕ) → (plan + i * count) + count ≤ k → k < pairs d + (d.forms * d.set_rows)
        → row_entry d i p k ≡ pos 0
    zero_behind p k low high = sym (outside_row d i p k plan count e f (omega arith) high (inr low))

pub plan_row : (d : RobustProgram) (i p j : ℕ) (v : ℤ) → p < d.set_columns + d.set_columns
    → v ≡ neg_ℤ (entry d i (p / 2) (suc j)) → signed_entry p v ≡ plan_entry d i p j
plan_row d i p j v l e = ap (signed_entry p) e ∙ sym (where_less p (d.set_columns + d.set_columns)
    (signed_entry p (neg_ℤ (entry d i (p / 2) (suc j)))) (d.form i 0 (suc j)) l)
