-- One multiplier more, one column more, one form more.
use Rattle.std.proofs.Common.{◌≡◌, ℕ, zero, suc, ◌+◌, ◌<◌, ◌≤◌, ℤ, List, [], ◌∷◌, ◌++◌, map, length, get_or, drop, arith, refl, sym, ◌∙◌, ap, ap₂, add-one}
use Rattle.std.specs.Prelude.{Option, Some, None}
use Rattle.rob_algebra.specs.Fraction.{Fraction, of_int, ◌*ℚ◌}
use Rattle.rob_algebra.specs.Width.{kept}
use Rattle.rob_cert.specs.View.{cover_of}
use Rattle.rob_cert.specs.declared.certificate.Cover.{Cover}
use Rattle.rob_meaning.specs.Certificates as meaning
use Rattle.rob_meaning.specs.Clearing.{fractions}
use Rattle.rob_meaning.specs.Places.{0ℚ, at}
use Rattle.rob_model.proofs.PartLemmas.{drop_at, drop_all}
use Rattle.rob_model.specs.Within.{◌>>=◌}
use Rattle.rob_sets.specs.declared.set_form.SetForm.{SetForm}
use Rattle.rob_sets.specs.declared.set_form.SetRow.{SetRow}
use Rattle.rob_check.specs.Covers.{Covering, cover_tests, covers_of, form_tests, form_within}
use Rattle.rob_check.specs.LiftedSet.{LiftedSet, lifted_of, numbers_in}
use Rattle.rob_check.specs.Sums.{added_within, column, dot_within, products, row_at, with_part}
use Rattle.rob_check.specs.Verdicts.{verdict}
use Rattle.rob_check.specs.View.{row_entry}
use Rattle.rob_check.specs.declared.verdict.Verdict.{Verdict}
use Rattle.rob_check.specs.declared.verdict.Verdict.TheVariants.{Accepted}
use Rattle.rob_check.proofs.SumLemmas.{part_wide, part_added}
use Rattle.rob_check.proofs.VerdictLemmas.{goes, stops}

-- ---- set rows
column_number : (rows : List SetRow) (k i : ℕ) (row : SetRow) → i < length rows → row ≡ get_or rows i row
    → at (column k (map (λ (row : SetRow). map of_int row.g) rows)) i ≡ at (map of_int row.g) k
column_number [] k i row inside is = absurd (omega arith)
column_number (x ∷ rows) k zero row inside is = ap (λ (r : SetRow). at (map of_int r.g) k) (sym is)
column_number (x ∷ rows) k (suc i) row inside is = column_number rows k i row (omega arith) is

limit_number : (rows : List SetRow) (i : ℕ) (row : SetRow) → i < length rows → row ≡ get_or rows i row
    → at (map (λ (row : SetRow). of_int row.h) rows) i ≡ of_int row.h
limit_number [] i row inside is = absurd (omega arith)
limit_number (x ∷ rows) zero row inside is = ap (λ (r : SetRow). of_int r.h) (sym is)
limit_number (x ∷ rows) (suc i) row inside is = limit_number rows i row (omega arith) is

number_is : (set : SetForm) (column : Option ℕ) (i : ℕ) (row : SetRow) → i < length set.rows
    → row ≡ get_or set.rows i row
    → at (numbers_in (lifted_of set) column) i ≡ row_entry row column
number_is set (Some k) i row inside is = column_number set.rows k i row inside is
number_is set None i row inside is = limit_number set.rows i row inside is

module _ {N : Type 0} (value : N → Fraction) (limit : ℕ) where
  abbrev pub rows_left : List Fraction → List (Cover N) → ℕ → Fraction → Option Fraction
  rows_left numbers mine k so_far =
      added_within limit so_far
      (map (λ (c : meaning.Cover). kept limit (c.amount *ℚ at numbers c.set_row))
      (map (cover_of value) (drop k mine)))

  module _ (set : SetForm) (column : Option ℕ) (mine : List (Cover N)) (k : ℕ) (cover : Cover N)
      (so_far : Fraction) (row : SetRow)
      (inside : k < length mine) (is : cover ≡ get_or mine k cover) (there : cover.set_row < length set.rows)
      (row_is : row ≡ get_or set.rows cover.set_row row) where
    rows_split : rows_left (numbers_in (lifted_of set) column) mine k so_far
        ≡ added_within limit so_far (kept limit (value cover.amount *ℚ row_entry row column)
        ∷ map (λ (c : meaning.Cover). kept limit (c.amount *ℚ at (numbers_in (lifted_of set) column) c.set_row))
        (map (cover_of value) (drop (k + 1) mine)))
    rows_split =
        ap (λ (xs : List (Cover N)).
        added_within limit so_far
        (map (λ (c : meaning.Cover). kept limit (c.amount *ℚ at (numbers_in (lifted_of set) column) c.set_row))
        (map (cover_of value) xs))) (drop_at mine k cover inside is)
        ∙ ap (λ x. added_within limit so_far
        (kept limit (value cover.amount *ℚ x)
        ∷ map (λ (c : meaning.Cover). kept limit (c.amount *ℚ at (numbers_in (lifted_of set) column) c.set_row))
        (map (cover_of value) (drop (k + 1) mine))))
        (number_is set column cover.set_row row there row_is)

    pub rows_stop : None ≡ with_part limit so_far (kept limit (value cover.amount *ℚ row_entry row column))
        → None ≡ rows_left (numbers_in (lifted_of set) column) mine k so_far
    rows_stop none = part_wide limit so_far _ _ none ∙ sym rows_split

    pub rows_go_on : (next : Fraction)
        → Some next ≡ with_part limit so_far (kept limit (value cover.amount *ℚ row_entry row column))
        → rows_left (numbers_in (lifted_of set) column) mine (k + 1) next
        ≡ rows_left (numbers_in (lifted_of set) column) mine k so_far
    rows_go_on next some = part_added limit so_far _ _ next some ∙ sym rows_split

  pub rows_end : (numbers : List Fraction) (mine : List (Cover N)) (k : ℕ) (so_far : Fraction) → length mine ≤ k
      → Some so_far ≡ rows_left numbers mine k so_far
  rows_end numbers mine k so_far past =
      sym (ap (λ (xs : List (Cover N)). added_within limit so_far
      (map (λ (c : meaning.Cover). kept limit (c.amount *ℚ at numbers c.set_row)) (map (cover_of value) xs)))
      (drop_all k mine past))

-- ---- a row of a form at a vector
row_split : (row : List ℤ) (j : ℕ) → j < length row
    → map of_int (drop j row) ≡ at (map of_int row) j ∷ map of_int (drop (j + 1) row)
row_split [] j inside = absurd (omega arith)
row_split (x ∷ row) zero inside = refl
row_split (x ∷ row) (suc j) inside =
    row_split row j (omega arith)
    ∙ ap (λ n. at (map of_int row) j ∷ map of_int (drop n (x ∷ row))) (ap suc (add-one j) ∙ sym (add-one (suc j)))

module _ {N : Type 0} (value : N → Fraction) (limit : ℕ) (bound : Fraction) where
  abbrev pub row_left : List N → List ℤ → ℕ → Fraction → Option Fraction
  row_left columns row j so_far =
      added_within limit so_far
      (products limit (map value (drop j columns) ++ bound ∷ []) (map of_int (drop (j + 1) row)))

  module _ (columns : List N) (row : List ℤ) (j : ℕ) (number : N) (so_far : Fraction) (inside : j < length columns)
      (is : number ≡ get_or columns j number) (some : j + 1 < length row) where
    row_step : row_left columns row j so_far
        ≡ added_within limit so_far
        (kept limit (value number *ℚ at (map of_int row) (j + 1))
        ∷ products limit (map value (drop (j + 1) columns) ++ bound ∷ []) (map of_int (drop (j + 1 + 1) row)))
    row_step =
        ap₂ (λ (xs : List N) (es : List Fraction).
        added_within limit so_far (products limit (map value xs ++ bound ∷ []) es))
        (drop_at columns j number inside is) (row_split row (j + 1) some)

    pub row_stops : None ≡ with_part limit so_far (kept limit (value number *ℚ at (map of_int row) (j + 1)))
        → None ≡ row_left columns row j so_far
    row_stops none = part_wide limit so_far _ _ none ∙ sym row_step

    pub row_goes_on : (next : Fraction)
        → Some next ≡ with_part limit so_far (kept limit (value number *ℚ at (map of_int row) (j + 1)))
        → row_left columns row (j + 1) next ≡ row_left columns row j so_far
    row_goes_on next h = part_added limit so_far _ _ next h ∙ sym row_step

  -- the last number is the bound
  pub row_ends : (columns : List N) (row : List ℤ) (j : ℕ) (so_far : Fraction) (r : Option Fraction)
      → j ≡ length columns → j + 1 < length row
      → r ≡ with_part limit so_far (kept limit (bound *ℚ at (map of_int row) (length columns + 1)))
      → r ≡ row_left columns row j so_far
  row_ends columns row j so_far r end some h =
      h ∙ ap (λ n. with_part limit so_far (kept limit (bound *ℚ at (map of_int row) (n + 1)))) (sym end)
      ∙ sym (only (with_part limit so_far (kept limit (bound *ℚ at (map of_int row) (j + 1)))))
      ∙ sym (ap₂ (λ (xs : List N) (es : List Fraction).
      added_within limit so_far (products limit (map value xs ++ bound ∷ []) es))
      (drop_all j columns (omega arith)) (row_split row (j + 1) some))
    where
      only : (o : Option Fraction) → (o >>= (λ next. Some next)) ≡ o
      only None = refl
      only (Some x) = refl

-- ---- a form's number
row_there : (form : List (List ℤ)) (k : ℕ) (row : List ℤ) → k < length form → row ≡ get_or form k row
    → row_at (fractions form) k ≡ map of_int row
row_there [] k row inside is = absurd (omega arith)
row_there (x ∷ form) zero row inside is = ap (map of_int) (sym is)
row_there (x ∷ form) (suc k) row inside is = row_there form k row (omega arith) is

row_missing : (form : List (List ℤ)) (k : ℕ) → length form ≤ k → row_at (fractions form) k ≡ []
row_missing [] k past = refl
row_missing (x ∷ form) zero past = absurd (omega arith)
row_missing (x ∷ form) (suc k) past = row_missing form k (omega arith)

module _ (limit : ℕ) (g : Covering) (form : List (List ℤ)) (k : ℕ) where
  module _ (entries row : List ℤ) (inside : k < length form) (same : entries ≡ row) (is : row ≡ get_or form k row) where
    at_row : dot_within limit g.vector (map of_int entries) ≡ dot_within limit g.vector (row_at (fractions form) k)
    at_row = ap (dot_within limit g.vector) (ap (map of_int) same ∙ sym (row_there form k row inside is))

    pub number_stops : None ≡ dot_within limit g.vector (map of_int entries)
        → None ≡ form_within limit g (fractions form) k
    number_stops none = ap (λ o. o >>= (λ x. kept limit (g.scale *ℚ x))) (none ∙ at_row)

    pub number_goes : (number : Fraction) (r : Option Fraction)
        → Some number ≡ dot_within limit g.vector (map of_int entries)
        → r ≡ kept limit (g.scale *ℚ number) → r ≡ form_within limit g (fractions form) k
    number_goes number r some h = h ∙ ap (λ o. o >>= (λ x. kept limit (g.scale *ℚ x))) (some ∙ at_row)

  pub number_missing : (first : Fraction) (rest : List Fraction) → g.vector ≡ first ∷ rest → length form ≤ k
      → (nothing : Fraction) (r : Option Fraction) → nothing ≡ 0ℚ
      → r ≡ kept limit (g.scale *ℚ nothing) → r ≡ form_within limit g (fractions form) k
  number_missing first rest vector past nothing r none h =
      h ∙ ap (λ x. kept limit (g.scale *ℚ x)) none
      ∙ ap₂ (λ (v row : List Fraction). dot_within limit v row >>= (λ x. kept limit (g.scale *ℚ x))) (sym vector)
      (sym (row_missing form k past))

-- ---- all forms
module _ (limit : ℕ) (set : LiftedSet) (g : Covering) (forms : List (List (List ℤ))) (i : ℕ)
    (form entries : List (List ℤ)) (mine : List meaning.Cover)
    (inside : i < length forms) (is : form ≡ get_or forms i form) (same : entries ≡ form)
    (mine_is : mine ≡ covers_of i g.covers) where
  forms_split : cover_tests limit set g i (drop i forms)
      ≡ form_tests limit set g i (fractions entries) mine ++ cover_tests limit set g (i + 1) (drop (i + 1) forms)
  forms_split =
      ap (cover_tests limit set g i) (drop_at forms i form inside is)
      ∙ ap₂ (λ (a : List (List ℤ)) (j : ℕ). form_tests limit set g i (fractions a) (covers_of i g.covers)
      ++ cover_tests limit set g j (drop (i + 1) forms)) (sym same) (sym (add-one i))
      ∙ ap (λ (cs : List meaning.Cover). form_tests limit set g i (fractions entries) cs
      ++ cover_tests limit set g (i + 1) (drop (i + 1) forms)) (sym mine_is)

  pub forms_stop : (v : Verdict) → (v ≡ Accepted → ⊥) → v ≡ verdict (form_tests limit set g i (fractions entries) mine)
      → v ≡ verdict (cover_tests limit set g i (drop i forms))
  forms_stop v flaw h =
      stops (form_tests limit set g i (fractions entries) mine) (cover_tests limit set g (i + 1) (drop (i + 1) forms)) v
      flaw h ∙ ap verdict (sym forms_split)

  pub forms_go : Accepted ≡ verdict (form_tests limit set g i (fractions entries) mine)
      → verdict (cover_tests limit set g (i + 1) (drop (i + 1) forms))
      ≡ verdict (cover_tests limit set g i (drop i forms))
  forms_go h =
      goes (form_tests limit set g i (fractions entries) mine) (cover_tests limit set g (i + 1) (drop (i + 1) forms)) h
      ∙ ap verdict (sym forms_split)
