-- Items put in the order of their forms sum to the same.
use Rattle.std.proofs.Common.{◌≡◌, ℕ, zero, suc, ◌<◌, List, [], ◌∷◌, ◌++◌, length, refl, sym, ap, ap₂, ◌∙◌, arith, Bool, true, false, inl, inr}
use Rattle.std.proofs.lemmas.Bool.{cases_eq}
use Rattle.std.proofs.lemmas.Bool.Decides.{nat_tests}
use Rattle.std.specs.Prelude.{if◌then◌else◌, nat_eq}
use Rattle.rob_algebra.specs.Fraction.{Fraction}
use Rattle.rob_algebra.specs.FractionLaws as Q
use Rattle.rob_algebra.specs.FractionLaws.{ℚ_ring}
use Rattle.rob_algebra.specs.Lists.{plus_all, length-scale, length-plus_all, length-zeros, length-vec_mat}
use Rattle.rob_meaning.specs.Certificates.{Item}
use Rattle.rob_meaning.specs.Forms.{form_columns, matrices, matrix_at}
use Rattle.rob_meaning.specs.Clearing.{fractions}
use Rattle.rob_meaning.specs.Places.{Each}
use Rattle.rob_meaning.specs.Proves.{cut_of, combination}
use Rattle.rob_meaning.specs.RobustModel.{RobustModel}
use Rattle.rob_meaning.specs.Vectors.{scale, zeros}
use Rattle.rob_meaning.proofs.Tables.MatrixLemmas.{matrix_rows}
use Rattle.rob_meaning.proofs.Lists.EachLemmas.{each_append}
use Rattle.rob_runs.specs.Readings.{of_form, by_form}

-- ---- sums of lists
plus_comm : (xs ys : List Fraction) → length xs ≡ length ys → plus_all ℚ_ring xs ys ≡ plus_all ℚ_ring ys xs
plus_comm [] [] e = refl
plus_comm [] (y ∷ ys) e = refl
plus_comm (x ∷ xs) [] e = refl
plus_comm (x ∷ xs) (y ∷ ys) e =
    ap₂ (λ v (vs : List Fraction). v ∷ vs) (Q.ℚ-add_comm x y)
    (plus_comm xs ys (let d : length xs ≡ length ys = omega arith in d))

plus_assoc : (xs ys zs : List Fraction)
    → plus_all ℚ_ring (plus_all ℚ_ring xs ys) zs ≡ plus_all ℚ_ring xs (plus_all ℚ_ring ys zs)
plus_assoc [] ys zs = refl
plus_assoc (x ∷ xs) [] zs = refl
plus_assoc (x ∷ xs) (y ∷ ys) [] = refl
plus_assoc (x ∷ xs) (y ∷ ys) (z ∷ zs) =
    ap₂ (λ v (vs : List Fraction). v ∷ vs) (Q.ℚ-add_assoc x y z) (plus_assoc xs ys zs)

plus_zeros : (n : ℕ) (xs : List Fraction) → length xs ≡ n → plus_all ℚ_ring (zeros n) xs ≡ xs
plus_zeros zero [] e = refl
plus_zeros zero (x ∷ xs) e = absurd (omega arith)
plus_zeros (suc n) [] e = absurd (omega arith)
plus_zeros (suc n) (x ∷ xs) e = ap₂ (λ v (vs : List Fraction). v ∷ vs) (Q.ℚ-zero-add x) (plus_zeros n xs (omega arith))

-- an item more
pub of_form_in : (i : ℕ) (item : Item) (items : List Item) → item.form ≡ i
    → of_form i (item ∷ items) ≡ item ∷ of_form i items
of_form_in i item items e =
    ap (λ (b : Bool). if b then item ∷ of_form i items else of_form i items)
    (let f : nat_eq item.form i ≡ true = grind (arith, nat_tests) in f)

pub of_form_out : (i : ℕ) (item : Item) (items : List Item) → ¬ (item.form ≡ i)
    → of_form i (item ∷ items) ≡ of_form i items
of_form_out i item items e =
    ap (λ (b : Bool). if b then item ∷ of_form i items else of_form i items)
    (let f : nat_eq item.form i ≡ false = grind (arith, nat_tests) in f)

pub by_form_out : (n : ℕ) (item : Item) (items : List Item) → ¬ (item.form < n)
    → by_form n (item ∷ items) ≡ by_form n items
by_form_out zero item items e = refl
by_form_out (suc n) item items e =
    ap₂ (λ (xs ys : List Item). xs ++ ys) (by_form_out n item items (λ l. e (omega arith)))
    (of_form_out n item items (λ f. e (omega arith)))

module _ (m : RobustModel) where
  -- an item's weighted cut
  abbrev part : Item → List Fraction
  part item = scale item.weight (cut_of m item)

  length-cut : (item : Item) → length (cut_of m item) ≡ form_columns m
  length-cut item =
      length-vec_mat ℚ_ring (form_columns m) (item.base ∷ item.vector) (fractions (matrix_at (matrices m) item.form))
      (matrix_rows m item.form)

  length-part : (item : Item) → length (part item) ≡ form_columns m
  length-part item = length-scale ℚ_ring item.weight (cut_of m item) ∙ length-cut item

  length-combination : (items : List Item) → length (combination m items) ≡ form_columns m
  length-combination [] = length-zeros ℚ_ring (form_columns m)
  length-combination (item ∷ items) =
      length-plus_all ℚ_ring (part item) (combination m items) (length-part item ∙ sym (length-combination items))
      ∙ length-combination items

  combination-append : (xs ys : List Item)
      → combination m (xs ++ ys) ≡ plus_all ℚ_ring (combination m xs) (combination m ys)
  combination-append [] ys = sym (plus_zeros (form_columns m) (combination m ys) (length-combination ys))
  combination-append (x ∷ xs) ys =
      ap (plus_all ℚ_ring (part x)) (combination-append xs ys)
      ∙ sym (plus_assoc (part x) (combination m xs) (combination m ys))

  combination-more : (n : ℕ) (item : Item) (items : List Item) → item.form < n
      → combination m (by_form n (item ∷ items)) ≡ plus_all ℚ_ring (part item) (combination m (by_form n items))
  combination-more zero item items l = absurd (omega arith)
  combination-more (suc n) item items l =
      elim (cases_eq item.form n) [
        | inl e ↦
            ap (combination m)
            (ap₂ (λ (xs ys : List Item). xs ++ ys) (by_form_out n item items (λ h. omega arith))
            (of_form_in n item items e))
            ∙ combination-append (by_form n items) (item ∷ of_form n items)
            ∙ sym (plus_assoc (combination m (by_form n items)) (part item) (combination m (of_form n items)))
            ∙ ap (λ (xs : List Fraction). plus_all ℚ_ring xs (combination m (of_form n items)))
            (plus_comm (combination m (by_form n items)) (part item)
            (length-combination (by_form n items) ∙ sym (length-part item)))
            ∙ plus_assoc (part item) (combination m (by_form n items)) (combination m (of_form n items))
            ∙ ap (plus_all ℚ_ring (part item)) (sym (combination-append (by_form n items) (of_form n items)))
        | inr e ↦
            ap (combination m) (ap (λ (ys : List Item). by_form n (item ∷ items) ++ ys) (of_form_out n item items e))
            ∙ combination-append (by_form n (item ∷ items)) (of_form n items)
            ∙ ap (λ (xs : List Fraction). plus_all ℚ_ring xs (combination m (of_form n items)))
            (combination-more n item items (omega arith))
            ∙ plus_assoc (part item) (combination m (by_form n items)) (combination m (of_form n items))
            ∙ ap (plus_all ℚ_ring (part item)) (sym (combination-append (by_form n items) (of_form n items)))
      ]

  of_form_none : (n : ℕ) → combination m (by_form n []) ≡ zeros (form_columns m)
  of_form_none zero = refl
  of_form_none (suc n) =
      combination-append (by_form n []) []
      ∙ ap (λ (xs : List Fraction). plus_all ℚ_ring xs (zeros (form_columns m))) (of_form_none n)
      ∙ plus_zeros (form_columns m) (zeros (form_columns m)) (length-zeros ℚ_ring (form_columns m))

  -- the order doesn't count
  pub combination-by_form : (n : ℕ) (items : List Item) → Each (λ (item : Item). item.form < n) items
      → combination m (by_form n items) ≡ combination m items
  combination-by_form n [] h = of_form_none n
  combination-by_form n (item ∷ items) h =
      combination-more n item items h.0 ∙ ap (plus_all ℚ_ring (part item)) (combination-by_form n items h.1)

pub each_of_form : (P : Item → Type 0) (i : ℕ) (items : List Item) → Each P items → Each P (of_form i items)
each_of_form P i [] h = tt
each_of_form P i (item ∷ items) h = by (nat_eq item.form i) (each_of_form P i items h.1)
  where
    by : (b : Bool) → Each P (of_form i items) → Each P (if b then item ∷ of_form i items else of_form i items)
    by true rest = (h.0, rest)
    by false rest = rest

-- and what each item has, each has in that order
pub each_by_form : (P : Item → Type 0) (n : ℕ) (items : List Item) → Each P items → Each P (by_form n items)
each_by_form P zero items h = tt
each_by_form P (suc n) items h =
    each_append P (by_form n items) (of_form n items) (each_by_form P n items h) (each_of_form P n items h)
