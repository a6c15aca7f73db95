-- The matrix of an expression at a vector and a plan: its table there, times the least common denominator.
use Rattle.std.specs.Prelude.{◌≡◌, ℕ, zero, suc, ◌<◌, ℤ, pos, List, [], ◌∷◌, length, map, get_or, refl}
use Rattle.std.proofs.Common.{◌∙◌, ap, ap₂, subst, sym, arith}
use Rattle.std.proofs.lemmas.List.{length-map}
use Rattle.rob_algebra.specs.Fraction.{Fraction, of_int, ◌+ℚ◌, ◌*ℚ◌, ◌≤ℚ◌, ◌<ℚ◌}
use Rattle.rob_algebra.specs.FractionLaws as Q
use Rattle.rob_algebra.specs.FractionOrderLaws.{le_of_lt_ℚ, le_one, cancel_le_ℚ}
use Rattle.rob_algebra.specs.FractionLaws.{ℚ_ring}
use Rattle.rob_algebra.specs.Lists.{dot, scale, plus_all, mat_vec, Rows, dot_comm, dot-scale, dot-plus}
use Rattle.rob_algebra.specs.Polynomials.{lit, ◌:*◌, v0, v1}
use Rattle.rob_meaning.proofs.Tables.ClearingLemmas.{mat_vec-cleared, denominator_pos, multiplier_pos, dot-tabulate, length-tabulate}
use Rattle.rob_meaning.proofs.Lists.LinearLemmas.{le_along, along_le}
use Rattle.rob_meaning.proofs.Tables.TableLemmas.{value-table}
use Rattle.rob_meaning.specs.Clearing.{denominator, entries, fractions, whole_at}
use Rattle.rob_meaning.specs.Coefficients.{table, table_at}
use Rattle.rob_meaning.specs.Degrees.{IsLinear}
use Rattle.rob_meaning.specs.Expressions.{Expression}
use Rattle.rob_meaning.specs.Forms.{entries_of, form_columns, form_rows, forms, matrices, matrix_at, matrix_of, sum_at}
use Rattle.rob_meaning.specs.Places.{0ℚ, 1ℚ, Each, along, tabulate}
use Rattle.rob_meaning.specs.RobustModel.{RobustModel, column_count}
use Rattle.rob_meaning.specs.Values.{value}

-- the matrix of a number that is there
pub matrix_is : (forms : List (List (List ℤ))) (i : ℕ) (form : List (List ℤ)) → i < length forms
    → form ≡ get_or forms i form → matrix_at forms i ≡ form
matrix_is [] i form inside is = absurd (omega arith)
matrix_is (a ∷ forms) zero form inside is = sym is
matrix_is (a ∷ forms) (suc i) form inside is = matrix_is forms i form (omega arith) is

pub dot-scale_right : (c : Fraction) (xs ys : List Fraction) → dot ℚ_ring xs (scale ℚ_ring c ys) ≡ c *ℚ dot ℚ_ring xs ys
dot-scale_right c xs ys =
    dot_comm ℚ_ring xs (scale ℚ_ring c ys) ∙ dot-scale ℚ_ring c ys xs ∙ ap (λ z. c *ℚ z) (dot_comm ℚ_ring ys xs)

pub dot-plus_right : (xs ys zs : List Fraction) → length ys ≡ length zs →
    dot ℚ_ring xs (plus_all ℚ_ring ys zs) ≡ dot ℚ_ring xs ys +ℚ dot ℚ_ring xs zs
dot-plus_right xs ys zs e =
    dot_comm ℚ_ring xs (plus_all ℚ_ring ys zs) ∙ dot-plus ℚ_ring ys zs xs e
    ∙ ap₂ ◌+ℚ◌ (dot_comm ℚ_ring ys xs) (dot_comm ℚ_ring zs xs)

mat_vec-tabulate : (h : ℕ) (g : ℕ → List Fraction) (z : List Fraction) →
    mat_vec ℚ_ring (tabulate h g) z ≡ tabulate h (λ k. dot ℚ_ring (g k) z)
mat_vec-tabulate zero g z = refl
mat_vec-tabulate (suc h) g z =
    ap (λ (xs : List Fraction). dot ℚ_ring (g zero) z ∷ xs) (mat_vec-tabulate h (λ k. g (suc k)) z)

pub length-mat_vec : (rows : List (List Fraction)) (z : List Fraction) → length (mat_vec ℚ_ring rows z) ≡ length rows
length-mat_vec [] z = refl
length-mat_vec (row ∷ rows) z = ap suc (length-mat_vec rows z)

module _ (m : RobustModel) where
  -- the law of the matrix: it is the table times a positive number
  pub sum_at-table : (e : Expression) (s : Fraction) (p z : List Fraction) → length p ≡ length m.parameters →
      length z ≡ form_columns m →
      sum_at (matrix_of m e) s p z ≡ of_int (pos (denominator (entries (entries_of m (table m e))))) *ℚ table_at
      (table m e) (s ∷ p) z
  sum_at-table e s p z hp hz =
      let rows = entries_of m (table m e) in
      ap (λ (xs : List Fraction). dot ℚ_ring (s ∷ p) xs) (mat_vec-cleared rows z)
      ∙ dot-scale_right (of_int (pos (denominator (entries rows)))) (s ∷ p) (mat_vec ℚ_ring rows z)
      ∙ ap (λ x. of_int (pos (denominator (entries rows))) *ℚ x)
      (ap (λ (xs : List Fraction). dot ℚ_ring (s ∷ p) xs)
      (mat_vec-tabulate (form_rows m) (λ k. tabulate (form_columns m) (λ j. table m e k j)) z)
      ∙ dot_comm ℚ_ring (s ∷ p)
      (tabulate (form_rows m) (λ k. dot ℚ_ring (tabulate (form_columns m) (λ j. table m e k j)) z))
      ∙ dot-tabulate (form_rows m) (λ k. dot ℚ_ring (tabulate (form_columns m) (λ j. table m e k j)) z) (s ∷ p)
      (ap suc hp)
      ∙ ap (λ (f : ℕ → Fraction). along f (s ∷ p)) (λ i k. dot-tabulate (form_columns m) (λ j. table m e k j) z hz i))

  pub multiplier_positive : (e : Expression) → 0ℚ <ℚ of_int (pos (denominator (entries (entries_of m (table m e)))))
  multiplier_positive e =
      multiplier_pos (denominator (entries (entries_of m (table m e))))
      (denominator_pos (entries (entries_of m (table m e))))

  -- the law of one form: an expression's value is at most 0 exactly where its matrix's sum is
  pub value_sum : (e : Expression) (u columns : List Fraction) → IsLinear m e → length u ≡ length m.parameters →
      length columns ≡ suc (column_count m) →
      sum_at (matrix_of m e) 1ℚ u (1ℚ ∷ columns) ≡ of_int
      (pos (denominator (entries (entries_of m (table m e))))) *ℚ value m columns u e
  value_sum e u columns linear hu hc =
      sum_at-table e 1ℚ u (1ℚ ∷ columns) hu (ap suc hc)
      ∙ ap (λ x. of_int (pos (denominator (entries (entries_of m (table m e))))) *ℚ x)
      (value-table m u columns e linear)

  pub sum_in : (e : Expression) (u columns : List Fraction) → IsLinear m e → length u ≡ length m.parameters →
      length columns ≡ suc (column_count m) →
      value m columns u e ≤ℚ 0ℚ → sum_at (matrix_of m e) 1ℚ u (1ℚ ∷ columns) ≤ℚ 0ℚ
  sum_in e u columns linear hu hc h =
      le_along (value_sum e u columns linear hu hc)
      (le_one (of_int (pos (denominator (entries (entries_of m (table m e))))) ∷ value m columns u e ∷ []) (v0 :* v1)
      (lit (pos 0)) v0 v1 (lit (pos 0)) refl
      (le_of_lt_ℚ 0ℚ (of_int (pos (denominator (entries (entries_of m (table m e)))))) (multiplier_positive e)) h)

  pub sum_out : (e : Expression) (u columns : List Fraction) → IsLinear m e → length u ≡ length m.parameters →
      length columns ≡ suc (column_count m) →
      sum_at (matrix_of m e) 1ℚ u (1ℚ ∷ columns) ≤ℚ 0ℚ → value m columns u e ≤ℚ 0ℚ
  sum_out e u columns linear hu hc h =
      let d = of_int (pos (denominator (entries (entries_of m (table m e))))) in
      cancel_le_ℚ (value m columns u e) 0ℚ d (multiplier_positive e)
      (subst (λ z. d *ℚ value m columns u e ≤ℚ z) (Q.ring (d ∷ []) (lit (pos 0)) (v0 :* lit (pos 0)) refl)
      (along_le (value_sum e u columns linear hu hc) h))

-- ---- the matrix of a number
pub matrix_in : (f : Expression → List (List ℤ)) (P : List (List ℤ) → Type 0) → P [] → (es : List Expression) →
    Each (λ e. P (f e)) es → (i : ℕ) → P (matrix_at (map f es) i)
matrix_in f P none [] h i = none
matrix_in f P none (e ∷ es) h zero = h.0
matrix_in f P none (e ∷ es) h (suc i) = matrix_in f P none es h.1 i

pub matrix_some : (f : Expression → List (List ℤ)) (P : List (List ℤ) → Type 0) → ((e : Expression) → P (f e)) →
    (es : List Expression) → (i : ℕ) → i < length (map f es) → P (matrix_at (map f es) i)
matrix_some f P h [] i k = absurd (omega arith)
matrix_some f P h (e ∷ es) zero k = h e
matrix_some f P h (e ∷ es) (suc i) k = matrix_some f P h es i (omega arith)

pub matrix_out : (f : Expression → List (List ℤ)) (P : List (List ℤ) → Type 0) (es : List Expression) →
    ((i : ℕ) → i < length (map f es) → P (matrix_at (map f es) i)) → Each (λ e. P (f e)) es
matrix_out f P [] h = tt
matrix_out f P (e ∷ es) h = (h zero (omega arith), matrix_out f P es (λ i k. h (suc i) (omega arith)))

-- ---- shapes
length-cleared : (d : ℕ) (rows : List (List Fraction)) → length (fractions (map (map (whole_at d)) rows)) ≡ length rows
length-cleared d [] = refl
length-cleared d (row ∷ rows) = ap suc (length-cleared d rows)

rows-cleared : (d n : ℕ) (rows : List (List Fraction)) → Rows ℚ_ring n rows →
    Rows ℚ_ring n (fractions (map (map (whole_at d)) rows))
rows-cleared d n [] h = tt
rows-cleared d n (row ∷ rows) h =
    (length-map (map (whole_at d) row) of_int ∙ length-map row (whole_at d) ∙ h.0, rows-cleared d n rows h.1)

rows-tabulate : (h n : ℕ) (g : ℕ → ℕ → Fraction) → Rows ℚ_ring n (tabulate h (λ k. tabulate n (g k)))
rows-tabulate zero n g = tt
rows-tabulate (suc h) n g = (length-tabulate n (g zero), rows-tabulate h n (λ k. g (suc k)))

module _ (m : RobustModel) where
  -- each form has a matrix
  pub length-matrices : length (matrices m) ≡ length (forms m)
  length-matrices = length-map (forms m) (matrix_of m)

  pub matrix_height : (i : ℕ) → i < length (matrices m) → length (fractions (matrix_at (matrices m) i)) ≡ form_rows m
  matrix_height i h =
      matrix_some (matrix_of m) (λ a. length (fractions a) ≡ form_rows m)
      (λ e. length-cleared (denominator (entries (entries_of m (table m e)))) (entries_of m (table m e))
      ∙ length-tabulate (form_rows m) (λ k. tabulate (form_columns m) (λ j. table m e k j)))
      (forms m) i h

  pub matrix_rows : (i : ℕ) → Rows ℚ_ring (form_columns m) (fractions (matrix_at (matrices m) i))
  matrix_rows i =
      matrix_in (matrix_of m) (λ a. Rows ℚ_ring (form_columns m) (fractions a)) tt (forms m)
      (all (λ e. rows-cleared (denominator (entries (entries_of m (table m e)))) (form_columns m)
      (entries_of m (table m e)) (rows-tabulate (form_rows m) (form_columns m) (λ k j. table m e k j))) (forms m)) i
    where
      all : ((e : Expression) → Rows ℚ_ring (form_columns m) (fractions (matrix_of m e))) → (es : List Expression) →
          Each (λ e. Rows ℚ_ring (form_columns m) (fractions (matrix_of m e))) es
      all h [] = tt
      all h (e ∷ es) = (h e, all h es)
