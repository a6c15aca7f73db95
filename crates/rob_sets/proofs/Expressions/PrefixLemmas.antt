-- The first few terms of a sum and factors of a product: their tables, and the subexpressions that are left.
use Rattle.std.specs.Prelude.{◌≡◌, ℕ, ◌+◌, ◌<◌, ◌≤◌, Bool, List, [], ◌∷◌, ◌++◌, map, length, take, drop, refl}
use Rattle.std.proofs.Common.{sym, ◌∙◌, ap, ap₂, get_or, take_all}
use Rattle.std.proofs.lemmas.List.{map-append}
use Rattle.rob_algebra.specs.Fraction.{Fraction, ◌+ℚ◌}
use Rattle.rob_algebra.specs.FractionLaws as Q
use Rattle.rob_meaning.specs.Coefficients.{Table, single, table, sum_table, product_table, table_times}
use Rattle.rob_meaning.specs.Expressions.{Expression, sum, product, Terms, no_terms, term, Factors, no_factors, factor}
use Rattle.rob_meaning.specs.Places.{0ℚ}
use Rattle.rob_meaning.specs.RobustModel.{RobustModel}
use Rattle.rob_meaning.specs.Values.{signed}
use Rattle.rob_meaning.proofs.Tables.TableLemmas.{table_times-assoc, times_comm}
use Rattle.rob_model.specs.View.{Signed, expression_of, signed_of, terms_of, factors_of}
use Rattle.rob_model.specs.declared.expr.Expr.{Expr}
use Rattle.rob_model.specs.declared.expr.Term.{Term}
use Rattle.rob_model.proofs.PartLemmas.{terms_at, factors_at, signed_is, drop_all}
use Rattle.rob_sets.specs.Subexpressions.{with_term, with_factor, sums_from, products_from, subexpressions}
use Rattle.rob_sets.proofs.Cells.ListLemmas.{take_one_more}
use Rattle.rob_sets.proofs.Cells.PartedLemmas.{Parted}

-- ---- prefixes of a sum
pub sum_table-with : (m : RobustModel) (before : Terms) (minus : Bool) (e : Expression) (k j : ℕ)
    → sum_table m (with_term before minus e) k j ≡ sum_table m before k j +ℚ signed minus (table m e k j)
sum_table-with m no_terms minus e k j = Q.ℚ-add_comm (signed minus (table m e k j)) 0ℚ
sum_table-with m (term first d ts) minus e k j =
    ap (λ u. signed first (table m d k j) +ℚ u) (sum_table-with m ts minus e k j)
    ∙ sym (Q.ℚ-add_assoc (signed first (table m d k j)) (sum_table m ts k j) (signed minus (table m e k j)))

-- ---- prefixes of a product
pub product_table-with : (m : RobustModel) (before : Factors) (e : Expression) (k j : ℕ)
    → product_table m (with_factor before e) k j ≡ table_times (product_table m before) (table m e) k j
product_table-with m no_factors e k j = times_comm (table m e) (single 0 0) k j
product_table-with m (factor d fs) e k j =
    ap (λ (f : Table). table_times (table m d) f k j) (λ i a b. product_table-with m fs e a b i)
    ∙ sym (table_times-assoc (table m d) (product_table m fs) (table m e) k j)

-- ---- the program's terms and factors, the first few and the others
module _ {N : Type 0} (value : N → Fraction) where
  abbrev pub first_terms : List (Term N) → ℕ → Terms
  first_terms ts i = terms_of (map (signed_of value) (take i ts))

  abbrev pub other_terms : List (Term N) → ℕ → Terms
  other_terms ts i = terms_of (map (signed_of value) (drop i ts))

  abbrev pub first_factors : List (Expr N) → ℕ → Factors
  first_factors fs i = factors_of (map (expression_of value) (take i fs))

  abbrev pub other_factors : List (Expr N) → ℕ → Factors
  other_factors fs i = factors_of (map (expression_of value) (drop i fs))

  terms_with : (ts : List Signed) (s : Signed) → terms_of (ts ++ s ∷ []) ≡ with_term (terms_of ts) s.0 s.1
  terms_with [] s = refl
  terms_with (t ∷ ts) s = ap (term t.0 t.1) (terms_with ts s)

  factors_with : (fs : List Expression) (e : Expression) → factors_of (fs ++ e ∷ []) ≡ with_factor (factors_of fs) e
  factors_with [] e = refl
  factors_with (f ∷ fs) e = ap (factor f) (factors_with fs e)

  pub first_terms-more : (ts : List (Term N)) (i : ℕ) (t : Term N) → i < length ts → t ≡ get_or ts i t
      → first_terms ts (i + 1) ≡ with_term (first_terms ts i) t.minus (expression_of value t.inner)
  first_terms-more ts i t h e =
      ap (λ (xs : List (Term N)). terms_of (map (signed_of value) xs)) (take_one_more ts i t h e)
      ∙ ap terms_of (map-append (signed_of value) (take i ts) (t ∷ []))
      ∙ terms_with (map (signed_of value) (take i ts)) (signed_of value t)
      ∙ ap (λ (s : Signed). with_term (first_terms ts i) s.0 s.1) (signed_is value t)

  pub first_factors-more : (fs : List (Expr N)) (i : ℕ) (f : Expr N) → i < length fs → f ≡ get_or fs i f
      → first_factors fs (i + 1) ≡ with_factor (first_factors fs i) (expression_of value f)
  first_factors-more fs i f h e =
      ap (λ (xs : List (Expr N)). factors_of (map (expression_of value) xs)) (take_one_more fs i f h e)
      ∙ ap factors_of (map-append (expression_of value) (take i fs) (f ∷ []))
      ∙ factors_with (map (expression_of value) (take i fs)) (expression_of value f)

  -- what is left of the subexpressions
  pub sums_at : (ts : List (Term N)) (i : ℕ) (t : Term N) → i < length ts → t ≡ get_or ts i t
      → Parted (sums_from (first_terms ts i) (other_terms ts i)) (subexpressions (expression_of value t.inner))
      (sum (first_terms ts (i + 1)) ∷ sums_from (first_terms ts (i + 1)) (other_terms ts (i + 1)))
  sums_at ts i t h e = record {
    is = ap (λ (xs : Terms). sums_from (first_terms ts i) xs) (terms_at value ts i t h e)
        ∙ ap (λ (xs : Terms). subexpressions (expression_of value t.inner)
        ++ (sum xs ∷ sums_from xs (other_terms ts (i + 1))))
        (sym (first_terms-more ts i t h e));
  }

  pub products_at : (fs : List (Expr N)) (i : ℕ) (f : Expr N) → i < length fs → f ≡ get_or fs i f
      → Parted (products_from (first_factors fs i) (other_factors fs i)) (subexpressions (expression_of value f))
      (product (first_factors fs (i + 1)) ∷ products_from (first_factors fs (i + 1)) (other_factors fs (i + 1)))
  products_at fs i f h e = record {
    is = ap (λ (xs : Factors). products_from (first_factors fs i) xs) (factors_at value fs i f h e)
        ∙ ap (λ (xs : Factors). subexpressions (expression_of value f)
        ++ (product xs ∷ products_from xs (other_factors fs (i + 1))))
        (sym (first_factors-more fs i f h e));
  }

  -- past the end all are the first, and none is left
  pub terms_end : (ts : List (Term N)) (i : ℕ) → length ts ≤ i
      → (first_terms ts i ≡ terms_of (map (signed_of value) ts)) × (other_terms ts i ≡ no_terms)
  terms_end ts i h = (
    ap (λ (xs : List (Term N)). terms_of (map (signed_of value) xs)) (take_all i ts h),
    ap (λ (xs : List (Term N)). terms_of (map (signed_of value) xs)) (drop_all i ts h),
  )

  pub factors_end : (fs : List (Expr N)) (i : ℕ) → length fs ≤ i
      → (first_factors fs i ≡ factors_of (map (expression_of value) fs)) × (other_factors fs i ≡ no_factors)
  factors_end fs i h = (
    ap (λ (xs : List (Expr N)). factors_of (map (expression_of value) xs)) (take_all i fs h),
    ap (λ (xs : List (Expr N)). factors_of (map (expression_of value) xs)) (drop_all i fs h),
  )

  -- ---- the table of one term or one factor more
  module _ (m : RobustModel) (so_far part next : Table) where
    pub sum_more : (ts : List (Term N)) (i : ℕ) (t : Term N) → i < length ts → t ≡ get_or ts i t
        → ((k j : ℕ) → so_far k j ≡ sum_table m (first_terms ts i) k j)
        → ((k j : ℕ) → part k j ≡ table m (expression_of value t.inner) k j)
        → ((k j : ℕ) → next k j ≡ so_far k j +ℚ signed t.minus (part k j)) → (k j : ℕ)
        → next k j ≡ sum_table m (first_terms ts (i + 1)) k j
    sum_more ts i t h e a b c k j =
        c k j ∙ ap₂ (λ u v. u +ℚ signed t.minus v) (a k j) (b k j)
        ∙ sym (sum_table-with m (first_terms ts i) t.minus (expression_of value t.inner) k j)
        ∙ ap (λ x. sum_table m x k j) (sym (first_terms-more ts i t h e))

    pub product_more : (fs : List (Expr N)) (i : ℕ) (f : Expr N) → i < length fs → f ≡ get_or fs i f
        → ((k j : ℕ) → so_far k j ≡ product_table m (first_factors fs i) k j)
        → ((k j : ℕ) → part k j ≡ table m (expression_of value f) k j)
        → ((k j : ℕ) → next k j ≡ table_times so_far part k j) → (k j : ℕ)
        → next k j ≡ product_table m (first_factors fs (i + 1)) k j
    product_more fs i f h e a b c k j =
        c k j ∙ ap₂ (λ (u v : Table). table_times u v k j) (λ n x y. a x y n) (λ n x y. b x y n)
        ∙ sym (product_table-with m (first_factors fs i) (expression_of value f) k j)
        ∙ ap (λ x. product_table m x k j) (sym (first_factors-more fs i f h e))
