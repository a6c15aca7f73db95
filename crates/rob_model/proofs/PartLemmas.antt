-- What an expression is, by its shape, and one term of a sum, or one factor of a product, more.
use Rattle.std.proofs.Common.{◌≡◌, ℕ, suc, ◌+◌, zero, ◌<◌, List, [], ◌∷◌, map, length, get_or, drop, ap, sym, ◌∙◌, subst, rules}
use Rattle.std.specs.Prelude.{Option, Some, None, slice_get}
use Rattle.rob_algebra.specs.Fraction.{Fraction, ◌*ℚ◌}
use Rattle.rob_algebra.specs.Width.{kept}
pub use Rattle.rob_algebra.proofs.ListLemmas.{drop_at, drop_all}
use Rattle.rob_meaning.specs.Expressions.{Expression, adaptive, adaptive_in, factor, number, parameter, product, sum, term, variable}
use Rattle.rob_meaning.specs.Places.{Each}
use Rattle.rob_meaning.specs.RobustModel.{RobustModel}
use Rattle.rob_meaning.specs.WellFormed.{IsInside, TermsInside, FactorsInside}
use Rattle.rob_model.specs.View.{Signed, expression_of, signed_of, terms_of, factors_of, expression_step, signed_step}
use Rattle.rob_model.specs.Within.{◌>>=◌, joined, value_within, sum_within, product_within}
use Rattle.rob_model.specs.declared.expr.Expr.{Expr, the_lemmas}
use Rattle.rob_model.specs.declared.expr.Expr.TheVariants as expr
use Rattle.rob_model.specs.declared.expr.Term.{Term, fold_out-Term}
use Rattle.rob_model.proofs.KeptLemmas.{some_is}

-- what is true of each item from a place on is true of the item there and of those behind it
pub each_at : {A : Type 0} (P : A → Type 0) (xs : List A) (i : ℕ) (x : A) → i < length xs → x ≡ get_or xs i x
    → Each P (drop i xs) → P x × Each P (drop (i + 1) xs)
each_at P xs i x h e all = subst (Each P) (drop_at xs i x h e) all

-- what is true of each item is true of the item at a number
pub each_get : {A : Type 0} (P : A → Type 0) (xs : List A) (i : ℕ) (x : A) → slice_get xs i ≡ Some x → Each P xs → P x
each_get P [] i x e all = cc
each_get P (y ∷ xs) zero x e all = subst P (some_is e) all.0
each_get P (y ∷ xs) (suc i) x e all = each_get P xs i x e all.1

pub each_at_map : {A B : Type 0} (P : B → Type 0) (f : A → B) (xs : List A) (i : ℕ) (x : A)
    → i < length xs → x ≡ get_or xs i x
    → Each P (map f (drop i xs)) → P (f x) × Each P (map f (drop (i + 1) xs))
each_at_map P f xs i x h e all = subst (λ ys. Each P (map f ys)) (drop_at xs i x h e) all

-- a step whose number is not there stops all
pub stops : {A B : Type 0} (o : Option A) (f : A → Option B) → None ≡ o → None ≡ (o >>= f)
stops o f h = ap (λ p. p >>= f) h

-- a step whose number is there goes on from it
pub goes : {A B : Type 0} (o : Option A) (f : A → Option B) (x : A) → Some x ≡ o → f x ≡ (o >>= f)
goes o f x h = ap (λ p. p >>= f) h

-- what an expression of each shape is
module _ {N : Type 0} (value : N → Fraction) where
  pub number_is : (x : N) → expression_of value (expr.Number x) ≡ number (value x)
  number_is x = search (rules, the_lemmas)

  pub parameter_is : (k : ℕ) → expression_of value (expr.Param k) ≡ parameter k
  parameter_is k = search (rules, the_lemmas)

  pub variable_is : (k : ℕ) → expression_of value (expr.Var k) ≡ variable k
  variable_is k = search (rules, the_lemmas)

  pub adaptive_is : (y : ℕ) → expression_of value (expr.Adaptive y) ≡ adaptive y
  adaptive_is y = search (rules, the_lemmas)

  pub adaptive_in_is : (y set : ℕ) → expression_of value (expr.AdaptiveIn y set) ≡ adaptive_in y set
  adaptive_in_is y set = search (rules, the_lemmas)

  pub sum_is : (ts : List (Term N)) → expression_of value (expr.Sum ts) ≡ sum (terms_of (map (signed_of value) ts))
  sum_is ts = search (rules, the_lemmas)

  pub product_is : (fs : List (Expr N)) → expression_of value (expr.Product fs)
      ≡ product (factors_of (map (expression_of value) fs))
  product_is fs = search (rules, the_lemmas)

module _ {N : Type 0} (value : N → Fraction) where
  pub signed_is : (t : Term N) → signed_of value t ≡ (t.minus, expression_of value t.inner)
  signed_is t = fold_out-Term N Expression Signed (expression_step value) (signed_step value) t

  -- the terms from a place on are the term there and those behind it, and so are the factors
  pub terms_at : (ts : List (Term N)) (i : ℕ) (t : Term N) → i < length ts → t ≡ get_or ts i t
      → terms_of (map (signed_of value) (drop i ts))
      ≡ term t.minus (expression_of value t.inner) (terms_of (map (signed_of value) (drop (i + 1) ts)))
  terms_at ts i t h e =
      ap (λ xs. terms_of (map (signed_of value) xs)) (drop_at ts i t h e)
      ∙ ap (λ (s : Signed). term s.0 s.1 (terms_of (map (signed_of value) (drop (i + 1) ts)))) (signed_is t)

  pub factors_at : (fs : List (Expr N)) (i : ℕ) (f : Expr N) → i < length fs → f ≡ get_or fs i f
      → factors_of (map (expression_of value) (drop i fs))
      ≡ factor (expression_of value f) (factors_of (map (expression_of value) (drop (i + 1) fs)))
  factors_at fs i f h e = ap (λ xs. factors_of (map (expression_of value) xs)) (drop_at fs i f h e)

  pub terms_inside : (m : RobustModel) (ts : List (Term N)) (i : ℕ) (t : Term N) → i < length ts → t ≡ get_or ts i t
      → TermsInside m (terms_of (map (signed_of value) (drop i ts)))
      → IsInside m (expression_of value t.inner) × TermsInside m (terms_of (map (signed_of value) (drop (i + 1) ts)))
  terms_inside m ts i t h e inside = subst (TermsInside m) (terms_at ts i t h e) inside

  pub factors_inside : (m : RobustModel) (fs : List (Expr N)) (i : ℕ) (f : Expr N) → i < length fs → f ≡ get_or fs i f
      → FactorsInside m (factors_of (map (expression_of value) (drop i fs)))
      → IsInside m (expression_of value f) × FactorsInside m (factors_of (map (expression_of value) (drop (i + 1) fs)))
  factors_inside m fs i f h e inside = subst (FactorsInside m) (factors_at fs i f h e) inside

  module _ (limit : ℕ) (m : RobustModel) (plan scenario : List Fraction) where
    -- a sum from a place on, where its first term has no value; and where it has, by what the first prefix is
    pub sum_stops : (ts : List (Term N)) (i : ℕ) (t : Term N) (so_far : Fraction) → i < length ts → t ≡ get_or ts i t
        → None ≡ value_within limit m plan scenario (expression_of value t.inner)
        → None ≡ sum_within limit m plan scenario (terms_of (map (signed_of value) (drop i ts))) so_far
    sum_stops ts i t so_far h e none =
        stops _ (λ part. kept limit (joined t.minus so_far part) >>= sum_within limit m plan scenario
        (terms_of (map (signed_of value) (drop (i + 1) ts)))) none
        ∙ ap (λ x. sum_within limit m plan scenario x so_far) (sym (terms_at ts i t h e))

    pub sum_goes : (ts : List (Term N)) (i : ℕ) (t : Term N) (so_far part : Fraction) (next : Option Fraction)
        → i < length ts → t ≡ get_or ts i t
        → Some part ≡ value_within limit m plan scenario (expression_of value t.inner)
        → next ≡ kept limit (joined t.minus so_far part)
        → (next >>= sum_within limit m plan scenario (terms_of (map (signed_of value) (drop (i + 1) ts))))
        ≡ sum_within limit m plan scenario (terms_of (map (signed_of value) (drop i ts))) so_far
    sum_goes ts i t so_far part next h e some is =
        ap (λ o. o >>= sum_within limit m plan scenario (terms_of (map (signed_of value) (drop (i + 1) ts)))) is
        ∙ goes _ (λ part. kept limit (joined t.minus so_far part) >>= sum_within limit m plan scenario
        (terms_of (map (signed_of value) (drop (i + 1) ts)))) part some
        ∙ ap (λ x. sum_within limit m plan scenario x so_far) (sym (terms_at ts i t h e))

    pub product_goes : (fs : List (Expr N)) (i : ℕ) (f : Expr N) (so_far part : Fraction) (next : Option Fraction)
        → i < length fs → f ≡ get_or fs i f
        → Some part ≡ value_within limit m plan scenario (expression_of value f)
        → next ≡ kept limit (so_far *ℚ part)
        → (next >>= product_within limit m plan scenario (factors_of (map (expression_of value) (drop (i + 1) fs))))
        ≡ product_within limit m plan scenario (factors_of (map (expression_of value) (drop i fs))) so_far
    product_goes fs i f so_far part next h e some is =
        ap (λ o. o >>= product_within limit m plan scenario (factors_of (map (expression_of value) (drop (i + 1) fs))))
        is
        ∙ goes _ (λ part. kept limit (so_far *ℚ part) >>= product_within limit m plan scenario
        (factors_of (map (expression_of value) (drop (i + 1) fs)))) part some
        ∙ ap (λ x. product_within limit m plan scenario x so_far) (sym (factors_at fs i f h e))
