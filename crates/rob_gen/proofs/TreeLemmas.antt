-- Sums as they are seen, and sums of the first places.
use Rattle.std.proofs.Common.{◌≡◌, ℕ, zero, suc, ◌+◌, ◌≤◌, List, [], ◌++◌, map, refl, ap, sym, ◌∙◌, arith}
use Rattle.rob_algebra.specs.Fraction.{Fraction}
use Rattle.rob_meaning.specs.Expressions.{Expression, adaptive, sum}
use Rattle.rob_meaning.specs.Places.{tabulate}
use Rattle.rob_model.specs.View.{Signed, expression_of, signed_of, terms_of}
use Rattle.rob_model.specs.declared.expr.Expr.TheVariants as expr
use Rattle.rob_model.specs.declared.expr.Term.{Term}
use Rattle.rob_model.proofs.PartLemmas.{signed_is, sum_is}
use Rattle.rob_gen.specs.Generated.{added, order, total}

module _ {N : Type 0} (value : N → Fraction) where
  -- a sum of these terms
  pub sum_of : (ts : List (Term N)) (signed : List Signed) → map (signed_of value) ts ≡ signed
      → expression_of value (expr.Sum ts) ≡ sum (terms_of signed)
  sum_of ts signed same = sum_is value ts ∙ ap (λ (xs : List Signed). sum (terms_of xs)) same

  -- a term with its sign
  pub term_is : (t : Term N) (e : Expression) → expression_of value t.inner ≡ e → signed_of value t ≡ (t.minus, e)
  term_is t e same = signed_is value t ∙ ap (λ (x : Expression). (t.minus, x)) same

-- the order of a place behind the first
pub order_later : (k : ℕ) (later : ℕ) → k ≡ later + 1 → order k ≡ adaptive later
order_later zero later e = absurd (omega arith)
order_later (suc k) later e = ap adaptive (let same : k ≡ later = omega arith in same)

-- two and more are a sum
pub total_is : (count : ℕ) (f : ℕ → Expression) → 2 ≤ count → total count f ≡ sum
    (terms_of (tabulate count (λ k. added (f k))))
total_is zero f h = absurd (omega arith)
total_is (suc zero) f h = absurd (omega arith)
total_is (suc (suc more)) f h = refl

-- the sum of terms that are appended to none
pub total_of : {N : Type 0} (value : N → Fraction) (f : ℕ → Expression) (count : ℕ) {old : List (Term N)}
    (ts : List (Term N)) → 2 ≤ count → old ≡ []
    → map (signed_of value) ts ≡ map (signed_of value) old ++ tabulate count (λ k. added (f k))
    → expression_of value (expr.Sum ts) ≡ total count f
total_of {N} value f count ts some none made =
    sum_of value ts (tabulate count (λ k. added (f k)))
    (made ∙ ap (λ (old : List (Term N)). map (signed_of value) old ++ tabulate count (λ k. added (f k))) none)
    ∙ sym (total_is count f some)
