-- What an answer tells, where it stands for what is kept of a fraction.
use Rattle.std.specs.Prelude.{◌≡◌, ℕ, ◌≤◌, ℤ, nat_abs, Some, None, Result, Ok, Err, IsOk, refl, OnOk}
use Rattle.std.proofs.Common.{sym, ap, ◌∙◌}
use Rattle.rob_algebra.specs.Fraction.{Fraction, of_pair, of_int}
use Rattle.rob_algebra.specs.Width.{Fits, IsWide, kept}
use Rattle.rob_algebra.proofs.WidthLaws.{kept-fits, kept-of_int, fits_of_kept, wide_of_kept}
use Rattle.rob_algebra.proofs.Parts.{of_int-one}
use Rattle.rob_number.specs.Answer.{answer}

-- what holds whether a call answers Ok or not
pub on_ok_any : {T E P : Type 0} (r : Result T E) → P → OnOk r P
on_ok_any (Ok x) p = p
on_ok_any (Err e) p = tt

module _ (limit : ℕ) (x : Fraction) where
  -- a number that was answered is the fraction, which fits: of `answer value (Ok y) ≡ kept limit x`
  pub ok_tells : (y : Fraction) → Some y ≡ kept limit x → (y ≡ x) × Fits limit x
  ok_tells y e = fits_of_kept limit x y (sym e)

  -- where the call refused, the fraction is wide: of `answer value (Err e) ≡ kept limit x`
  pub err_tells : None ≡ kept limit x → IsWide limit x
  err_tells e = wide_of_kept limit x (sym e)

  -- where the fraction fits, the call answers
  pub ok_where_fits : {N E : Type 0} (value : N → Fraction) (r : Result N E)
      → answer value r ≡ kept limit x → Fits limit x → IsOk r
  ok_where_fits value (Ok y) e f = refl
  ok_where_fits value (Err _) e f = let p : kept limit x ≡ Some x = kept-fits limit x f in absurd cc

-- ---- a small whole number is answered
module _ (limit : ℕ) (z : ℤ) (one : 1 ≤ limit) (small : nat_abs z ≤ limit) where
  whole_kept : kept limit (of_pair z 1) ≡ Some (of_int z)
  whole_kept = ap (kept limit) (of_int-one z 1 refl) ∙ kept-of_int limit z one small

  -- `from_parts(z, 1)` never refuses
  pub whole_not_refused : None ≡ kept limit (of_pair z 1) → ⊥
  whole_not_refused e = let p : kept limit (of_pair z 1) ≡ Some (of_int z) = whole_kept in absurd cc

  -- and answers z
  pub whole_answered : (y : Fraction) → Some y ≡ kept limit (of_pair z 1) → y ≡ of_int z
  whole_answered y e = let p : kept limit (of_pair z 1) ≡ Some (of_int z) = whole_kept in cc
