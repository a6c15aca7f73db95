-- The slack, from its sum and its quotient.
use Rattle.std.proofs.Common.{◌≡◌, ◌≤◌, ℕ, arith, inr, ◌⊎◌, Result, Ok, Err}
use Rattle.std.specs.Prelude.{IfOk, OnOk, OnErr}
use Rattle.rob_algebra.specs.Fraction.{Fraction}
use Rattle.rob_algebra.specs.Width.{Fits, IsWide, kept}
use Rattle.rob_number.specs.Answer.{answer}
use Rattle.rob_number.specs.Counts.{raised}
use Rattle.rob_number.proofs.AnswerLaws.{ok_tells, err_tells}

module _ (limit : ℕ) {N E : Type 0} (value : N → Fraction) where
  -- the quotient, or that it is wide
  pub quotient_told : (x : Fraction) (r : Result N E) → answer value r ≡ kept limit x → IfOk r (λ y. value y ≡ x)
  quotient_told x (Ok y) e = (ok_tells limit x (value y) e).0
  quotient_told x (Err w) e = tt

  pub quotient_fits : (P : Type 0) → P → (x : Fraction) (r : Result N E) → answer value r ≡ kept limit x
      → OnOk r (P × Fits limit x)
  quotient_fits P p x (Ok y) e = (p, (ok_tells limit x (value y) e).1)
  quotient_fits P p x (Err w) e = tt

  pub quotient_wide : (P : Type 0) (x : Fraction) (r : Result N E) → answer value r ≡ kept limit x
      → OnErr r (P ⊎ IsWide limit x)
  quotient_wide P x (Ok y) e = tt
  quotient_wide P x (Err w) e = inr (err_tells limit x e)

pub rises : (before middle now : ℕ) → middle ≡ raised before → now ≡ raised middle → before ≤ now
rises before middle now e f = omega arith
