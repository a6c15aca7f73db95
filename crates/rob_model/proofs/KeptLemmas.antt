-- What a computation in order answers is what it computes.
use Rattle.std.proofs.Common.{◌≡◌, ℕ, refl, Bool, true, false}
use Rattle.std.specs.Prelude.{Option, Some, None, cond}
use Rattle.rob_algebra.specs.Fraction.{Fraction}
use Rattle.rob_algebra.specs.Width.{is_wide, kept}
use Rattle.rob_model.specs.Within.{◌>>=◌}
use Rattle.std.specs.Bool.{Decides}

pub some_is : {A : Type 0} {a b : A} → Some a ≡ Some b → a ≡ b
some_is h = cc

-- an answer is one of its kinds alone
pub none_is_none : {A : Type 0} (a : A) → None ≡ Some a → ⊥
none_is_none a h = cc

-- what a test denies isn't so
pub refuted : {P : Type 0} (t : Bool) → Decides t P → t ≡ false → P → ⊥
refuted true d e p = cc
refuted false d e p = let f : false ≡ true = d.1 p in cc

kept_case : (wide : Bool) (q v : Fraction) → cond wide None (Some q) ≡ Some v → q ≡ v
kept_case true q v h = cc
kept_case false q v h = some_is h

-- what is kept is the fraction itself
pub kept_is : (limit : ℕ) (q v : Fraction) → kept limit q ≡ Some v → q ≡ v
kept_is limit q v h = kept_case (is_wide limit q) q v h

-- what came of a step came of what the step began with
pub through : {A B : Type 0} (o : Option A) (f : A → Option B) (v : B) → (o >>= f) ≡ Some v → (x : A)
    × (o ≡ Some x) × (f x ≡ Some v)
through (Some x) f v h = (x, refl, h)
through None f v h = cc

-- the same where it began with a number kept
pub through_kept : {B : Type 0} (limit : ℕ) (q : Fraction) (f : Fraction → Option B) (v : B)
    → (kept limit q >>= f) ≡ Some v → f q ≡ Some v
through_kept limit q f v h = case (is_wide limit q) h
  where
    case : (wide : Bool) → (cond wide None (Some q) >>= f) ≡ Some v → f q ≡ Some v
    case true e = cc
    case false e = e
