use Rattle.std.proofs.Common.{◌≡◌, ◌∙◌, ap, to_z, of_z, w32}
use Rattle.rob_algebra.specs.Fraction.{sign_of, sign_ℚ}
use Rattle.rob_algebra.proofs.Signs.{sign_ℚ-ranks}
use Rattle.rob_number.specs.Frac.{value_of}
use Rattle.rob_number.proofs.CastLemmas.{sign_seen}
use Rattle.rob_number.proofs.fraction.FracExact.sign.Goals as goal

told : (g : _) (c : goal.After-sign_number g) → to_z w32 (of_z w32 c.sign_number.result) ≡ sign_ℚ (value_of c.args.self)
told g c = sign_seen c.sign_number.result c.numerator.result c.sign_number.ensures.value c.numerator.ensures.size
    ∙ ap sign_of c.numerator.ensures.value

pub returns-clause-sign : goal.returns-clause-sign
returns-clause-sign g c = told g c

pub returns-clause-below : goal.returns-clause-below
returns-clause-below g c =
    (sign_ℚ-ranks (value_of c.args.self) (to_z w32 (of_z w32 c.sign_number.result)) (told g c)).below

pub returns-clause-zero : goal.returns-clause-zero
returns-clause-zero g c =
    (sign_ℚ-ranks (value_of c.args.self) (to_z w32 (of_z w32 c.sign_number.result)) (told g c)).zero

pub returns-clause-above : goal.returns-clause-above
returns-clause-above g c =
    (sign_ℚ-ranks (value_of c.args.self) (to_z w32 (of_z w32 c.sign_number.result)) (told g c)).above
