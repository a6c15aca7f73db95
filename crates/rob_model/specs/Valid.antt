-- What every call asks of a model.
use Rattle.rob_algebra.specs.Fraction.{Fraction}
use Rattle.rob_meaning.specs.WellFormed.{IsModel}
use Rattle.rob_model.specs.Limits.{IsWithinLimits}
use Rattle.rob_model.specs.View.{robust}
use Rattle.rob_model.specs.declared.model.Model.{Model}

-- its numbers name what exists, degrees are at most one, deviations are positive, and it is within the limits
pub record IsValid {N : Type 0} (value : N → Fraction) (m : Model N) : Type 0 where
  pub well_formed : IsModel (robust value m)
  pub limits : IsWithinLimits (robust value m)
