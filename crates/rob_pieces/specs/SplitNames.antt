-- Names with which a split model may be made.
use Rattle.std.specs.Prelude.{◌≤◌, length}
use Rattle.rob_meaning.specs.Named.{AreDistinct, declared_names}
use Rattle.rob_meaning.specs.Names.{Name}
use Rattle.rob_meaning.specs.Places.{Each}
use Rattle.rob_meaning.specs.RobustModel.{RobustModel}

-- no two declared names are equal, and none is over 32 bytes
pub record HasGoodNames (m : RobustModel) : Type 0 where
  pub distinct : AreDistinct (declared_names m)
  pub short : Each (λ (name : Name). length name ≤ 32) (declared_names m)
