-- When a certificate has its shape: its lists are as long as the model says, what it names exists and stands in order,
-- and the parts that its status does not use say nothing.
use Rattle.std.specs.Prelude.{◌≡◌, ◌≢◌, ◌^◌, ◌<◌, ◌≤◌, List, [], length}
use Rattle.rob_meaning.specs.Certificates.{Status, optimal, infeasible, unbounded, Cover, Item, Certificate, IsBefore}
use Rattle.rob_meaning.specs.Forms.{forms}
use Rattle.rob_meaning.specs.Places.{0ℚ, 1ℚ, Each, InOrder}
use Rattle.rob_meaning.specs.RobustModel.{RobustModel, column_count}
use Rattle.rob_meaning.specs.SetRows.{set_rows}

-- the cover names a form and a set row of the model, and its amount isn't 0
pub record IsCoverOf (m : RobustModel) (c : Cover) : Type 0 where
  pub form : c.form < length (forms m)
  pub set_row : c.set_row < length (set_rows m)
  pub amount : c.amount ≢ 0ℚ

-- the covers are the model's, in order
pub record AreCoversOf (m : RobustModel) (covers : List Cover) : Type 0 where
  pub each : Each (IsCoverOf m) covers
  pub ordered : InOrder IsBefore covers

-- the item names a form of the model, and its vector has a number for each parameter
pub record IsItemOf (m : RobustModel) (item : Item) : Type 0 where
  pub form : item.form < length (forms m)
  pub numbers : length item.vector ≡ length m.parameters

-- the items are the model's, their forms never fall, and they are fewer than 2^32
pub record AreItemsOf (m : RobustModel) (items : List Item) : Type 0 where
  pub each : Each (IsItemOf m) items
  pub ordered : InOrder (λ (a b : Item). a.form ≤ b.form) items
  pub few : length items < 2 ^ 32

-- optimal: there is a plan, and no direction
pub record HasOptimalParts (m : RobustModel) (c : Certificate) : Type 0 where
  pub plan : length c.plan ≡ column_count m
  pub step : c.step ≡ []
  pub step_bound : c.step_bound ≡ 0ℚ
  pub holds : c.holds ≡ []

-- infeasible: there are items alone
pub record HasInfeasibleParts (c : Certificate) : Type 0 where
  pub value : c.value ≡ 0ℚ
  pub scale : c.scale ≡ 1ℚ
  pub plan : c.plan ≡ []
  pub step : c.step ≡ []
  pub step_bound : c.step_bound ≡ 0ℚ
  pub covers : c.covers ≡ []
  pub holds : c.holds ≡ []

-- unbounded: there are a plan and a direction, and no items
pub record HasUnboundedParts (m : RobustModel) (c : Certificate) : Type 0 where
  pub plan : length c.plan ≡ column_count m
  pub step : length c.step ≡ column_count m
  pub items : c.items ≡ []

-- the parts that a status uses are there, and the others say nothing
abbrev pub HasParts : RobustModel → Status → Certificate → Type 0
HasParts m optimal c = HasOptimalParts m c
HasParts m infeasible c = HasInfeasibleParts c
HasParts m unbounded c = HasUnboundedParts m c

-- the certificate has its shape for the model
pub record HasShape (m : RobustModel) (c : Certificate) : Type 0 where
  pub inside : length c.inside ≡ length m.parameters
  pub parts : HasParts m c.status c
  pub covers : AreCoversOf m c.covers
  pub holds : AreCoversOf m c.holds
  pub items : AreItemsOf m c.items
