-- When the numbers in a spot, or in the place of a certificate's condition, are those of a model.
use Rattle.std.specs.Prelude.{ℕ, suc, ◌<◌, ◌≤◌, length}
use Rattle.rob_meaning.specs.Forms.{forms}
use Rattle.rob_meaning.specs.RobustModel.{RobustModel, column_count}
use Rattle.rob_meaning.specs.SetConditions.{set_conditions}
use Rattle.rob_meaning.specs.SetRows.{set_column_count, set_rows}
use Rattle.rob_model.specs.declared.place.Place.{Place}
use Rattle.rob_model.specs.declared.place.Place.TheVariants.{Scale, Inside, Weight, Base, Item, Sum, CoverSign, Cover, MoveBound, HoldSign, Hold}
use Rattle.rob_model.specs.declared.place.Program.{Program}
use Rattle.rob_model.specs.declared.place.Program.TheVariants.{Set, Reform, Master, SearchPlan, SearchMove}
use Rattle.rob_model.specs.declared.place.Spot.{Spot}
use Rattle.rob_model.specs.declared.place.Spot.TheVariants as Spots
use Rattle.rob_model.specs.declared.place.Where.{Where}
use Rattle.rob_model.specs.declared.place.Where.TheVariants as Of

module _ (m : RobustModel) where
  -- there is such a form, set row, or statement on the set
  abbrev pub IsWhereOf : Where → Type 0
  IsWhereOf (Of.Form i) = i < length (forms m)
  IsWhereOf (Of.SetLine i) = i < length m.set_lines
  IsWhereOf (Of.SetRow r) = r < length (set_rows m)
  IsWhereOf Of.Plan = Unit {0}
  IsWhereOf Of.Move = Unit {0}
  IsWhereOf (Of.Cut i) = i < length (forms m)
  IsWhereOf (Of.Cost i) = i < length (forms m)

  -- where the program is that of a form, there is such a form
  abbrev pub IsProgramOf : Program → Type 0
  IsProgramOf Set = Unit {0}
  IsProgramOf Reform = Unit {0}
  IsProgramOf Master = Unit {0}
  IsProgramOf (SearchPlan i) = i < length (forms m)
  IsProgramOf (SearchMove i) = i < length (forms m)

  -- there is such a form and set row
  pub record IsSignOf (i r : ℕ) : Type 0 where
    pub form : i < length (forms m)
    pub set_row : r < length (set_rows m)

  -- there is such a form, and 0 or a set column counted from 1
  pub record IsSumOf (i k : ℕ) : Type 0 where
    pub form : i < length (forms m)
    pub column : k ≤ set_column_count m

  -- there are such forms, set rows, set conditions and columns; in sums 0 is the constant, and columns count from 1
  abbrev pub IsPlaceOf : Place → Type 0
  IsPlaceOf Scale = Unit {0}
  IsPlaceOf (Inside c) = c < length (set_conditions m)
  IsPlaceOf (Weight i) = Unit {0}
  IsPlaceOf (Base i) = Unit {0}
  IsPlaceOf (Item i c) = c < length (set_conditions m)
  IsPlaceOf (Sum j) = j ≤ suc (column_count m)
  IsPlaceOf (CoverSign i r) = IsSignOf i r
  IsPlaceOf (Cover i k) = IsSumOf i k
  IsPlaceOf MoveBound = Unit {0}
  IsPlaceOf (HoldSign i r) = IsSignOf i r
  IsPlaceOf (Hold i k) = IsSumOf i k

  -- what the spot names is the model's
  abbrev pub IsSpotOf : Spot → Type 0
  IsSpotOf (Spots.Coefficient w) = IsWhereOf w
  IsSpotOf (Spots.Clearing w) = IsWhereOf w
  IsSpotOf (Spots.Dictionary program basis position) = IsProgramOf program
  IsSpotOf (Spots.Sum w j) = IsWhereOf w
  IsSpotOf (Spots.Check place) = IsPlaceOf place
  IsSpotOf (Spots.Replay record_number) = Unit {0}
