-- Names in order: the lists that names are found in and told from.
use Rattle.std.specs.Prelude.{◌≡◌, ◌≢◌, ℕ, List, ◌++◌, map, take, Option, Some, None, slice_get}
use Rattle.rob_meaning.specs.Names.{Name, set_condition_names, set_column_names}
use Rattle.rob_meaning.specs.Places.{Each}
use Rattle.rob_meaning.specs.RobustModel.{Parameter, RobustModel}

-- the names of the parameters
abbrev pub parameter_names : RobustModel → List Name
parameter_names m = map (λ (d : Parameter). d.name) m.parameters

-- the names of the places of the set: its conditions, and behind them its columns
abbrev pub set_place_names : RobustModel → List Name
set_place_names m = set_condition_names m ++ set_column_names m

-- the name has that number in the list and no earlier one; none where the list lacks it
abbrev pub Finds : List Name → Name → Option ℕ → Type 0
Finds names name None = Each (λ other. other ≢ name) names
Finds names name (Some k) = (slice_get names k ≡ Some name) × Each (λ other. other ≢ name) (take k names)

-- each number that has the name in the list is the one that is found
abbrev pub FindsOwn : List Name → Name → Option ℕ → Type 0
FindsOwn names name found = (k : ℕ) → slice_get names k ≡ Some name → found ≡ Some k

-- the text has grown by the name of that number
pub record AppendsName (names : List Name) (k : ℕ) (old new : List ℕ) : Type 0 where
  pub name : Name
  pub number : slice_get names k ≡ Some name
  pub appended : new ≡ old ++ name
