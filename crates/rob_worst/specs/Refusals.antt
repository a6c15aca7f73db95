-- How the places of a search are called.
use Rattle.std.specs.Prelude.{ℕ, Bool, true, false}
use Rattle.rob_model.specs.declared.place.Program.{Program}
use Rattle.rob_model.specs.declared.place.Program.TheVariants.{SearchPlan, SearchMove}
use Rattle.rob_model.specs.declared.place.Where.{Where}
use Rattle.rob_model.specs.declared.place.Where.TheVariants.{Plan, Move}

-- the program of the search for a form, at the plan or by step at the direction
abbrev pub program_for : Bool → ℕ → Program
program_for false f = SearchPlan f
program_for true f = SearchMove f

-- what is cleared
abbrev pub place_for : Bool → Where
place_for false = Plan
place_for true = Move
