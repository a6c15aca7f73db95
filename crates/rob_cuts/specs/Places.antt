-- Places of the route's numbers, as they are told.
use Rattle.std.specs.Prelude.{ℕ, true, false, List, ⊤}
use Rattle.rob_algebra.specs.Fraction.{Fraction}
use Rattle.rob_meaning.specs.RobustModel.{RobustModel}
use Rattle.rob_model.specs.declared.place.Spot.{Spot}
use Rattle.rob_model.specs.declared.place.Spot.TheVariants.{Dictionary, Clearing, Sum}
use Rattle.rob_model.specs.declared.place.Program.TheVariants as program
use Rattle.rob_model.specs.declared.place.Where.TheVariants as where_
use Rattle.rob_counterpart.specs.Counterpart.{set_program}
use Rattle.rob_runs.specs.Cuts.{Cut, master_over}
use Rattle.rob_runs.specs.Searches.{search_at}
use Rattle.rob_runs.specs.Spots.{RunSpot, set_row, master_row, search_row, clearing, cost, cut_clearing, cut_sum, LooksAt, ComesTo}
use Rattle.rob_dualize.specs.Refusals.{IsRefusedRow}
use Rattle.rob_worst.specs.Finding.{IsRefusedSearch}

-- a place of a run as it is told
abbrev pub spot_told : RunSpot → Spot
spot_told (set_row basis i) = Dictionary program.Set basis i
spot_told (master_row basis i) = Dictionary program.Master basis i
spot_told (search_row true f basis i) = Dictionary (program.SearchMove f) basis i
spot_told (search_row false f basis i) = Dictionary (program.SearchPlan f) basis i
spot_told (clearing true) = Clearing where_.Move
spot_told (clearing false) = Clearing where_.Plan
spot_told (cost f k) = Sum (where_.Cost f) k
spot_told (cut_clearing f) = Clearing (where_.Cut f)
spot_told (cut_sum f j) = Sum (where_.Cut f) j

-- where the number at the place is one of a row, of the set's program, of the master over these cuts, or of a search in
-- the round that comes next, that program is refused for the row
abbrev pub IsRefusedAfter : ℕ → RobustModel → List Cut → RunSpot → Type 0
IsRefusedAfter limit m cuts (set_row basis p) = IsRefusedRow limit (set_program m) basis p
IsRefusedAfter limit m cuts (master_row basis p) = IsRefusedRow limit (master_over m cuts) basis p
IsRefusedAfter limit m cuts (search_row by_step f basis p) =
    (z : List Fraction) × LooksAt m cuts by_step z × ComesTo m z f × IsRefusedSearch limit (search_at m f z) basis p
IsRefusedAfter limit m cuts other = ⊤
