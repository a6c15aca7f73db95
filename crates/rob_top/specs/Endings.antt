-- How a call may end, by its command and what was read for it: the answers that are possible.
use Rattle.std.specs.Prelude.{◌≡◌, ◌⊎◌, ℕ, List, [], map}
use Rattle.rob_algebra.specs.Fraction.{Fraction, of_int}
use Rattle.rob_branch.specs.Verdicts.{IsAccepted, IsRejectedAt, IsTooWideAt}
use Rattle.rob_dualize.specs.Models.{IsWideIn}
use Rattle.rob_check.specs.Conditions.{verdict_of}
use Rattle.rob_check.specs.declared.verdict.Verdict.TheVariants as verdict
use Rattle.rob_dualize.specs.Solving.{HasScenario, IsShownEmpty, IsWideOnPath}
use Rattle.rob_meaning.specs.Certificates.{Certificate, optimal, infeasible, unbounded}
use Rattle.rob_meaning.specs.Places.{Each}
use Rattle.rob_meaning.specs.Proves.{HasStatus}
use Rattle.rob_meaning.specs.RobustModel.{RobustModel}
use Rattle.rob_meaning.specs.UncertaintySet.{IsEmptySet}
use Rattle.rob_model.specs.declared.place.Program.TheVariants as program
use Rattle.rob_model.specs.declared.place.Spot.{Spot}
use Rattle.rob_model.specs.declared.place.Spot.TheVariants.{Check, Dictionary}
use Rattle.rob_reach.specs.Boxes.{box}
use Rattle.rob_reach.specs.Boxes as boxes
use Rattle.rob_reach.specs.Growing.{Visits, start as first_search}
use Rattle.rob_reach.specs.Trees.{Tree}
use Rattle.rob_reach.specs.Sweeps.{with_budget}
use Rattle.rob_reach.specs.WholeStatus.{HasWholeStatus}
use Rattle.rob_sets.specs.FirstWide.{IsFirstWide}
use Rattle.rob_sweep.specs.Answering.{AreWritten}
use Rattle.rob_sweep.specs.Stops.{IsWideAtLimit}
use Rattle.rob_tree.specs.View.{branch_of}
use Rattle.rob_tree.specs.declared.tree.Branch.{Branch}
use Rattle.rob_tree.specs.declared.verdict.LeafFault.{LeafFault}
use Rattle.rob_top.specs.Routes.{IsWideOnWay}
use Rattle.rob_top.specs.Searched.{IsWideSought}
use Rattle.rob_commands.specs.declared.ended.Ended.{Ended}
use Rattle.rob_commands.specs.declared.ended.Ended.TheVariants.{Optimal, Infeasible, Unbounded, Printed, Accepted, EmptySet, TooWide, WideNode, WideBudget, TreeRejected, ReadFault, WriteFault, Memory}
use Rattle.rob_words.specs.declared.route.Route.{Route}
use Rattle.rob_elab.specs.Written.{judged, IsWritten}

-- ---- how a call may end

-- a put was refused, or memory was
abbrev pub IsUnput : Ended → Type 0
IsUnput result = (result ≡ WriteFault) ⊎ (result ≡ Memory)

-- the outside failed, or memory was refused
abbrev pub IsOutside : Ended → Type 0
IsOutside result = (result ≡ ReadFault) ⊎ IsUnput result

-- the call ended so, or the outside failed, or memory was refused
abbrev pub EndsAs : Ended → Ended → Type 0
EndsAs ended result = (result ≡ ended) ⊎ IsOutside result

-- an answer of `solve` and `prove` by a route: a status that the model has; or an empty set, where no joint scenario is
-- admitted; or a number on the route's way that is wide; or the outside failed, or memory was refused. No other is
abbrev pub IsSolveAnswer : Route → ℕ → RobustModel → Ended → Type 0
IsSolveAnswer way limit m Optimal = (v : Fraction) × HasStatus m optimal v
IsSolveAnswer way limit m Infeasible = (v : Fraction) × HasStatus m infeasible v
IsSolveAnswer way limit m Unbounded = (v : Fraction) × HasStatus m unbounded v
IsSolveAnswer way limit m (EmptySet weights) = IsEmptySet m
IsSolveAnswer way limit m (TooWide spot) = IsWideOnWay way limit m spot
IsSolveAnswer way limit m ended = IsOutside ended

-- one of them for an empty set: its weights show that it is empty, or a row of a basis on the path of the set's program
-- is wide, and the program is refused for it. So no status is answered, and no row of the counterpart is named
abbrev pub IsEmptyAnswer : ℕ → RobustModel → Ended → Type 0
IsEmptyAnswer limit m (EmptySet weights) = IsShownEmpty m (map of_int weights)
IsEmptyAnswer limit m (TooWide (Dictionary program.Set basis i)) = IsWideOnPath limit m (Dictionary program.Set basis i)
IsEmptyAnswer limit m ended = IsOutside ended

-- one of them for an empty set of a narrow model: its weights show that it is empty
abbrev pub IsShownAnswer : RobustModel → Ended → Type 0
IsShownAnswer m (EmptySet weights) = IsShownEmpty m (map of_int weights)
IsShownAnswer m ended = IsOutside ended

-- an answer of `check` for a certificate that proves: accepted, or a number of the check is wide, which is named
abbrev pub IsProvedAnswer : ℕ → RobustModel → Certificate → Ended → Type 0
IsProvedAnswer limit m c Accepted = Unit {0}
IsProvedAnswer limit m c (TooWide (Check place)) = verdict_of limit m c ≡ verdict.TooWide place
IsProvedAnswer limit m c ended = IsOutside ended

-- an answer of `whole` and `tree`: a status that the model has over plans whose named variables are whole; or an empty
-- set; or a number that is wide in the box behind a path of branches, to which a search for a tree comes. No other is
abbrev pub IsWholeAnswer : ℕ → RobustModel → List ℕ → Ended → Type 0
IsWholeAnswer limit m names Optimal = (v : Fraction) × HasWholeStatus m names optimal v
IsWholeAnswer limit m names Infeasible = (v : Fraction) × HasWholeStatus m names infeasible v
IsWholeAnswer limit m names Unbounded = (v : Fraction) × HasWholeStatus m names unbounded v
IsWholeAnswer limit m names (EmptySet weights) = IsEmptySet m
IsWholeAnswer limit m names (WideNode path spot) =
    Visits m names first_search (map branch_of path) × IsWideIn limit (box m (map branch_of path)) spot
IsWholeAnswer limit m names ended = IsOutside ended

-- an answer of `worst` for a form at a plan: the worst case is printed, where some joint scenario is admitted; or an
-- empty set, where none is; or a number on the way is wide. No other is
abbrev pub IsWorstAnswer : ℕ → RobustModel → ℕ → List Fraction → Ended → Type 0
IsWorstAnswer limit m form z Printed = HasScenario m
IsWorstAnswer limit m form z (EmptySet weights) = IsEmptySet m
IsWorstAnswer limit m form z (TooWide spot) = IsWideSought limit m form z spot
IsWorstAnswer limit m form z ended = IsOutside ended

-- one of them where a number of the slack is wide: a number on the way is named
abbrev pub NamesWideSought : ℕ → RobustModel → ℕ → List Fraction → Ended → Type 0
NamesWideSought limit m form z result =
    ((spot : Spot) × IsWideSought limit m form z spot × (result ≡ TooWide spot)) ⊎ IsOutside result

-- the number is wide before it is known whether some joint scenario is admitted: it is the first of the set rows and
-- forms; or none of them is wide, and it is one of a row of a basis on the path of the set's program, which is refused
-- for the row
pub data IsWideBefore (limit : ℕ) (m : RobustModel) (spot : Spot) : Type 0 where
  writing : IsFirstWide limit m (judged m) spot → IsWideBefore limit m spot
  admitting : (basis : List ℕ) (i : ℕ) → spot ≡ Dictionary program.Set basis i → IsWritten limit m
      → IsWideOnPath limit m spot → IsWideBefore limit m spot

-- one of them for an empty set: its weights show that it is empty, or such a number is wide. So no status is answered,
-- and no other box is named
abbrev pub IsEmptyWholeAnswer : ℕ → RobustModel → Ended → Type 0
IsEmptyWholeAnswer limit m (EmptySet weights) = IsShownEmpty m (map of_int weights)
IsEmptyWholeAnswer limit m (WideNode path spot) = (map branch_of path ≡ []) × IsWideBefore limit m spot
IsEmptyWholeAnswer limit m ended = IsOutside ended

-- an answer of `sweep`: the lines of the limits, where no number is wide when the models with them are written in whole
-- numbers; or a limit of the list, whose model has a number that is wide. No other is
abbrev pub IsSweepAnswer : ℕ → RobustModel → ℕ → List Fraction → Ended → Type 0
IsSweepAnswer limit m n limits Printed = AreWritten limit m n limits
IsSweepAnswer limit m n limits (WideBudget number spot) = IsWideAtLimit limit m n limits number spot
IsSweepAnswer limit m n limits ended = IsOutside ended

-- no number is wide in the model with one of these limits
abbrev pub IsNarrowAt : ℕ → RobustModel → ℕ → List Fraction → Type 0
IsNarrowAt limit m n limits = Each (λ g. (spot : Spot) → IsWideIn limit (with_budget m n g) spot → ⊥) limits

-- no number is wide in a box to which that search comes
abbrev pub IsNarrowBelow : ℕ → RobustModel → List ℕ → Type 0
IsNarrowBelow limit m names =
    (path : List boxes.Branch) (spot : Spot) → Visits m names first_search path → IsWideIn limit (box m path) spot → ⊥

-- `checktree`: the answer names a condition of the leaf of that number, the first that fails, and no number before it
-- is wide
abbrev pub NamesFault : ℕ → RobustModel → List ℕ → Tree → Ended → Type 0
NamesFault limit m names t result =
    (number : ℕ) × (fault : LeafFault) × IsRejectedAt limit m names t number fault
    × (result ≡ TreeRejected number fault)

-- or a number that is wide for a leaf, with the leaf's path, the first one, and no condition of the leaves before it
-- fails
abbrev pub NamesWidth : ℕ → RobustModel → List ℕ → Tree → Ended → Type 0
NamesWidth limit m names t result =
    (path : List Branch) × (spot : Spot) × IsTooWideAt limit m names t (map branch_of path) spot
    × (result ≡ WideNode path spot)

-- an answer for a tree, the verdict on it: accepted, where it proves and no number of its check is wide; or one of
-- those; or the outside failed, or memory was refused. No other is
abbrev pub IsTreeAnswer : ℕ → RobustModel → List ℕ → Tree → Ended → Type 0
IsTreeAnswer limit m names t result =
    IsAccepted limit m names t × (result ≡ Accepted)
    ⊎ (NamesFault limit m names t result ⊎ (NamesWidth limit m names t result ⊎ IsOutside result))
