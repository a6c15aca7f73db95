-- What growing asks of a box, and what it answers: its node and how far the search is behind it, or why there is none.
use Rattle.std.specs.Prelude.{◌≡◌, ℕ, List, [], ◌∷◌, ◌++◌, map, Some, Result, IfErr, ◌⊎◌, Bool, true, false, ◌≢◌, ◌+◌, ◌≤◌, ℤ, pos, nat_abs}
use Rattle.rob_algebra.specs.Fraction.{Fraction}
use Rattle.rob_cert.specs.Shape.{HasShape}
use Rattle.rob_cert.specs.declared.ending.Stop.{Stop}
use Rattle.rob_cert.specs.declared.ending.Stop.TheVariants as route
use Rattle.rob_dualize.specs.Models.{IsWideIn}
use Rattle.rob_dualize.specs.Solving.{TellsEmpty}
use Rattle.rob_meaning.specs.Certificates.{Certificate}
use Rattle.rob_meaning.specs.Places.{Each}
use Rattle.rob_meaning.specs.Proves.{Proves}
use Rattle.rob_meaning.specs.RobustModel.{RobustModel}
use Rattle.rob_number.specs.Counts as counts
use Rattle.rob_number.specs.Counts.{NeverFell}
use Rattle.rob_reach.specs.Boxes as boxes
use Rattle.rob_reach.specs.Growing.{Search, Decides, Grows, IsAllowed, IsGrown, Visits, branches, start}
use Rattle.rob_reach.specs.Ranges.{KeepsBothBounds, product_of_ranges, whole_rule}
use Rattle.rob_reach.specs.Trees.{Node, Tree, leaf, split, left_open, leaves}
use Rattle.rob_tree.specs.Reading.{TreeFits}
use Rattle.rob_tree.specs.Shape.{IsShaped, BranchesFit, HasTreeShape}
use Rattle.rob_tree.specs.View.{branch_of, node_of}
use Rattle.rob_tree.specs.declared.tree.Branch.{Branch}
use Rattle.rob_tree.specs.declared.error.TreeStop.{TreeStop}
use Rattle.rob_tree.specs.declared.error.TreeStop.TheVariants.{Rule, EmptySet, Wide, Memory}
use Rattle.rob_branch.specs.View.{search_of}
use Rattle.rob_branch.specs.declared.grow.Grown.{Grown}
use Rattle.rob_elab.specs.Written.{IsWritten}

-- nothing is wide when the box of a node is written in whole numbers, nor when one behind its branches is; open leaves
-- aside
abbrev pub AreBoxesWritten : ℕ → RobustModel → Node → Type 0
AreBoxesWritten limit m (leaf c) = IsWritten limit m
AreBoxesWritten limit m (split j k below above) =
    IsWritten limit m
    × AreBoxesWritten limit (boxes.box_below m j k) below × AreBoxesWritten limit (boxes.box_above m j k) above
AreBoxesWritten limit m left_open = Unit {0}

-- nothing is wide when a box on the path is written in whole numbers, that at its end aside
abbrev pub IsWrittenUpTo : ℕ → RobustModel → List boxes.Branch → Type 0
IsWrittenUpTo limit m [] = Unit {0}
IsWrittenUpTo limit m (b ∷ path) = IsWritten limit m × IsWrittenUpTo limit (boxes.behind m b) path

-- ---- what is asked of a box that is to grow
-- the named variables have both bounds, and the leaves so far with as many as the box can have are at most 1,000
pub record CanGrow (m : RobustModel) (names : List ℕ) (before : Search) : Type 0 where
  pub bounded : KeepsBothBounds m names
  pub few : before.count + product_of_ranges m.variables names ≤ 1000

-- the certificate proves for the box and has its shape, and nothing is wide when the box is written in whole numbers
pub record IsSolvedBy (limit : ℕ) (m : RobustModel) (c : Certificate) : Type 0 where
  pub proves : Proves m c
  pub shape : HasShape m c
  pub written : IsWritten limit m

-- a certificate of the box asks for a branch at K on the variable; K and K + 1 are within the limit, and nothing is
-- wide when the box is written in whole numbers
pub record IsBranchedAt (limit : ℕ) (m : RobustModel) (names : List ℕ) (before : Search) (column : ℕ) (k : ℤ)
    : Type 0 where
  pub decides : (c : Certificate) × Decides m names before c (branches column k)
  pub within : (nat_abs k ≤ limit) × (k ≢ pos limit)
  pub written : IsWritten limit m

-- a certificate of the box allows the branch, whose number is within the limit; and the leaves so far with as many as
-- the box behind it can have are at most 1,000
pub record MayGrow (limit : ℕ) (m : RobustModel) (names : List ℕ) (count : ℕ) (b : boxes.Branch) : Type 0 where
  pub allowed : IsAllowed m names b
  pub within : nat_abs b.bound ≤ limit
  pub few : count + product_of_ranges (boxes.behind m b).variables names ≤ 1000

-- ---- what has grown
-- the box has grown into the node, and the search is as far as told; its certificates have the shape of their boxes,
-- and no number is wide when its boxes are written in whole numbers
pub record IsGrownTo {N : Type 0} (value : N → Fraction) (limit : ℕ) (m : RobustModel) (names : List ℕ)
    (before : Search) (grown : Grown N) : Type 0 where
  pub grows : Grows m names before (node_of value grown.node) (search_of value grown.after)
  pub shaped : Each IsShaped (leaves m (node_of value grown.node))
  pub numbers : BranchesFit limit (node_of value grown.node)
  pub written : AreBoxesWritten limit m (node_of value grown.node)

-- the tree is what the model grows into, and has the shape that its text asks for, and numbers that fit; nothing is
-- wide when its boxes are written in whole numbers, open leaves aside
pub record IsGrownTree (limit : ℕ) (m : RobustModel) (names : List ℕ) (t : Tree) : Type 0 where
  pub grown : IsGrown m names t
  pub shape : HasTreeShape limit m names t
  pub fits : TreeFits limit m t
  pub boxes : AreBoxesWritten limit m t.root

-- ---- why none has
-- why a box behind a path has not grown, where the search stands at `before`: a number is wide in a box behind it that
-- the search comes to, and none is when the boxes on the way there are written; memory is free
abbrev pub HasCauseBehind : ℕ → RobustModel → List ℕ → Search → List boxes.Branch → TreeStop → Type 0
HasCauseBehind limit m names before front (Rule rule) = ⊥
HasCauseBehind limit m names before front (EmptySet weights) = ⊥
HasCauseBehind limit m names before front (Wide path spot) =
    (tail : List boxes.Branch) × (map branch_of path ≡ front ++ tail) × Visits m names before tail
    × IsWrittenUpTo limit m tail × IsWideIn limit (boxes.box m tail) spot
HasCauseBehind limit m names before front Memory = Unit {0}

-- the stop of the box behind a path, told of the search; memory for the path may be refused
abbrev pub TellsStop : List Branch → Stop → TreeStop → Type 0
TellsStop path (route.EmptySet weights) told = told ≡ EmptySet weights
TellsStop path (route.Wide spot trace) told = (told ≡ Wide path spot) ⊎ (told ≡ Memory)
TellsStop path route.Memory told = told ≡ Memory

-- why no tree grows: the first rule that the names break; nothing is wide when the model is written in whole numbers,
-- and no scenario is admitted, as the weights show; a number is wide in the box behind the path, which the search comes
-- to, and none is when the boxes on the way there are written; memory is free
abbrev pub HasCause : ℕ → RobustModel → List ℕ → TreeStop → Type 0
HasCause limit m names (Rule rule) = whole_rule m names ≡ Some rule
HasCause limit m names (EmptySet weights) = IsWritten limit m × TellsEmpty limit m weights
HasCause limit m names (Wide path spot) =
    Visits m names start (map branch_of path) × IsWrittenUpTo limit m (map branch_of path)
    × IsWideIn limit (boxes.box m (map branch_of path)) spot
HasCause limit m names Memory = Unit {0}

-- the stop is for width
abbrev pub is_wide : TreeStop → Bool
is_wide (Rule rule) = false
is_wide (EmptySet weights) = false
is_wide (Wide path spot) = true
is_wide Memory = false

-- a stop for width has raised the count of wide numbers
abbrev pub RoseIfWide : ℕ → ℕ → TreeStop → Type 0
RoseIfWide before now stop = counts.RoseIfWide is_wide before now stop

-- neither count fell, and that of wide numbers rose where the search stopped for width
pub record CountsGrowth {S T : Type 0} (ops_of wides_of : S → ℕ) (before now : S) (result : Result T TreeStop)
    : Type 0 where
  pub never_fell : NeverFell ops_of wides_of before now
  pub refused : IfErr result (RoseIfWide (wides_of before) (wides_of now))
