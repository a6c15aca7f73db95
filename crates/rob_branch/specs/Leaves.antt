-- What is said of the leaves of a node, one behind another: those that are passed, and the first that isn't.
use Rattle.std.specs.Prelude.{◌≡◌, ◌≢◌, ℕ, ◌+◌, ◌⊎◌, List, ◌∷◌, ◌++◌, length, map, Option, Some, None, IfSome, Result, IfErr, Bool, true, false, ◌≤◌, nat_abs}
use Rattle.rob_algebra.specs.Fraction.{Fraction}
use Rattle.rob_check.specs.declared.verdict.Verdict.TheVariants as check
use Rattle.rob_meaning.specs.Certificates.{Certificate, Status, infeasible}
use Rattle.rob_meaning.specs.Places.{Each}
use Rattle.rob_meaning.specs.RobustModel.{RobustModel, Sense}
use Rattle.rob_model.specs.declared.place.Spot.{Spot}
use Rattle.rob_number.specs.Counts as counts
use Rattle.rob_number.specs.Counts.{NeverFell}
use Rattle.rob_reach.specs.Boxes.{Branch, behind}
use Rattle.rob_reach.specs.Trees.{Node, Leaf, leaves, leaf_count, BranchesOn, IsIn}
use Rattle.rob_reach.specs.Verdicts.{KeepsValue, MayBe, Shows, leaf_at}
use Rattle.rob_reach.specs.WholeStatus.{IsWholeOn}
use Rattle.rob_sets.specs.declared.error.ElabErr.{ElabErr}
use Rattle.rob_sets.specs.declared.error.ElabErr.TheVariants as refused
use Rattle.rob_tree.specs.Shape.{BranchesFit, IsShaped}
use Rattle.rob_tree.specs.View.{branch_of}
use Rattle.rob_tree.specs.declared.tree.Branch as declared
use Rattle.rob_tree.specs.declared.verdict.LeafFault.{LeafFault}
use Rattle.rob_tree.specs.declared.verdict.LeafFault.TheVariants as fault
use Rattle.rob_tree.specs.declared.verdict.TreeVerdict.{TreeVerdict}
use Rattle.rob_tree.specs.declared.verdict.TreeVerdict.TheVariants.{Accepted, Rejected, TooWide, Memory}
use Rattle.rob_branch.specs.Verdicts.{HasVerdict, IsWideInLeaf, RoseIfTooWide, paths}
use Rattle.rob_branch.specs.declared.leaf.LeafCheck.{LeafCheck}
use Rattle.rob_branch.specs.declared.leaf.LeafCheck.TheVariants as leaf

-- ---- one leaf
-- what of an accepted certificate's claim fails, for a tree that claims a status and a value
abbrev pub IsClaimed : Status → Sense → Fraction → Certificate → LeafCheck → Type 0
IsClaimed claimed sense value c leaf.Passed = MayBe claimed c.status × KeepsValue claimed sense value c
IsClaimed claimed sense value c (leaf.Fails (fault.At place)) = ⊥
IsClaimed claimed sense value c (leaf.Fails fault.Status) = MayBe claimed c.status → ⊥
IsClaimed claimed sense value c (leaf.Fails fault.Value) =
    MayBe claimed c.status × (KeepsValue claimed sense value c → ⊥)
IsClaimed claimed sense value c (leaf.Fails fault.Best) = ⊥
IsClaimed claimed sense value c (leaf.Fails fault.Whole) = ⊥
IsClaimed claimed sense value c (leaf.Wide spot) = ⊥
IsClaimed claimed sense value c leaf.Memory = ⊥

-- what comes of the check of a leaf with a certificate
abbrev pub IsLeafJudged : ℕ → Status → Fraction → RobustModel → Certificate → LeafCheck → Type 0
IsLeafJudged limit claimed value box c leaf.Passed =
    HasVerdict limit box c check.Accepted × MayBe claimed c.status × KeepsValue claimed box.sense value c
IsLeafJudged limit claimed value box c (leaf.Fails (fault.At place)) = HasVerdict limit box c (check.Rejected place)
IsLeafJudged limit claimed value box c (leaf.Fails fault.Status) =
    HasVerdict limit box c check.Accepted × (MayBe claimed c.status → ⊥)
IsLeafJudged limit claimed value box c (leaf.Fails fault.Value) =
    HasVerdict limit box c check.Accepted × MayBe claimed c.status × (KeepsValue claimed box.sense value c → ⊥)
IsLeafJudged limit claimed value box c (leaf.Fails fault.Best) = ⊥
IsLeafJudged limit claimed value box c (leaf.Fails fault.Whole) = ⊥
IsLeafJudged limit claimed value box c (leaf.Wide spot) =
    IsWideInLeaf limit (record { box = box; certificate = Some c }) spot
IsLeafJudged limit claimed value box c leaf.Memory = Unit {0}

-- what comes of the check where the box cannot be written
abbrev pub leaf_refusal : ElabErr → LeafCheck
leaf_refusal (refused.Wide spot) = leaf.Wide spot
leaf_refusal refused.Memory = leaf.Memory

-- what of the leaf that is to show the status fails first: that it shows it, or that its plan is whole
abbrev pub IsLastFault : Status → List ℕ → Fraction → Certificate → Option LeafFault → Type 0
IsLastFault claimed names value c None = Shows claimed value c × IsWholeOn names c.plan
IsLastFault claimed names value c (Some fault.Best) = Shows claimed value c → ⊥
IsLastFault claimed names value c (Some fault.Whole) = Shows claimed value c × (IsWholeOn names c.plan → ⊥)
IsLastFault claimed names value c (Some other) = ⊥

-- the leaf was too wide
abbrev pub is_wide_leaf : LeafCheck → Bool
is_wide_leaf leaf.Passed = false
is_wide_leaf (leaf.Fails told) = false
is_wide_leaf (leaf.Wide spot) = true
is_wide_leaf leaf.Memory = false

-- a leaf that was too wide has raised the count of wide numbers
abbrev pub RoseIfWideLeaf : ℕ → ℕ → LeafCheck → Type 0
RoseIfWideLeaf before now l = counts.RoseIfWide is_wide_leaf before now l

-- neither count fell, and that of wide numbers rose where the leaf is too wide
pub record CountsLeaf {S : Type 0} (ops_of wides_of : S → ℕ) (before now : S) (l : LeafCheck) : Type 0 where
  pub never_fell : NeverFell ops_of wides_of before now
  pub refused : RoseIfWideLeaf (wides_of before) (wides_of now) l

-- ---- the leaves of a node
-- the node's branches are on named variables at such K, and its certificates have the shape of their boxes
pub record IsBoxNode (limit : ℕ) (box : RobustModel) (names : List ℕ) (node : Node) : Type 0 where
  pub on_names : BranchesOn names node
  pub numbers : BranchesFit limit node
  pub shaped : Each IsShaped (leaves box node)

-- the branch is on a named variable, its number is within the limit, and the node is one of the box behind it
pub record MayCheck (limit : ℕ) (box : RobustModel) (names : List ℕ) (b : Branch) (node : Node) : Type 0 where
  pub named : IsIn b.variable names
  pub within : nat_abs b.bound ≤ limit
  pub node_is : IsBoxNode limit (behind box b) names node

module _ (limit : ℕ) (claimed : Status) (value : Fraction) where
  -- a leaf is passed unless its check says something else; an open one always is
  abbrev pub IsPassedLeaf : Leaf → Type 0
  IsPassedLeaf l = IfSome l.certificate (λ c. IsLeafJudged limit claimed value l.box c leaf.Passed)

  -- of a leaf with a certificate that is what fails
  abbrev pub FailsAt : LeafFault → Leaf → Type 0
  FailsAt told l = (c : Certificate) × (l.certificate ≡ Some c)
      × IsLeafJudged limit claimed value l.box c (leaf.Fails told)

  module _ (box : RobustModel) (front : List Branch) (node : Node) where
    -- the leaf of a number, counted on, has the property, its path is that, and all leaves before it are passed
    pub record StopsAt (first i : ℕ) (path : List Branch) (P : Leaf → Type 0) : Type 0 where
      pub done : List Leaf
      pub here : Leaf
      pub rest : List Leaf
      pub order : leaves box node ≡ done ++ here ∷ rest
      pub passed : Each IsPassedLeaf done
      pub number : i ≡ first + length done
      pub paths_before : List (List Branch)
      pub paths_after : List (List Branch)
      pub paths_order : paths front node ≡ paths_before ++ path ∷ paths_after
      pub same_place : length paths_before ≡ length done
      pub holds : P here

    -- why the check of a node stops
    abbrev pub Stops : ℕ → TreeVerdict → Type 0
    Stops first Accepted = ⊥
    Stops first (Rejected i told) = (path : List Branch) × StopsAt first i path (FailsAt told)
    Stops first (TooWide path spot) = (i : ℕ) × StopsAt first i (map branch_of path) (λ l. IsWideInLeaf limit l spot)
    Stops first Memory = Unit {0}

  -- all leaves of a node are passed; the number of the next leaf
  pub record IsPassedNode (box : RobustModel) (node : Node) (first next : ℕ) : Type 0 where
    pub number : next ≡ first + leaf_count node
    pub passed : Each IsPassedLeaf (leaves box node)

-- ---- the last verdict
-- all leaves being passed, the leaf of that number decides: accepted, it shows the status and its plan is whole
abbrev pub Ends : Status → List ℕ → Fraction → ℕ → List Leaf → TreeVerdict → Type 0
Ends claimed names value i ls Accepted =
    (claimed ≡ infeasible) ⊎ ((l : Leaf) × (leaf_at ls i ≡ Some l) × ((c : Certificate) × (l.certificate ≡ Some c)
    × Shows claimed value c × IsWholeOn names c.plan))
Ends claimed names value i ls (Rejected j fault.Best) =
    (claimed ≢ infeasible) × (j ≡ i) × ((l : Leaf) × (leaf_at ls i ≡ Some l)
    × ((c : Certificate) → l.certificate ≡ Some c → Shows claimed value c → ⊥))
Ends claimed names value i ls (Rejected j fault.Whole) =
    (claimed ≢ infeasible) × (j ≡ i) × ((l : Leaf) × (leaf_at ls i ≡ Some l)
    × ((c : Certificate) × (l.certificate ≡ Some c) × Shows claimed value c × (IsWholeOn names c.plan → ⊥)))
Ends claimed names value i ls (Rejected j other) = ⊥
Ends claimed names value i ls (TooWide path spot) = ⊥
Ends claimed names value i ls Memory = ⊥

-- ---- answers of the calls
-- the verdict that a number is wide behind that path; memory for the path may be refused
abbrev pub TellsWide : List declared.Branch → Spot → TreeVerdict → Type 0
TellsWide path spot told = (told ≡ TooWide path spot) ⊎ (told ≡ Memory)

-- neither count fell, and that of wide numbers rose where the check stopped for width
pub record CountsCheck {S T : Type 0} (ops_of wides_of : S → ℕ) (before now : S) (result : Result T TreeVerdict)
    : Type 0 where
  pub never_fell : NeverFell ops_of wides_of before now
  pub refused : IfErr result (RoseIfTooWide (wides_of before) (wides_of now))
