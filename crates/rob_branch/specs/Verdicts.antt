-- The verdict on a tree: its conditions are judged in order, and the first that fails, or for which a number is wide,
-- decides.
use Rattle.std.specs.Prelude.{◌≡◌, ◌-◌, ℕ, zero, suc, List, [], ◌∷◌, ◌++◌, map, take, Some, IfSome, Bool, true, false}
use Rattle.rob_check.specs.Conditions.{verdict_of}
use Rattle.rob_check.specs.declared.verdict.Verdict.{Verdict}
use Rattle.rob_check.specs.declared.verdict.Verdict.TheVariants as check
use Rattle.rob_meaning.specs.Certificates.{Certificate}
use Rattle.rob_meaning.specs.Places.{Each}
use Rattle.rob_meaning.specs.RobustModel.{RobustModel}
use Rattle.rob_model.specs.declared.place.Place.{Place}
use Rattle.rob_model.specs.declared.place.Spot.{Spot}
use Rattle.rob_model.specs.declared.place.Spot.TheVariants.{Check}
use Rattle.rob_number.specs.Counts as counts
use Rattle.rob_number.specs.Counts.{NeverFell}
use Rattle.rob_reach.specs.Boxes.{Branch, box, at_least_branch, at_most_branch}
use Rattle.rob_reach.specs.Trees.{Node, leaf, split, left_open, Tree, Leaf, leaves, ProvesTree}
use Rattle.rob_reach.specs.Verdicts as verdicts
use Rattle.rob_reach.specs.Verdicts.{Condition, HoldsOf, IsFirstFault, leaf_at, proof, status, value, best, whole}
use Rattle.rob_sets.specs.FirstWide.{IsFirstWide}
use Rattle.rob_tree.specs.View.{branch_of}
use Rattle.rob_tree.specs.declared.verdict.LeafFault.{LeafFault}
use Rattle.rob_tree.specs.declared.verdict.LeafFault.TheVariants as fault
use Rattle.rob_tree.specs.declared.verdict.TreeVerdict.{TreeVerdict}
use Rattle.rob_tree.specs.declared.verdict.TreeVerdict.TheVariants.{Accepted, Rejected, TooWide, Memory}
use Rattle.rob_elab.specs.Written.{judged, IsWritten}

-- the path of each leaf, in order, behind that of the node
abbrev pub paths : List Branch → Node → List (List Branch)
paths front (leaf c) = front ∷ []
paths front (split j k below above) =
    paths (front ++ at_most_branch j k ∷ []) below ++ paths (front ++ at_least_branch j k ∷ []) above
paths front left_open = front ∷ []

-- the path of the leaf of a number, counted from 1; that of the root where there is none
abbrev pub path_at : List (List Branch) → ℕ → List Branch
path_at [] i = []
path_at (p ∷ ps) zero = []
path_at (p ∷ ps) (suc zero) = p
path_at (p ∷ ps) (suc (suc i)) = path_at ps (suc i)

-- the leaves whose certificates are checked before a condition of leaf number i is tried: those before it, or, for
-- what a leaf is to show, all
abbrev pub checked_before : verdicts.LeafFault → ℕ → List Leaf → List Leaf
checked_before proof i ls = take (i - 1) ls
checked_before status i ls = take (i - 1) ls
checked_before value i ls = take (i - 1) ls
checked_before best i ls = ls
checked_before whole i ls = ls

module _ (limit : ℕ) where
  -- no number is wide where the box is written in whole numbers, and that is the verdict on the certificate
  pub record HasVerdict (box : RobustModel) (c : Certificate) (v : Verdict) : Type 0 where
    pub written : IsWritten limit box
    pub verdict : verdict_of limit box c ≡ v

  -- the certificate of a leaf that isn't open is accepted
  abbrev pub IsPassed : Leaf → Type 0
  IsPassed l = IfSome l.certificate (λ c. HasVerdict l.box c check.Accepted)

  -- the spot is the first that is wide: where the leaf's box is written, or, where none is there, in the check of its
  -- certificate
  pub data IsWideInLeaf (l : Leaf) (spot : Spot) : Type 0 where
    writing : (c : Certificate) → l.certificate ≡ Some c → IsFirstWide limit l.box (judged l.box) spot
        → IsWideInLeaf l spot
    checking : (c : Certificate) (place : Place) → l.certificate ≡ Some c → HasVerdict l.box c (check.TooWide place)
        → spot ≡ Check place → IsWideInLeaf l spot

  -- no number of the tree's check is wide, of whichever leaf
  abbrev pub NoneWide : RobustModel → Tree → Type 0
  NoneWide m t = Each (λ l. (spot : Spot) → IsWideInLeaf l spot → ⊥) (leaves m t.root)

  -- what is told of a leaf whose condition of that kind fails; of its certificate's check the place at which it fails
  abbrev pub TellsFault : verdicts.LeafFault → LeafFault → Leaf → Type 0
  TellsFault proof told l =
      (place : Place) × (told ≡ fault.At place) × IfSome l.certificate (λ c. HasVerdict l.box c (check.Rejected place))
  TellsFault status told l = (told ≡ fault.Status) × IsPassed l
  TellsFault value told l = (told ≡ fault.Value) × IsPassed l
  TellsFault best told l = told ≡ fault.Best
  TellsFault whole told l = told ≡ fault.Whole

  module _ (m : RobustModel) (names : List ℕ) (t : Tree) where
    -- the leaf is passed, and keeps the tree's status and value
    pub record IsKept (l : Leaf) : Type 0 where
      pub passed : IsPassed l
      pub status : HoldsOf status m.sense names t.status t.value l
      pub value : HoldsOf value m.sense names t.status t.value l

    -- the tree proves, and no number of its check is wide
    pub record IsAccepted : Type 0 where
      pub proves : ProvesTree m names t
      pub passed : Each IsPassed (leaves m t.root)

    -- that condition of that leaf is the first that fails, and no number before it is wide
    pub record IsRejectedAt (i : ℕ) (told : LeafFault) : Type 0 where
      pub condition : Condition
      pub first : IsFirstFault m names t condition
      pub number : condition.number ≡ i
      pub tells : TellsFault condition.fault told condition.leaf
      pub before : Each IsPassed (checked_before condition.fault i (leaves m t.root))

    -- a number is wide at that spot for the leaf behind that path, whose box is the one that the path leads to, and all
    -- conditions of the leaves before it hold
    pub record IsTooWideAt (path : List Branch) (spot : Spot) : Type 0 where
      pub number : ℕ
      pub leaf : Leaf
      pub here : leaf_at (leaves m t.root) number ≡ Some leaf
      pub path_is : path_at (paths [] t.root) number ≡ path
      pub boxed : leaf.box ≡ box m path
      pub wide : IsWideInLeaf leaf spot
      pub before : Each IsKept (take (number - 1) (leaves m t.root))

    -- the verdict is the tree's; want of memory has no cause
    abbrev pub IsVerdict : TreeVerdict → Type 0
    IsVerdict Accepted = IsAccepted
    IsVerdict (Rejected i told) = IsRejectedAt i told
    IsVerdict (TooWide path spot) = IsTooWideAt (map branch_of path) spot
    IsVerdict Memory = Unit {0}

-- the fact holds where the verdict accepts
abbrev pub OnAccepted : TreeVerdict → Type 0 → Type 0
OnAccepted Accepted P = P
OnAccepted (Rejected i told) P = Unit {0}
OnAccepted (TooWide path spot) P = Unit {0}
OnAccepted Memory P = Unit {0}

-- the verdict is that a number is wide
abbrev pub is_too_wide : TreeVerdict → Bool
is_too_wide Accepted = false
is_too_wide (Rejected i told) = false
is_too_wide (TooWide path spot) = true
is_too_wide Memory = false

-- a verdict that is too wide has raised the count of wide numbers
abbrev pub RoseIfTooWide : ℕ → ℕ → TreeVerdict → Type 0
RoseIfTooWide before now v = counts.RoseIfWide is_too_wide before now v

-- neither count fell, and that of wide numbers rose where the verdict is too wide
pub record CountsVerdict {S : Type 0} (ops_of wides_of : S → ℕ) (before now : S) (v : TreeVerdict) : Type 0 where
  pub never_fell : NeverFell ops_of wides_of before now
  pub refused : RoseIfTooWide (wides_of before) (wides_of now) v
