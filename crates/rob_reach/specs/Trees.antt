-- Branch trees: what shows a status over plans with whole numbers.
-- Nemhauser, Wolsey, Integer and Combinatorial Optimization (1988), chapter II.4.
use Rattle.std.specs.Prelude.{◌≡◌, ℕ, zero, suc, ◌+◌, ℤ, List, [], ◌∷◌, ◌++◌, Option, Some, None, IfSome, ◌⊎◌}
use Rattle.rob_algebra.specs.Fraction.{Fraction}
use Rattle.rob_meaning.specs.Certificates.{Certificate, Status, optimal, infeasible, unbounded}
use Rattle.rob_meaning.specs.Guarantee.{IsNoWorse}
use Rattle.rob_meaning.specs.Places.{Each}
use Rattle.rob_meaning.specs.Proves.{Proves}
use Rattle.rob_meaning.specs.RobustModel.{RobustModel, Sense}
use Rattle.rob_reach.specs.Boxes.{box_below, box_above}
use Rattle.rob_reach.specs.WholeStatus.{IsWholeOn}

-- a node: a leaf with a certificate of its box; a branch at k on a variable,
-- with the nodes of its two boxes; or a leaf that is left open
pub data Node : Type 0 where
  leaf : Certificate → Node
  split : (variable : ℕ) (k : ℤ) (below above : Node) → Node
  left_open : Node

-- a tree: the status that it claims, with its value where that is optimal; the
-- number of the leaf that shows it; its root
pub record Tree : Type 0 where
  pub status : Status
  pub value : Fraction
  pub best : ℕ
  pub root : Node

-- a leaf with its box, and its certificate unless it is open
pub record Leaf : Type 0 where
  pub box : RobustModel
  pub certificate : Option Certificate

-- the leaves in order, open ones too, of a node that stands for the box m
abbrev pub leaves : RobustModel → Node → List Leaf
leaves m (leaf c) = record { box = m; certificate = Some c } ∷ []
leaves m (split j k below above) = leaves (box_below m j k) below ++ leaves (box_above m j k) above
leaves m left_open = record { box = m; certificate = None } ∷ []

-- the number of leaves
abbrev pub leaf_count : Node → ℕ
leaf_count (leaf c) = 1
leaf_count (split j k below above) = leaf_count below + leaf_count above
leaf_count left_open = 1

-- the number of branches
abbrev pub branch_count : Node → ℕ
branch_count (leaf c) = 0
branch_count (split j k below above) = suc (branch_count below + branch_count above)
branch_count left_open = 0

-- the number of all nodes
abbrev pub node_count : Node → ℕ
node_count (leaf c) = 1
node_count (split j k below above) = suc (node_count below + node_count above)
node_count left_open = 1

-- the item is in the list
abbrev pub IsIn : ℕ → List ℕ → Type 0
IsIn j [] = ⊥
IsIn j (i ∷ names) = (j ≡ i) ⊎ IsIn j names

-- each branch is on a named variable
abbrev pub BranchesOn : List ℕ → Node → Type 0
BranchesOn names (leaf c) = Unit {0}
BranchesOn names (split j k below above) = IsIn j names × BranchesOn names below × BranchesOn names above
BranchesOn names left_open = Unit {0}

-- leaf number i, counted from 1, has the property
abbrev pub HasLeaf : (Leaf → Type 0) → List Leaf → ℕ → Type 0
HasLeaf P [] i = ⊥
HasLeaf P (l ∷ ls) zero = ⊥
HasLeaf P (l ∷ ls) (suc zero) = P l
HasLeaf P (l ∷ ls) (suc (suc i)) = HasLeaf P ls (suc i)

-- ---- what leaves show

-- a leaf that isn't open proves for its box
abbrev pub IsProved : Leaf → Type 0
IsProved l = IfSome l.certificate (λ c. Proves l.box c)

-- the leaf is infeasible
abbrev pub IsInfeasibleLeaf : Leaf → Type 0
IsInfeasibleLeaf l = (c : Certificate) × (l.certificate ≡ Some c) × (c.status ≡ infeasible)

-- the leaf is infeasible, or optimal with a value no better than v
abbrev pub IsNoBetterLeaf : Sense → Fraction → Leaf → Type 0
IsNoBetterLeaf sense v l =
    (c : Certificate) × (l.certificate ≡ Some c)
    × ((c.status ≡ infeasible) ⊎ ((c.status ≡ optimal) × IsNoWorse sense v c.value))

-- the leaf is optimal with value v, and its plan is whole on the names
pub record IsBestLeaf (names : List ℕ) (v : Fraction) (l : Leaf) : Type 0 where
  pub certificate : Certificate
  pub here : l.certificate ≡ Some certificate
  pub status : certificate.status ≡ optimal
  pub value : certificate.value ≡ v
  pub whole : IsWholeOn names certificate.plan

-- the leaf is unbounded, and its plan is whole on the names
pub record IsEndlessLeaf (names : List ℕ) (l : Leaf) : Type 0 where
  pub certificate : Certificate
  pub here : l.certificate ≡ Some certificate
  pub status : certificate.status ≡ unbounded
  pub whole : IsWholeOn names certificate.plan

-- what is to be shown for a status
abbrev pub ShowsStatus : Status → RobustModel → List ℕ → Tree → Type 0
ShowsStatus optimal m names t =
    Each (IsNoBetterLeaf m.sense t.value) (leaves m t.root)
    × HasLeaf (IsBestLeaf names t.value) (leaves m t.root) t.best
ShowsStatus infeasible m names t = Each IsInfeasibleLeaf (leaves m t.root)
ShowsStatus unbounded m names t = HasLeaf (IsEndlessLeaf names) (leaves m t.root) t.best

-- the tree proves: each leaf that isn't open proves for its box, and together they show the status
pub record ProvesTree (m : RobustModel) (names : List ℕ) (t : Tree) : Type 0 where
  pub proved : Each IsProved (leaves m t.root)
  pub shows : ShowsStatus t.status m names t
