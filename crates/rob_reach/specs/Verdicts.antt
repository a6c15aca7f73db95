-- The check of a tree as a list of conditions, in the order in which they are
-- judged: the first that fails is the verdict.
use Rattle.std.specs.Prelude.{◌≡◌, ◌<◌, ◌≤◌, ℕ, zero, suc, List, [], ◌∷◌, ◌++◌, Option, Some, None, IfSome, ◌⊎◌}
use Rattle.rob_algebra.specs.Fraction.{Fraction}
use Rattle.rob_meaning.specs.Certificates.{Certificate, Status, optimal, infeasible, unbounded}
use Rattle.rob_meaning.specs.Guarantee.{IsNoWorse}
use Rattle.rob_meaning.specs.Places.{Each}
use Rattle.rob_meaning.specs.RobustModel.{RobustModel, Sense}
use Rattle.rob_reach.specs.Trees.{Node, leaf, split, left_open, Tree, Leaf, leaves, leaf_count, branch_count, BranchesOn, IsProved}
use Rattle.rob_reach.specs.WholeStatus.{IsWholeOn}

-- ---- what a tree's text keeps

-- no leaf of the node is open
abbrev pub IsClosed : Node → Type 0
IsClosed (leaf c) = Unit {0}
IsClosed (split j k below above) = IsClosed below × IsClosed above
IsClosed left_open = ⊥

-- leaves are open in an unbounded tree alone
abbrev pub KeepsOpen : Status → Node → Type 0
KeepsOpen optimal root = IsClosed root
KeepsOpen infeasible root = IsClosed root
KeepsOpen unbounded root = Unit {0}

-- but for infeasible, the number is a leaf's
abbrev pub KeepsBest : Status → ℕ → ℕ → Type 0
KeepsBest infeasible best count = Unit {0}
KeepsBest optimal best count = (0 < best) × (best ≤ count)
KeepsBest unbounded best count = (0 < best) × (best ≤ count)

-- the rules 71 to 73 as far as they speak of the tree itself
pub record IsTree (names : List ℕ) (t : Tree) : Type 0 where
  pub on_names : BranchesOn names t.root
  pub few : branch_count t.root < 1000
  pub closed : KeepsOpen t.status t.root
  pub best : KeepsBest t.status t.best (leaf_count t.root)

-- ---- the conditions

-- what of a leaf can fail: its proof, its status, its value; and of the leaf
-- that shows the status, what it shows, and its plan
pub data LeafFault : Type 0 where
  proof status value best whole : LeafFault

-- a condition: what of which leaf
pub record Condition : Type 0 where
  pub number : ℕ
  pub fault : LeafFault
  pub leaf : Leaf

-- the leaf of a number, counted from 1
abbrev pub leaf_at : List Leaf → ℕ → Option Leaf
leaf_at [] i = None
leaf_at (l ∷ ls) zero = None
leaf_at (l ∷ ls) (suc zero) = Some l
leaf_at (l ∷ ls) (suc (suc i)) = leaf_at ls (suc i)

-- those of the leaves from number i on
abbrev pub leaf_conditions : ℕ → List Leaf → List Condition
leaf_conditions i [] = []
leaf_conditions i (l ∷ ls) =
    record { number = i; fault = proof; leaf = l }
    ∷ record { number = i; fault = status; leaf = l }
    ∷ record { number = i; fault = value; leaf = l } ∷ leaf_conditions (suc i) ls

-- those of the leaf that shows the status
abbrev pub best_conditions : ℕ → Option Leaf → List Condition
best_conditions i None = []
best_conditions i (Some l) =
    record { number = i; fault = best; leaf = l } ∷ record { number = i; fault = whole; leaf = l } ∷ []

-- those of leaf number i, where something is to be shown
abbrev pub last_conditions : Status → ℕ → List Leaf → List Condition
last_conditions infeasible i ls = []
last_conditions optimal i ls = best_conditions i (leaf_at ls i)
last_conditions unbounded i ls = best_conditions i (leaf_at ls i)

-- all conditions of a tree
abbrev pub tree_conditions : RobustModel → Tree → List Condition
tree_conditions m t = leaf_conditions 1 (leaves m t.root) ++ last_conditions t.status t.best (leaves m t.root)

-- the statuses that a leaf may have, by what the tree claims
abbrev pub MayBe : Status → Status → Type 0
MayBe optimal s = (s ≡ infeasible) ⊎ (s ≡ optimal)
MayBe infeasible s = s ≡ infeasible
MayBe unbounded s = Unit {0}

-- in an optimal tree, an optimal leaf is no better than v
abbrev pub KeepsValue : Status → Sense → Fraction → Certificate → Type 0
KeepsValue optimal sense v c = c.status ≡ optimal → IsNoWorse sense v c.value
KeepsValue infeasible sense v c = Unit {0}
KeepsValue unbounded sense v c = Unit {0}

-- the certificate shows what the tree claims
abbrev pub Shows : Status → Fraction → Certificate → Type 0
Shows optimal v c = (c.status ≡ optimal) × (c.value ≡ v)
Shows infeasible v c = Unit {0}
Shows unbounded v c = c.status ≡ unbounded

-- what of a leaf holds, for a tree that claims a status and a value; of an open
-- leaf nothing is asked, but it shows nothing
abbrev pub HoldsOf : LeafFault → Sense → List ℕ → Status → Fraction → Leaf → Type 0
HoldsOf proof sense names claimed v l = IsProved l
HoldsOf status sense names claimed v l = IfSome l.certificate (λ c. MayBe claimed c.status)
HoldsOf value sense names claimed v l = IfSome l.certificate (λ c. KeepsValue claimed sense v c)
HoldsOf best sense names claimed v l = (c : Certificate) × ((l.certificate ≡ Some c) × Shows claimed v c)
HoldsOf whole sense names claimed v l = IfSome l.certificate (λ c. IsWholeOn names c.plan)

-- the condition holds, for the tree
abbrev pub Holds : Sense → List ℕ → Tree → Condition → Type 0
Holds sense names t c = HoldsOf c.fault sense names t.status t.value c.leaf

-- the first condition that fails: those before it hold, and it doesn't
pub record IsFirstFault (m : RobustModel) (names : List ℕ) (t : Tree) (c : Condition) : Type 0 where
  pub before : List Condition
  pub after : List Condition
  pub stands : tree_conditions m t ≡ before ++ c ∷ after
  pub hold : Each (Holds m.sense names t) before
  pub fails : Holds m.sense names t c → ⊥
