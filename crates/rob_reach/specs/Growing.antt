-- Branch and bound: how a tree grows, depth first, the upper-bounded box before the other.
-- Land, Doig (1960); Nemhauser, Wolsey, Integer and Combinatorial Optimization (1988), chapter II.4.
use Rattle.std.specs.Prelude.{◌≡◌, ℕ, suc, eqb, ℤ, Bool, true, false, if◌then◌else◌, List, [], ◌∷◌, Option, Some, None, ◌⊎◌}
use Rattle.std.proofs.Common.{Ordering, Less, Equal, Greater}
use Rattle.rob_algebra.specs.Fraction.{Fraction}
use Rattle.rob_algebra.specs.FractionOrder.{cmp_ℚ}
use Rattle.rob_meaning.specs.Certificates.{Certificate, Status, optimal, infeasible, unbounded}
use Rattle.rob_meaning.specs.Places.{0ℚ, at}
use Rattle.rob_meaning.specs.Proves.{Proves}
use Rattle.rob_meaning.specs.RobustModel.{RobustModel, Sense, minimise, maximise}
use Rattle.rob_reach.specs.Boxes.{Branch, behind, box, at_most_branch, at_least_branch, box_below, box_above}
use Rattle.rob_reach.specs.Trees.{Node, leaf, split, left_open, Tree, IsIn}
use Rattle.rob_reach.specs.WholeNumbers.{IsWhole, floor}

-- the best whole plan so far: the number of its leaf, and its value
pub record Best : Type 0 where
  pub number : ℕ
  pub value : Fraction

-- how far a search is: the number of leaves so far; the best whole plan; the leaf that showed the model to be unbounded
pub record Search : Type 0 where
  pub count : ℕ
  pub best : Option Best
  pub endless : Option ℕ

-- where it begins
abbrev pub start : Search
start = record { count = 0; best = None; endless = None }

-- whether the first of two numbers so ordered is at most the second
abbrev pub is_least : Ordering → Bool
is_least Less = true
is_least Equal = true
is_least Greater = false

-- whether a is no better than b: at least it for minimise, at most it for maximise
abbrev pub is_no_better : Sense → Fraction → Fraction → Bool
is_no_better minimise a b = is_least (cmp_ℚ b a)
is_no_better maximise a b = is_least (cmp_ℚ a b)

-- whether a box's optimum is no better than the best whole plan so far
abbrev pub is_beaten : Sense → Option Best → Fraction → Bool
is_beaten sense None v = false
is_beaten sense (Some b) v = is_no_better sense v b.value

-- the first named variable whose number isn't whole in the plan
abbrev pub first_broken : List ℕ → List Fraction → Option ℕ
first_broken [] plan = None
first_broken (j ∷ names) plan = if eqb (at plan j).den 1 then first_broken names plan else Some j

-- what comes of a box: a leaf, and how far the search is behind it; or a branch on a variable at k
pub data Outcome : Type 0 where
  ends : Search → Outcome
  branches : (variable : ℕ) (k : ℤ) → Outcome

-- one leaf more
abbrev pub counted : Search → Search
counted s = record s { count = suc s.count }

-- one leaf more, whose whole plan is the best so far
abbrev pub improved : Search → Fraction → Search
improved s v = record s { count = suc s.count; best = Some record { number = suc s.count; value = v } }

-- one leaf more, which shows the model to be unbounded
abbrev pub shown_endless : Search → Search
shown_endless s = record s { count = suc s.count; endless = Some (suc s.count) }

-- what comes of a box with a certificate, by its status, whether it is beaten, and the first number that isn't whole
abbrev pub outcome_by : Search → Certificate → Status → Bool → Option ℕ → Outcome
outcome_by s c infeasible beaten broken = ends (counted s)
outcome_by s c optimal true broken = ends (counted s)
outcome_by s c optimal false None = ends (improved s c.value)
outcome_by s c optimal false (Some j) = branches j (floor (at c.plan j))
outcome_by s c unbounded beaten None = ends (shown_endless s)
outcome_by s c unbounded beaten (Some j) = branches j (floor (at c.plan j))

-- the same, with these read off the search and the certificate
abbrev pub outcome : List ℕ → Sense → Search → Certificate → Outcome
outcome names sense s c = outcome_by s c c.status (is_beaten sense s.best c.value) (first_broken names c.plan)

-- ---- which branches a certificate allows

-- a box may be branched on variable j at k: a certificate that proves for it is optimal or unbounded, and the variable
-- is named, and its number in the certificate's plan isn't whole and has k as its floor
pub record AllowsBranch (m : RobustModel) (names : List ℕ) (c : Certificate) (j : ℕ) (k : ℤ) : Type 0 where
  pub proves : Proves m c
  pub planned : (c.status ≡ optimal) ⊎ (c.status ≡ unbounded)
  pub named : IsIn j names
  pub broken : IsWhole (at c.plan j) → ⊥
  pub at_floor : floor (at c.plan j) ≡ k

-- the branch is one of the two of a branch that some certificate allows
pub record IsAllowed (m : RobustModel) (names : List ℕ) (b : Branch) : Type 0 where
  pub certificate : Certificate
  pub variable : ℕ
  pub k : ℤ
  pub allows : AllowsBranch m names certificate variable k
  pub side : (b ≡ at_most_branch variable k) ⊎ (b ≡ at_least_branch variable k)

-- each branch of the path is allowed in the box before it
abbrev pub IsAllowedPath : RobustModel → List ℕ → List Branch → Type 0
IsAllowedPath m names [] = Unit {0}
IsAllowedPath m names (b ∷ path) = IsAllowed m names b × IsAllowedPath (behind m b) names path

-- ---- how a tree grows

-- the search is still on, the certificate proves for the box, and that comes of it
pub record Decides (m : RobustModel) (names : List ℕ) (before : Search) (c : Certificate) (o : Outcome) : Type 0 where
  pub going : before.endless ≡ None
  pub proves : Proves m c
  pub decides : outcome names m.sense before c ≡ o

-- a box grows into a node, and the search goes from `before` to `after`: once the model is shown to be unbounded, boxes
-- are left open; else a certificate of the box says whether it is a leaf or is branched, and the box below grows first
abbrev pub Grows : RobustModel → List ℕ → Search → Node → Search → Type 0
Grows m names before (leaf c) after = Decides m names before c (ends after)
Grows m names before (split j k below above) after =
    ((c : Certificate) × Decides m names before c (branches j k))
    × ((middle : Search)
    × (Grows (box_below m j k) names before below middle × Grows (box_above m j k) names middle above after))
Grows m names before left_open after = ((i : ℕ) × (before.endless ≡ Some i)) × (after ≡ counted before)

-- a search that stands at `before` comes to the box behind a path, and stands at `there` then: it is still on; and
-- where a branch leads on, a certificate of the box asks for it, and before the second of its boxes the first one has
-- grown
abbrev pub ComesToBox : RobustModel → List ℕ → Search → List Branch → Search → Type 0
ComesToBox m names before [] there = (before.endless ≡ None) × (there ≡ before)
ComesToBox m names before (b ∷ path) there =
    (c : Certificate) × (j : ℕ) × (k : ℤ) × Decides m names before c (branches j k)
    × (((b ≡ at_most_branch j k) × ComesToBox (behind m b) names before path there)
    ⊎ ((b ≡ at_least_branch j k) × ((below : Node) × (middle : Search)
    × Grows (box_below m j k) names before below middle × ComesToBox (behind m b) names middle path there)))

-- it comes to that box
abbrev pub Visits : RobustModel → List ℕ → Search → List Branch → Type 0
Visits m names before path = (there : Search) × ComesToBox m names before path there

-- the tree of a search that is over
abbrev pub tree_by : Option ℕ → Option Best → Node → Tree
tree_by (Some i) best root = record { status = unbounded; value = 0ℚ; best = i; root = root }
tree_by None (Some b) root = record { status = optimal; value = b.value; best = b.number; root = root }
tree_by None None root = record { status = infeasible; value = 0ℚ; best = 0; root = root }

-- the tree is what the model grows into
pub record IsGrown (m : RobustModel) (names : List ℕ) (t : Tree) : Type 0 where
  pub after : Search
  pub grows : Grows m names start t.root after
  pub finished : t ≡ tree_by after.endless after.best t.root

-- a solver's certificates: one that proves for each box behind a path
abbrev pub Solves : RobustModel → Type 0
Solves m = (path : List Branch) → (c : Certificate) × Proves (box m path) c
