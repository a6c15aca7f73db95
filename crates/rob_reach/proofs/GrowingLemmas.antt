-- What is branched, and how the measure of the search falls: at most as many leaves as the product of ranges.
use Rattle.std.specs.Prelude.{◌≡◌, ◌<◌, ◌≤◌, ℕ, zero, suc, ◌+◌, eqb, ℤ, pos, ◌+ℤ◌, Bool, true, false, T, if◌then◌else◌, List, [], ◌∷◌, length, Option, Some, None, ◌⊎◌, refl}
use Rattle.std.proofs.Common.{ap, ap₂, sym, ◌∙◌, subst, inl, inr, arith}
use Rattle.std.proofs.lemmas.Bool.{eqb-true, eqb-false}
use Rattle.std.proofs.lemmas.List.{length-append}
use Rattle.rob_algebra.specs.Fraction.{Fraction, ◌≤ℚ◌}
use Rattle.rob_meaning.specs.Certificates.{Certificate, Status, optimal, infeasible, unbounded}
use Rattle.rob_meaning.specs.Guarantee.{HasBound}
use Rattle.rob_meaning.specs.Places.{at}
use Rattle.rob_meaning.specs.Proves.{Proves, ProvesAs}
use Rattle.rob_meaning.specs.RobustModel.{RobustModel, Sense}
use Rattle.rob_meaning.specs.WellFormed.{IsModel}
use Rattle.rob_reach.proofs.BoxLemmas.{model_behind}
use Rattle.rob_meaning.proofs.Proving.ProvesLemmas.{optimal_bound, unbounded_bound}
use Rattle.rob_reach.proofs.RangeLemmas.{bounded_in, number_between, lower_at, upper_at, changes_bounded}
use Rattle.rob_reach.proofs.SplitLemmas.{products_split, product_positive}
use Rattle.rob_reach.specs.Boxes.{Branch, behind, box_below, box_above, at_most_branch, at_least_branch}
use Rattle.rob_reach.specs.Growing.{Search, is_beaten, first_broken, Outcome, ends, branches, outcome_by, outcome, Decides, AllowsBranch, IsAllowed, IsAllowedPath, ComesToBox, Grows}
use Rattle.rob_reach.specs.Ranges.{are_bounded, product_of_ranges}
use Rattle.rob_reach.specs.Trees.{Node, leaf, split, left_open, leaves, leaf_count, branch_count, node_count, IsIn, BranchesOn}
use Rattle.rob_reach.specs.WholeNumbers.{IsWhole, floor}
use Rattle.rob_reach.specs.WholeStatus.{IsWholeOn}

-- ---- the first number that isn't whole
pub all_whole : (names : List ℕ) (plan : List Fraction) → first_broken names plan ≡ None → IsWholeOn names plan
all_whole [] plan e = tt
all_whole (j ∷ names) plan e = by (all_whole names plan) (eqb (at plan j).den 1) refl e
  where
    by : (first_broken names plan ≡ None → IsWholeOn names plan) → (b : Bool) → eqb (at plan j).den 1 ≡ b →
        (if b then first_broken names plan else Some j) ≡ None → IsWholeOn (j ∷ names) plan
    by rest true d e = (eqb-true (at plan j).den 1 d, rest e)
    by rest false d e = cc

pub broken_is : (names : List ℕ) (plan : List Fraction) (j : ℕ) → first_broken names plan ≡ Some j →
    IsIn j names × (IsWhole (at plan j) → ⊥)
broken_is [] plan j e = cc
broken_is (i ∷ names) plan j e = by (broken_is names plan j) (eqb (at plan i).den 1) refl e
  where
    by : (first_broken names plan ≡ Some j → IsIn j names × (IsWhole (at plan j) → ⊥)) → (b : Bool)
        → eqb (at plan i).den 1 ≡ b →
        (if b then first_broken names plan else Some i) ≡ Some j → IsIn j (i ∷ names) × (IsWhole (at plan j) → ⊥)
    by rest true d e = (inr (rest e).0, (rest e).1)
    by rest false d e =
        let same : i ≡ j = cc in
        (inl (sym same), λ whole. eqb-false (at plan i).den 1 d (subst (λ n. (at plan n).den ≡ 1) (sym same) whole))

-- ---- what comes of a box
-- a branch is on the first number that isn't whole, at its floor, and the certificate is optimal or unbounded
pub record AsksBranch (names : List ℕ) (c : Certificate) (j : ℕ) (k : ℤ) : Type 0 where
  pub broken : first_broken names c.plan ≡ Some j
  pub at_floor : floor (at c.plan j) ≡ k
  pub planned : (c.status ≡ optimal) ⊎ (c.status ≡ unbounded)

branch_variable : Outcome → ℕ
branch_variable (ends s) = 0
branch_variable (branches j k) = j

branch_at : Outcome → ℤ
branch_at (ends s) = pos 0
branch_at (branches j k) = k

pub asks_branch : (names : List ℕ) (sense : Sense) (s : Search) (c : Certificate) (j : ℕ) (k : ℤ) →
    outcome names sense s c ≡ branches j k → AsksBranch names c j k
unfolding branch_variable branch_at
asks_branch names sense s c j k e =
    by c.status (is_beaten sense s.best c.value) (first_broken names c.plan) refl refl e
  where
    taken : (i : ℕ) → first_broken names c.plan ≡ Some i → branches i (floor (at c.plan i)) ≡ branches j k →
        (c.status ≡ optimal) ⊎ (c.status ≡ unbounded) → AsksBranch names c j k
    taken i b e planned =
        let same : i ≡ j = ap branch_variable e in
        record {
          broken = b ∙ ap Some same;
          at_floor = subst (λ n. floor (at c.plan n) ≡ k) same (ap branch_at e);
          planned = planned;
        }

    by : (status : Status) (beaten : Bool) (broken : Option ℕ) → c.status ≡ status
        → first_broken names c.plan ≡ broken →
        outcome_by s c status beaten broken ≡ branches j k → AsksBranch names c j k
    by infeasible beaten broken t b e = cc
    by optimal true broken t b e = cc
    by optimal false None t b e = cc
    by optimal false (Some i) t b e = taken i b e (inl t)
    by unbounded beaten None t b e = cc
    by unbounded beaten (Some i) t b e = taken i b e (inr t)

-- the certificate of a branched box has a plan with a bound
branched_plan : (m : RobustModel) → IsModel m → (c : Certificate) → Proves m c → (c.status ≡ optimal)
    ⊎ (c.status ≡ unbounded) →
    HasBound m c.plan c.value
branched_plan m model c h (inl e) =
    let p = subst (λ s. ProvesAs s m c) e h in optimal_bound m model c p
branched_plan m model c h (inr e) =
    let p = subst (λ s. ProvesAs s m c) e h in unbounded_bound m model c p

-- what a search branches on is allowed
pub allows_branch : (m : RobustModel) (names : List ℕ) (s : Search) (c : Certificate) (j : ℕ) (k : ℤ) →
    Decides m names s c (branches j k) → AllowsBranch m names c j k
allows_branch m names s c j k h = by (asks_branch names m.sense s c j k h.decides)
  where
    by : AsksBranch names c j k → AllowsBranch m names c j k
    by a =
        let broken = broken_is names c.plan j a.broken in
        record { proves = h.proves; planned = a.planned; named = broken.0; broken = broken.1; at_floor = a.at_floor }

-- the two branches that a certificate asks for are allowed
module _ (m : RobustModel) (names : List ℕ) (s : Search) (c : Certificate) (j : ℕ) (k : ℤ)
    (h : Decides m names s c (branches j k)) where
  pub allowed_below : IsAllowed m names (at_most_branch j k)
  allowed_below =
      record { certificate = c; variable = j; k = k; allows = allows_branch m names s c j k h; side = inl refl }

  pub allowed_above : IsAllowed m names (at_least_branch j k)
  allowed_above =
      record { certificate = c; variable = j; k = k; allows = allows_branch m names s c j k h; side = inr refl }

-- what a search comes to is behind an allowed path
pub comes_allowed : (m : RobustModel) (names : List ℕ) (before there : Search) (path : List Branch)
    → ComesToBox m names before path there → IsAllowedPath m names path
comes_allowed m names before there [] h = tt
comes_allowed m names before there (b ∷ path) (c, j, k, decides, inl h) = (
  subst (IsAllowed m names) (sym h.0) (allowed_below m names before c j k decides),
  comes_allowed (behind m b) names before there path h.1,
)
comes_allowed m names before there (b ∷ path) (c, j, k, decides, inr h) = (
  subst (IsAllowed m names) (sym h.0) (allowed_above m names before c j k decides),
  comes_allowed (behind m b) names h.1.1 there path h.1.3,
)

-- ---- the measure
module _ (m : RobustModel) (model : IsModel m) (names : List ℕ)
    (bounded : T (are_bounded m.variables names)) (c : Certificate)
    (j : ℕ) (k : ℤ) (a : AllowsBranch m names c j k) where
  -- the products of ranges of the two boxes of a branch sum to at most that of the box
  pub measure_splits :
      product_of_ranges (box_below m j k).variables names + product_of_ranges (box_above m j k).variables names
      ≤ product_of_ranges m.variables names
  measure_splits =
      let some = bounded_in m.variables names j a.named bounded in
      let plan = branched_plan m model c a.proves a.planned in
      let between = number_between c.plan zero m.variables j some plan.variables in
      let here = subst (λ n. (lower_at m.variables j ≤ℚ at c.plan n) × (at c.plan n ≤ℚ upper_at m.variables j))
      (zero_plus j) between in
      subst (λ z. product_of_ranges (box_below m j z).variables names
      + product_of_ranges (box_above m j z).variables names
      ≤ product_of_ranges m.variables names) a.at_floor
      (products_split (at c.plan j) a.broken m.variables names j a.named some here.0 here.1)
    where
      zero_plus : (j : ℕ) → zero + j ≡ j
      zero_plus j = omega arith

  -- so it falls in both
  pub measure_falls : (product_of_ranges (box_below m j k).variables names < product_of_ranges m.variables names)
      × (product_of_ranges (box_above m j k).variables names < product_of_ranges m.variables names)
  measure_falls =
      by (product_positive (box_below m j k).variables names)
      (product_positive (box_above m j k).variables names) measure_splits
    where
      by : {p q r : ℕ} → 1 ≤ p → 1 ≤ q → p + q ≤ r → (p < r) × (q < r)
      by h g k = (omega arith, omega arith)

-- a path of allowed branches is shorter than the product of ranges
pub path_short : (m : RobustModel) → IsModel m → (names : List ℕ) → T (are_bounded m.variables names)
    → (path : List Branch) →
    IsAllowedPath m names path → length path < product_of_ranges m.variables names
path_short m model names bounded [] h = product_positive m.variables names
path_short m model names bounded (b ∷ path) h =
    less (path_short (behind m b) (model_behind m b model) names
    (changes_bounded b.is_upper b.bound b.variable m.variables names bounded) path h.1) (falls h.0.side)
  where
    less : {n p q : ℕ} → n < p → p < q → suc n < q
    less h g = omega arith

    falls : (b ≡ at_most_branch h.0.variable h.0.k) ⊎ (b ≡ at_least_branch h.0.variable h.0.k) →
        product_of_ranges (behind m b).variables names < product_of_ranges m.variables names
    falls (inl e) =
        subst (λ b. product_of_ranges (behind m b).variables names < product_of_ranges m.variables names) (sym e)
        (measure_falls m model names bounded h.0.certificate h.0.variable h.0.k h.0.allows).0
    falls (inr e) =
        subst (λ b. product_of_ranges (behind m b).variables names < product_of_ranges m.variables names) (sym e)
        (measure_falls m model names bounded h.0.certificate h.0.variable h.0.k h.0.allows).1

-- ---- at most as many leaves as the product of ranges
pub leaves_bounded : (m : RobustModel) → IsModel m → (names : List ℕ) → T (are_bounded m.variables names) →
    (before after : Search) (node : Node) → Grows m names before node after
    → leaf_count node ≤ product_of_ranges m.variables names
leaves_bounded m model names bounded before after (leaf c) h = product_positive m.variables names
leaves_bounded m model names bounded before after left_open h = product_positive m.variables names
leaves_bounded m model names bounded before after (split j k below above) h =
    together
    (leaves_bounded (box_below m j k) (model_behind m (at_most_branch j k) model) names
    (changes_bounded true k j m.variables names bounded) before h.1.0 below h.1.1.0)
    (leaves_bounded (box_above m j k) (model_behind m (at_least_branch j k) model) names
    (changes_bounded false (k +ℤ pos 1) j m.variables names bounded) h.1.0 after above h.1.1.1)
    (measure_splits m model names bounded h.0.0 j k (allows_branch m names before h.0.0 j k h.0.1))
  where
    together : {a b p q n : ℕ} → a ≤ p → b ≤ q → p + q ≤ n → a + b ≤ n
    together h g k = omega arith

pub leaves-branches : (node : Node) → leaf_count node ≡ suc (branch_count node)
leaves-branches (leaf c) = refl
leaves-branches left_open = refl
leaves-branches (split j k below above) = omega (arith, leaves-branches below, leaves-branches above)

pub nodes-branches : (node : Node) → node_count node ≡ leaf_count node + branch_count node
nodes-branches (leaf c) = omega arith
nodes-branches left_open = omega arith
nodes-branches (split j k below above) = omega (arith, nodes-branches below, nodes-branches above)

pub length-leaves : (m : RobustModel) (node : Node) → length (leaves m node) ≡ leaf_count node
length-leaves m (leaf c) = refl
length-leaves m left_open = refl
length-leaves m (split j k below above) =
    length-append (leaves (box_below m j k) below) (leaves (box_above m j k) above)
    ∙ ap₂ ◌+◌ (length-leaves (box_below m j k) below) (length-leaves (box_above m j k) above)

-- ---- each branch is on a named variable
pub grows_on : (m : RobustModel) (names : List ℕ) (before after : Search) (node : Node)
    → Grows m names before node after →
    BranchesOn names node
grows_on m names before after (leaf c) h = tt
grows_on m names before after left_open h = tt
grows_on m names before after (split j k below above) h = (
  (broken_is names h.0.0.plan j (asks_branch names m.sense before h.0.0 j k h.0.1.decides).broken).0,
  grows_on (box_below m j k) names before h.1.0 below h.1.1.0,
  grows_on (box_above m j k) names h.1.0 after above h.1.1.1,
)
