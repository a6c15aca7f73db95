-- A tree has one verdict, want of memory aside: accepted, rejected at a condition, or too wide at a spot.
use Rattle.std.proofs.Common.{◌≡◌, ℕ, suc, ◌-◌, ◌<◌, List, [], ◌∷◌, ◌++◌, map, length, length-append, append_assoc, arith, refl, ap, sym, ◌∙◌, subst, ◌⊎◌, inl, inr}
use Rattle.std.proofs.lemmas.Bool.{cases_order}
use Rattle.std.specs.Prelude.{Option, Some, None, IfSome, take}
use Rattle.rob_meaning.proofs.Lists.EachLemmas.{each_append, each_right}
use Rattle.rob_meaning.specs.Certificates.{Certificate, Status, optimal, infeasible, unbounded}
use Rattle.rob_meaning.specs.Places.{Each}
use Rattle.rob_meaning.specs.Proves.{Proves}
use Rattle.rob_meaning.specs.RobustModel.{RobustModel}
use Rattle.rob_meaning.specs.WellFormed.{IsModel}
use Rattle.rob_model.specs.declared.place.Spot.{Spot}
use Rattle.rob_reach.proofs.VerdictLemmas.{conditions_law, one_fault, at_place}
use Rattle.rob_reach.specs.Boxes as boxes
use Rattle.rob_reach.specs.Trees.{Leaf, Tree, IsProved, leaves}
use Rattle.rob_reach.specs.Verdicts.{Condition, Holds, HoldsOf, IsFirstFault, best_conditions, last_conditions, leaf_at, leaf_conditions, tree_conditions, proof, status, value, best, whole}
use Rattle.rob_reach.specs.Verdicts as verdicts
use Rattle.rob_tree.specs.Shape.{HasTreeShape}
use Rattle.rob_tree.specs.View.{branch_of}
use Rattle.rob_tree.specs.declared.tree.Branch.{Branch}
use Rattle.rob_tree.specs.declared.verdict.LeafFault.{LeafFault}
use Rattle.rob_tree.specs.declared.verdict.LeafFault.TheVariants as fault
use Rattle.rob_tree.specs.declared.verdict.TreeVerdict.{TreeVerdict}
use Rattle.rob_tree.specs.declared.verdict.TreeVerdict.TheVariants.{Accepted, Rejected, TooWide, Memory}
use Rattle.rob_branch.proofs.LeafLemmas.{leaf_at_front}
use Rattle.rob_branch.proofs.OneSpotLemmas.{at_taken, one_leaf, one_path, one_place, one_spot, passed_narrow, rejected_narrow}
use Rattle.rob_branch.proofs.VerdictLemmas.{all_leaves, proved, IsLeafOf}
use Rattle.rob_branch.specs.Verdicts.{IsAccepted, IsKept, IsPassed, IsRejectedAt, IsTooWideAt, IsVerdict, IsWideInLeaf, TellsFault, checked_before, path_at, paths}

-- what is told of a leaf whose condition fails is one
one_told : (limit : ℕ) (f : verdicts.LeafFault) (l : Leaf) (a b : LeafFault) → (f ≡ proof → IsProved l → ⊥)
    → TellsFault limit f a l → TellsFault limit f b l → a ≡ b
one_told limit proof l a b fails h k = by l.certificate refl
  where
    by : (o : Option Certificate) → l.certificate ≡ o → a ≡ b
    by None e = absurd (fails refl (subst (λ o. IfSome o (λ c. Proves l.box c)) (sym e) tt))
    by (Some c) e = h.1 ∙ ap fault.At (one_place limit l c h.0 k.0 e h.2 k.2) ∙ sym k.1
one_told limit status l a b fails h k = h.0 ∙ sym k.0
one_told limit value l a b fails h k = h.0 ∙ sym k.0
one_told limit best l a b fails h k = h ∙ sym k
one_told limit whole l a b fails h k = h ∙ sym k

module _ (limit : ℕ) (m : RobustModel) (names : List ℕ) (t : Tree) (model : IsModel m)
    (shape : HasTreeShape limit m names t) where
  abbrev all : List Leaf
  all = leaves m t.root

  -- ---- the leaf of a condition is that of its number
  abbrev IsPlaced : Condition → Type 0
  IsPlaced c = leaf_at all c.number ≡ Some c.leaf

  leaves_placed : (front ls : List Leaf) → all ≡ front ++ ls → Each IsPlaced (leaf_conditions (suc (length front)) ls)
  leaves_placed front [] e = tt
  leaves_placed front (l ∷ ls) e =
      let here : leaf_at all (suc (length front)) ≡ Some l =
      ap (λ ls. leaf_at ls (suc (length front))) e ∙ leaf_at_front front l ls
      in
      let longer : length (front ++ l ∷ []) ≡ suc (length front) = omega (arith, length-append front (l ∷ [])) in (
        here,
        (
          here,
          (
            here,
            subst (λ n. Each IsPlaced (leaf_conditions (suc n) ls)) longer
                (leaves_placed (front ++ l ∷ []) ls (e ∙ sym (append_assoc front (l ∷ []) ls))),
          ),
        ),
      )

  best_placed : (o : Option Leaf) → leaf_at all t.best ≡ o → Each IsPlaced (best_conditions t.best o)
  best_placed None e = tt
  best_placed (Some l) e = (e, (e, tt))

  last_placed : (s : Status) → Each IsPlaced (last_conditions s t.best all)
  last_placed optimal = best_placed (leaf_at all t.best) refl
  last_placed infeasible = tt
  last_placed unbounded = best_placed (leaf_at all t.best) refl

  placed : (c : Condition) → IsFirstFault m names t c → IsPlaced c
  placed c h =
      let each : Each IsPlaced (tree_conditions m t) =
      each_append IsPlaced (leaf_conditions 1 all) (last_conditions t.status t.best all) (leaves_placed [] all refl)
      (last_placed t.status)
      in
      (each_right IsPlaced h.before (c ∷ h.after) (subst (Each IsPlaced) h.stands each)).0

  -- ---- two verdicts of other kinds
  accepted_rejected : (i : ℕ) (told : LeafFault) → IsAccepted limit m names t → IsRejectedAt limit m names t i told → ⊥
  accepted_rejected i told h r =
      let holds : Each (Holds m.sense names t) (tree_conditions m t) =
      (conditions_law m names t shape.tree.closed shape.tree.best).0 h.proves
      in
      r.first.fails (each_right (Holds m.sense names t) r.first.before (r.condition ∷ r.first.after)
      (subst (Each (Holds m.sense names t)) r.first.stands holds)).0

  accepted_wide : (path : List boxes.Branch) (spot : Spot) → IsAccepted limit m names t
      → IsTooWideAt limit m names t path spot → ⊥
  accepted_wide path spot h w = passed_narrow limit w.leaf spot w.wide
      (at_place (IsPassed limit) all w.number w.leaf w.here h.passed)

  module _ (i : ℕ) (told : LeafFault) (path : List boxes.Branch) (spot : Spot) (r : IsRejectedAt limit m names t i told)
      (w : IsTooWideAt limit m names t path spot) where
    here : leaf_at all i ≡ Some r.condition.leaf
    here = subst (λ n. leaf_at all n ≡ Some r.condition.leaf) r.number (placed r.condition r.first)

    is_leaf : IsLeafOf limit m names t model shape r.condition.leaf
    is_leaf =
        at_place (IsLeafOf limit m names t model shape) all i r.condition.leaf here
        (all_leaves limit m names t model shape)

    -- the leaf of the wide number is that of the condition, stands behind it, or before it
    at_leaf : Each (IsPassed limit) (take (i - 1) all) → (IsWideInLeaf limit r.condition.leaf spot → ⊥)
        → (IsKept limit m names t r.condition.leaf → ⊥) → ⊥
    at_leaf before narrow broken = by (cases_order i w.number)
      where
        by : (i ≡ w.number) ⊎ ((i < w.number) ⊎ (w.number < i)) → ⊥
        by (inl e) =
            let same : w.leaf ≡ r.condition.leaf =
            one_leaf all w.number i w.leaf r.condition.leaf w.here here (sym e)
            in
            narrow (subst (λ l. IsWideInLeaf limit l spot) same w.wide)
        by (inr (inl less)) =
            broken (at_taken (IsKept limit m names t) all i (w.number - 1) r.condition.leaf here (omega arith) w.before)
        by (inr (inr more)) =
            passed_narrow limit w.leaf spot w.wide
            (at_taken (IsPassed limit) all w.number (i - 1) w.leaf w.here (omega arith) before)

    clash : (f : verdicts.LeafFault) → TellsFault limit f told r.condition.leaf
        → Each (IsPassed limit) (checked_before f i all)
        → (HoldsOf f m.sense names t.status t.value r.condition.leaf → ⊥) → ⊥
    clash proof tells before fails =
        at_leaf before (λ wide. rejected_narrow limit r.condition.leaf tells.0 spot wide tells.2)
        (λ k. fails (proved limit m names t model shape r.condition.leaf is_leaf k.passed))
    clash status tells before fails =
        at_leaf before (λ wide. passed_narrow limit r.condition.leaf spot wide tells.1) (λ k. fails k.status)
    clash value tells before fails =
        at_leaf before (λ wide. passed_narrow limit r.condition.leaf spot wide tells.1) (λ k. fails k.value)
    clash best tells before fails =
        passed_narrow limit w.leaf spot w.wide (at_place (IsPassed limit) all w.number w.leaf w.here before)
    clash whole tells before fails =
        passed_narrow limit w.leaf spot w.wide (at_place (IsPassed limit) all w.number w.leaf w.here before)

    rejected_wide : ⊥
    rejected_wide = clash r.condition.fault r.tells r.before r.first.fails

  -- ---- two verdicts of one kind
  one_rejection : (i j : ℕ) (a b : LeafFault) → IsRejectedAt limit m names t i a → IsRejectedAt limit m names t j b
      → Rejected i a ≡ Rejected j b
  one_rejection i j a b r q =
      let same : r.condition ≡ q.condition = one_fault m names t r.condition q.condition r.first q.first in
      let number : i ≡ j = sym r.number ∙ ap (λ (c : Condition). c.number) same ∙ q.number in
      let tells : TellsFault limit r.condition.fault b r.condition.leaf =
      subst (λ (c : Condition). TellsFault limit c.fault b c.leaf) (sym same) q.tells
      in
      let told : a ≡ b =
      one_told limit r.condition.fault r.condition.leaf a b
      (λ e p. r.first.fails (subst (λ f. HoldsOf f m.sense names t.status t.value r.condition.leaf) (sym e) p)) r.tells
      tells
      in
      ap (λ n. Rejected n a) number ∙ ap (Rejected j) told

  -- a wide number behind another is one of a leaf that is passed
  later : (p q : List boxes.Branch) (a b : Spot) (w : IsTooWideAt limit m names t p a)
      (v : IsTooWideAt limit m names t q b)
      → w.number < v.number → ⊥
  later p q a b w v less =
      let kept : IsKept limit m names t w.leaf =
      at_taken (IsKept limit m names t) all w.number (v.number - 1) w.leaf w.here (omega arith) v.before
      in
      passed_narrow limit w.leaf a w.wide kept.passed

  one_width : (p q : List Branch) (a b : Spot) → IsTooWideAt limit m names t (map branch_of p) a
      → IsTooWideAt limit m names t (map branch_of q) b → TooWide p a ≡ TooWide q b
  one_width p q a b w v = by (cases_order w.number v.number)
    where
      by : (w.number ≡ v.number) ⊎ ((w.number < v.number) ⊎ (v.number < w.number)) → TooWide p a ≡ TooWide q b
      by (inl e) =
          let leaf : v.leaf ≡ w.leaf = one_leaf all v.number w.number v.leaf w.leaf v.here w.here (sym e) in
          let spot : a ≡ b = one_spot limit w.leaf a b w.wide (subst (λ l. IsWideInLeaf limit l b) leaf v.wide) in
          let path : map branch_of p ≡ map branch_of q = sym w.path_is ∙ ap (path_at (paths [] t.root)) e ∙ v.path_is in
          ap (λ p. TooWide p a) (one_path p q path) ∙ ap (TooWide q) spot
      by (inr (inl less)) = absurd (later (map branch_of p) (map branch_of q) a b w v less)
      by (inr (inr more)) = absurd (later (map branch_of q) (map branch_of p) b a v w more)

  -- ---- so the tree has one verdict
  pub one_verdict : (w v : TreeVerdict) → IsVerdict limit m names t w → IsVerdict limit m names t v
      → (w ≡ v) ⊎ ((w ≡ Memory) ⊎ (v ≡ Memory))
  one_verdict Memory v h k = inr (inl refl)
  one_verdict w Memory h k = inr (inr refl)
  one_verdict Accepted Accepted h k = inl refl
  one_verdict Accepted (Rejected i told) h k = absurd (accepted_rejected i told h k)
  one_verdict Accepted (TooWide path spot) h k = absurd (accepted_wide (map branch_of path) spot h k)
  one_verdict (Rejected i told) Accepted h k = absurd (accepted_rejected i told k h)
  one_verdict (Rejected i a) (Rejected j b) h k = inl (one_rejection i j a b h k)
  one_verdict (Rejected i told) (TooWide path spot) h k = absurd (rejected_wide i told (map branch_of path) spot h k)
  one_verdict (TooWide path spot) Accepted h k = absurd (accepted_wide (map branch_of path) spot k h)
  one_verdict (TooWide path spot) (Rejected i told) h k = absurd (rejected_wide i told (map branch_of path) spot k h)
  one_verdict (TooWide p a) (TooWide q b) h k = inl (one_width p q a b h k)
