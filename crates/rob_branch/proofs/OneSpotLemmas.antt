-- A tree has one verdict, want of memory aside: what two verdicts say of it is the same.
use Rattle.std.proofs.Common.{◌≡◌, ℕ, zero, suc, ◌≤◌, List, [], ◌∷◌, ◌++◌, map, arith, refl, ap, sym, ◌∙◌, subst}
use Rattle.std.specs.Prelude.{Some, IfSome, take}
use Rattle.rob_check.specs.declared.verdict.Verdict.{Verdict}
use Rattle.rob_check.specs.declared.verdict.Verdict.TheVariants as check
use Rattle.rob_meaning.proofs.Lists.EachLemmas.{each_right}
use Rattle.rob_meaning.specs.Certificates.{Certificate}
use Rattle.rob_meaning.specs.Places.{Each}
use Rattle.rob_meaning.specs.RobustModel.{RobustModel}
use Rattle.rob_model.specs.declared.place.Place.{Place}
use Rattle.rob_model.specs.declared.place.Spot.{Spot}
use Rattle.rob_model.specs.declared.place.Spot.TheVariants.{Check}
use Rattle.rob_reach.specs.Boxes as boxes
use Rattle.rob_reach.specs.Trees.{Leaf}
use Rattle.rob_reach.specs.Verdicts.{leaf_at}
use Rattle.rob_sets.specs.FirstWide.{IsFirstWide, IsWideThere, Judged, NothingWide, spot_of}
use Rattle.rob_tree.specs.View.{branch_of}
use Rattle.rob_tree.specs.declared.tree.Branch.{Branch}
use Rattle.rob_branch.specs.Verdicts.{HasVerdict, IsPassed, IsWideInLeaf, checking, writing}
use Rattle.rob_elab.specs.Written.{judged}

-- ---- places in a list
-- the leaf of a number has what holds of each of the first few leaves, where it is one of them
pub at_taken : (P : Leaf → Type 0) (ls : List Leaf) (i k : ℕ) (l : Leaf) → leaf_at ls i ≡ Some l → i ≤ k
    → Each P (take k ls) → P l
at_taken P [] i k l e most h = cc
at_taken P (x ∷ xs) zero k l e most h = cc
at_taken P (x ∷ xs) (suc i) zero l e most h = absurd (omega arith)
at_taken P (x ∷ xs) (suc zero) (suc k) l e most h = let same : x ≡ l = cc in subst P same h.0
at_taken P (x ∷ xs) (suc (suc i)) (suc k) l e most h = at_taken P xs (suc i) k l e (omega arith) h.1

pub one_leaf : (ls : List Leaf) (i j : ℕ) (k l : Leaf) → leaf_at ls i ≡ Some k → leaf_at ls j ≡ Some l → i ≡ j → k ≡ l
one_leaf ls i j k l e f same = cc

-- the branches are those of one path
abbrev declared_of : boxes.Branch → Branch
declared_of b = record { column = b.variable; at_most = b.is_upper; k = b.bound }

pub one_path : (ps qs : List Branch) → map branch_of ps ≡ map branch_of qs → ps ≡ qs
one_path [] [] e = refl
one_path [] (q ∷ qs) e = cc
one_path (p ∷ ps) [] e = cc
one_path (p ∷ ps) (q ∷ qs) e =
    let first : branch_of p ≡ branch_of q = cc in
    let same : p ≡ q = ap declared_of first in
    let rest : map branch_of ps ≡ map branch_of qs = cc in
    ap (λ b. b ∷ ps) same ∙ ap (λ bs. q ∷ bs) (one_path ps qs rest)

-- ---- the first number that is wide
-- a list has one first item with a property, where the items before it have one that excludes it
pub split_once : {A : Type 0} (P Q : A → Type 0) → ((x : A) → P x → Q x → ⊥)
    → (xs ys : List A) (x y : A) (us vs : List A)
    → xs ++ x ∷ us ≡ ys ++ y ∷ vs → Each P xs → Each P ys → Q x → Q y → x ≡ y
split_once P Q apart [] [] x y us vs e hx hy p q = let same : x ≡ y = cc in same
split_once P Q apart [] (z ∷ ys) x y us vs e hx hy p q = let same : x ≡ z = cc in absurd (apart z hy.0 (subst Q same p))
split_once P Q apart (z ∷ xs) [] x y us vs e hx hy p q = let same : y ≡ z = cc in absurd (apart z hx.0 (subst Q same q))
split_once P Q apart (z ∷ xs) (w ∷ ys) x y us vs e hx hy p q =
    let rest : xs ++ x ∷ us ≡ ys ++ y ∷ vs = cc in
    split_once P Q apart xs ys x y us vs rest hx.1 hy.1 p q

module _ (limit : ℕ) (m : RobustModel) (all : List Judged) where
  -- one spot is the first at which a number is wide
  pub first_once : (a b : Spot) → IsFirstWide limit m all a → IsFirstWide limit m all b → a ≡ b
  first_once a b h k =
      let same : h.here ≡ k.here =
      split_once (λ j. IsWideThere limit m j → ⊥) (IsWideThere limit m) (λ j narrow is. narrow is) h.before k.before
      h.here k.here h.after k.after (sym h.order ∙ k.order) h.none_before k.none_before h.wide k.wide
      in
      sym h.named ∙ ap (λ (j : Judged). spot_of j) same ∙ k.named

  -- and there is none where nothing is wide
  pub none_first : (a : Spot) → NothingWide limit m all → IsFirstWide limit m all a → ⊥
  none_first a none h =
      (each_right (λ j. IsWideThere limit m j → ⊥) h.before (h.here ∷ h.after)
      (subst (λ (js : List Judged). NothingWide limit m js) h.order none)).0 h.wide

module _ (limit : ℕ) (l : Leaf) where
  -- one spot is wide for a leaf
  pub one_spot : (a b : Spot) → IsWideInLeaf limit l a → IsWideInLeaf limit l b → a ≡ b
  one_spot a b (writing c some first) (writing d also second) = first_once limit l.box (judged l.box) a b first second
  one_spot a b (writing c some first) (checking d place also has is) =
      absurd (none_first limit l.box (judged l.box) a has.written first)
  one_spot a b (checking c place some has is) (writing d also second) =
      absurd (none_first limit l.box (judged l.box) b has.written second)
  one_spot a b (checking c p some has is) (checking d q also holds names) =
      let same : c ≡ d = cc in
      let both : HasVerdict limit l.box d (check.TooWide p) =
      subst (λ (c : Certificate). HasVerdict limit l.box c (check.TooWide p)) same has
      in
      let verdict : check.TooWide p ≡ check.TooWide q = sym both.verdict ∙ holds.verdict in
      let place : p ≡ q = cc in
      is ∙ ap Check place ∙ sym names

  -- none is wide where the verdict on its certificate is another
  narrow : (v : Verdict) → ((place : Place) → v ≡ check.TooWide place → ⊥) → (spot : Spot) → IsWideInLeaf limit l spot
      → IfSome l.certificate (λ c. HasVerdict limit l.box c v) → ⊥
  narrow v other spot (writing c some first) h =
      let has : HasVerdict limit l.box c v = subst (λ o. IfSome o (λ c. HasVerdict limit l.box c v)) some h in
      none_first limit l.box (judged l.box) spot has.written first
  narrow v other spot (checking c place some wide is) h =
      let has : HasVerdict limit l.box c v = subst (λ o. IfSome o (λ c. HasVerdict limit l.box c v)) some h in
      other place (sym has.verdict ∙ wide.verdict)

  pub passed_narrow : (spot : Spot) → IsWideInLeaf limit l spot → IsPassed limit l → ⊥
  passed_narrow = narrow check.Accepted (λ place e. apart place e)
    where
      apart : (place : Place) → check.Accepted ≡ check.TooWide place → ⊥
      apart place e = cc

  pub rejected_narrow : (at : Place) (spot : Spot) → IsWideInLeaf limit l spot
      → IfSome l.certificate (λ c. HasVerdict limit l.box c (check.Rejected at)) → ⊥
  rejected_narrow at = narrow (check.Rejected at) (λ place e. apart place e)
    where
      apart : (place : Place) → check.Rejected at ≡ check.TooWide place → ⊥
      apart place e = cc

  -- the places of a certificate that is rejected are one
  pub one_place : (c : Certificate) (p q : Place) → l.certificate ≡ Some c
      → IfSome l.certificate (λ c. HasVerdict limit l.box c (check.Rejected p))
      → IfSome l.certificate (λ c. HasVerdict limit l.box c (check.Rejected q)) → p ≡ q
  one_place c p q some h k =
      let a : HasVerdict limit l.box c (check.Rejected p) =
      subst (λ o. IfSome o (λ c. HasVerdict limit l.box c (check.Rejected p))) some h
      in
      let b : HasVerdict limit l.box c (check.Rejected q) =
      subst (λ o. IfSome o (λ c. HasVerdict limit l.box c (check.Rejected q))) some k
      in
      let verdict : check.Rejected p ≡ check.Rejected q = sym a.verdict ∙ b.verdict in
      cc
