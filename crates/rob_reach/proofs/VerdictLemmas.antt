-- A tree proves exactly where all its conditions hold.
use Rattle.std.specs.Prelude.{◌≡◌, ◌<◌, ◌≤◌, ℕ, zero, suc, List, [], ◌∷◌, ◌++◌, length, Option, Some, None, IfSome, ◌⊎◌, ◌↔◌, refl}
use Rattle.std.proofs.Common.{sym, ◌∙◌, subst, inl, inr, arith}
use Rattle.rob_algebra.specs.Fraction.{Fraction}
use Rattle.rob_meaning.specs.Certificates.{Certificate, Status, optimal, infeasible, unbounded}
use Rattle.rob_meaning.specs.Guarantee.{IsNoWorse}
use Rattle.rob_meaning.specs.Places.{Each}
use Rattle.rob_meaning.specs.RobustModel.{RobustModel, Sense}
use Rattle.rob_reach.proofs.GrowingLemmas.{length-leaves}
use Rattle.rob_reach.specs.Boxes.{box_below, box_above}
use Rattle.rob_reach.specs.Trees.{Node, leaf, split, left_open, Tree, Leaf, leaves, leaf_count, HasLeaf, IsProved, IsInfeasibleLeaf, IsNoBetterLeaf, IsBestLeaf, IsEndlessLeaf, ShowsStatus, ProvesTree}
use Rattle.rob_reach.specs.Verdicts.{IsTree, IsFirstFault, IsClosed, KeepsOpen, KeepsBest, status, value, best, whole, Condition, leaf_at, leaf_conditions, best_conditions, last_conditions, tree_conditions, MayBe, KeepsValue, HoldsOf, Holds}
use Rattle.rob_reach.specs.WholeStatus.{IsWholeOn}
use Rattle.rob_meaning.proofs.Lists.EachLemmas.{each_append, each_left, each_right}

-- the leaf isn't open
abbrev HasCertificate : Leaf → Type 0
HasCertificate l = (c : Certificate) × (l.certificate ≡ Some c)

closed_leaves : (m : RobustModel) (node : Node) → IsClosed node → Each HasCertificate (leaves m node)
closed_leaves m (leaf c) h = ((c, refl), tt)
closed_leaves m left_open h = absurd h
closed_leaves m (split j k below above) h =
    each_append HasCertificate (leaves (box_below m j k) below) (leaves (box_above m j k) above)
    (closed_leaves (box_below m j k) below h.0) (closed_leaves (box_above m j k) above h.1)

-- the leaf of a number has what holds of each leaf
pub at_place : (P : Leaf → Type 0) (ls : List Leaf) (i : ℕ) (l : Leaf) → leaf_at ls i ≡ Some l → Each P ls → P l
at_place P [] i l e h = cc
at_place P (x ∷ xs) zero l e h = cc
at_place P (x ∷ xs) (suc zero) l e h = let same : x ≡ l = cc in subst P same h.0
at_place P (x ∷ xs) (suc (suc i)) l e h = at_place P xs (suc i) l e h.1

module _ (sense : Sense) (names : List ℕ) (v : Fraction) where
  -- a leaf's three conditions, as those of a list
  abbrev parts : Status → Condition → Type 0
  parts claimed c = HoldsOf c.fault sense names claimed v c.leaf

  of_leaves : (claimed : Status) (P : Leaf → Type 0)
      → ((l : Leaf) → P l → IsProved l → HoldsOf status sense names claimed v l
      × HoldsOf value sense names claimed v l) → (i : ℕ) (ls : List Leaf) → Each IsProved ls → Each P ls →
      Each (parts claimed) (leaf_conditions i ls)
  of_leaves claimed P f i [] h k = tt
  of_leaves claimed P f i (l ∷ ls) h k =
      (h.0, ((f l k.0 h.0).0, ((f l k.0 h.0).1, of_leaves claimed P f (suc i) ls h.1 k.1)))

  proved_of : (claimed : Status) (i : ℕ) (ls : List Leaf)
      → Each (parts claimed) (leaf_conditions i ls) → Each IsProved ls
  proved_of claimed i [] h = tt
  proved_of claimed i (l ∷ ls) h = (h.0, proved_of claimed (suc i) ls h.1.1.1)

  to_leaves : (claimed : Status) (P : Leaf → Type 0)
      → ((l : Leaf) → HasCertificate l → HoldsOf status sense names claimed v l →
      HoldsOf value sense names claimed v l → P l) → (i : ℕ) (ls : List Leaf) → Each HasCertificate ls →
      Each (parts claimed) (leaf_conditions i ls) → Each P ls
  to_leaves claimed P f i [] c h = tt
  to_leaves claimed P f i (l ∷ ls) c h = (f l c.0 h.1.0 h.1.1.0, to_leaves claimed P f (suc i) ls c.1 h.1.1.1)

  -- ---- one leaf
  no_better_out : (l : Leaf) → IsNoBetterLeaf sense v l → IsProved l →
      HoldsOf status sense names optimal v l × HoldsOf value sense names optimal v l
  no_better_out l h p = (
    subst (λ o. IfSome o (λ c. MayBe optimal c.status)) (sym h.1) (may h.0 h.2),
    subst (λ o. IfSome o (λ c. KeepsValue optimal sense v c)) (sym h.1) (keeps h.0 h.2),
  )
    where
      may : (c : Certificate) → (c.status ≡ infeasible) ⊎ ((c.status ≡ optimal) × IsNoWorse sense v c.value) →
          (c.status ≡ infeasible) ⊎ (c.status ≡ optimal)
      may c (inl e) = inl e
      may c (inr e) = inr e.0

      keeps : (c : Certificate) → (c.status ≡ infeasible) ⊎ ((c.status ≡ optimal) × IsNoWorse sense v c.value) →
          c.status ≡ optimal → IsNoWorse sense v c.value
      keeps c (inl e) d = absurd (apart (sym e ∙ d))
        where
          apart : infeasible ≡ optimal → ⊥
          apart e = cc
      keeps c (inr e) d = e.1

  no_better_in : (l : Leaf) → HasCertificate l → HoldsOf status sense names optimal v l
      → HoldsOf value sense names optimal v l →
      IsNoBetterLeaf sense v l
  no_better_in l c h k = (
    c.0,
    c.1,
    by c.0 (subst (λ o. IfSome o (λ c. MayBe optimal c.status)) c.1 h)
        (subst (λ o. IfSome o (λ c. KeepsValue optimal sense v c)) c.1 k),
  )
    where
      by : (c : Certificate) → (c.status ≡ infeasible) ⊎ (c.status ≡ optimal)
          → (c.status ≡ optimal → IsNoWorse sense v c.value) →
          (c.status ≡ infeasible) ⊎ ((c.status ≡ optimal) × IsNoWorse sense v c.value)
      by c (inl e) f = inl e
      by c (inr e) f = inr (e, f e)

  infeasible_out : (l : Leaf) → IsInfeasibleLeaf l → IsProved l →
      HoldsOf status sense names infeasible v l × HoldsOf value sense names infeasible v l
  infeasible_out l h p = (
    subst (λ o. IfSome o (λ c. MayBe infeasible c.status)) (sym h.1) h.2,
    nothing l.certificate,
  )
    where
      nothing : (o : Option Certificate) → IfSome o (λ c. KeepsValue infeasible sense v c)
      nothing None = tt
      nothing (Some c) = tt

  infeasible_in : (l : Leaf) → HasCertificate l → HoldsOf status sense names infeasible v l →
      HoldsOf value sense names infeasible v l → IsInfeasibleLeaf l
  infeasible_in l c h k = (c.0, c.1, subst (λ o. IfSome o (λ c. MayBe infeasible c.status)) c.1 h)

  -- an unbounded tree asks nothing more of its leaves
  unbounded_out : (l : Leaf) → Unit {0} → IsProved l →
      HoldsOf status sense names unbounded v l × HoldsOf value sense names unbounded v l
  unbounded_out l h p = by l.certificate
    where
      by : (o : Option Certificate) →
          IfSome o (λ c. MayBe unbounded c.status) × IfSome o (λ c. KeepsValue unbounded sense v c)
      by None = (tt, tt)
      by (Some c) = (tt, tt)

  any_each : (ls : List Leaf) → Each (λ l. Unit {0}) ls
  any_each [] = tt
  any_each (l ∷ ls) = (tt, any_each ls)

  best_leaf_out : (l : Leaf) → IsBestLeaf names v l →
      HoldsOf best sense names optimal v l × HoldsOf whole sense names optimal v l
  best_leaf_out l h = (
    (h.certificate, (h.here, (h.status, h.value))),
    subst (λ o. IfSome o (λ c. IsWholeOn names c.plan)) (sym h.here) h.whole,
  )

  best_leaf_in : (l : Leaf) → HoldsOf best sense names optimal v l
      → HoldsOf whole sense names optimal v l → IsBestLeaf names v l
  best_leaf_in l h k =
      record {
        certificate = h.0;
        here = h.1.0;
        status = h.1.1.0;
        value = h.1.1.1;
        whole = subst (λ o. IfSome o (λ c. IsWholeOn names c.plan)) h.1.0 k;
      }

  endless_leaf_out : (l : Leaf) → IsEndlessLeaf names l →
      HoldsOf best sense names unbounded v l × HoldsOf whole sense names unbounded v l
  endless_leaf_out l h = (
    (h.certificate, (h.here, h.status)),
    subst (λ o. IfSome o (λ c. IsWholeOn names c.plan)) (sym h.here) h.whole,
  )

  endless_leaf_in : (l : Leaf) → HoldsOf best sense names unbounded v l → HoldsOf whole sense names unbounded v l →
      IsEndlessLeaf names l
  endless_leaf_in l h k =
      record {
        certificate = h.0;
        here = h.1.0;
        status = h.1.1;
        whole = subst (λ o. IfSome o (λ c. IsWholeOn names c.plan)) h.1.0 k;
      }

  -- ---- the leaf that shows the status
  best_out : (claimed : Status) (P : Leaf → Type 0) → ((l : Leaf) → P l → HoldsOf best sense names claimed v l
      × HoldsOf whole sense names claimed v l) → (n i : ℕ) (ls : List Leaf) → HasLeaf P ls i →
      Each (parts claimed) (best_conditions n (leaf_at ls i))
  best_out claimed P f n i [] h = absurd h
  best_out claimed P f n zero (l ∷ ls) h = absurd h
  best_out claimed P f n (suc zero) (l ∷ ls) h = ((f l h).0, ((f l h).1, tt))
  best_out claimed P f n (suc (suc i)) (l ∷ ls) h = best_out claimed P f n (suc i) ls h

  best_in : (claimed : Status) (P : Leaf → Type 0) → ((l : Leaf) → HoldsOf best sense names claimed v l →
      HoldsOf whole sense names claimed v l → P l) → (n i : ℕ) (ls : List Leaf) → 0 < i → i ≤ length ls →
      Each (parts claimed) (best_conditions n (leaf_at ls i)) → HasLeaf P ls i
  best_in claimed P f n zero ls some most h = absurd (omega arith)
  best_in claimed P f n (suc i) [] some most h = absurd (omega arith)
  best_in claimed P f n (suc zero) (l ∷ ls) some most h = f l h.0 h.1.0
  best_in claimed P f n (suc (suc i)) (l ∷ ls) some most h =
      best_in claimed P f n (suc i) ls (omega arith) (omega arith) h

-- a tree proves exactly where its conditions hold
module _ (m : RobustModel) (names : List ℕ) (t : Tree) (closed : KeepsOpen t.status t.root)
    (within : KeepsBest t.status t.best (leaf_count t.root)) where
  conditions_hold : ProvesTree m names t → Each (Holds m.sense names t) (tree_conditions m t)
  conditions_hold h = by t.status h.shows
    where
      by : (s : Status) → ShowsStatus s m names t →
          Each (parts m.sense names t.value s)
          (leaf_conditions 1 (leaves m t.root) ++ last_conditions s t.best (leaves m t.root))
      by optimal k =
          each_append (parts m.sense names t.value optimal) (leaf_conditions 1 (leaves m t.root))
          (last_conditions optimal t.best (leaves m t.root))
          (of_leaves m.sense names t.value optimal (IsNoBetterLeaf m.sense t.value)
          (no_better_out m.sense names t.value) 1
          (leaves m t.root) h.proved k.0)
          (best_out m.sense names t.value optimal (IsBestLeaf names t.value)
          (best_leaf_out m.sense names t.value) t.best t.best
          (leaves m t.root) k.1)
      by infeasible k =
          each_append (parts m.sense names t.value infeasible) (leaf_conditions 1 (leaves m t.root)) []
          (of_leaves m.sense names t.value infeasible IsInfeasibleLeaf (infeasible_out m.sense names t.value) 1
          (leaves m t.root) h.proved k)
          tt
      by unbounded k =
          each_append (parts m.sense names t.value unbounded) (leaf_conditions 1 (leaves m t.root))
          (last_conditions unbounded t.best (leaves m t.root))
          (of_leaves m.sense names t.value unbounded (λ l. Unit {0})
          (unbounded_out m.sense names t.value) 1 (leaves m t.root)
          h.proved (any_each m.sense names t.value (leaves m t.root)))
          (best_out m.sense names t.value unbounded (IsEndlessLeaf names)
          (endless_leaf_out m.sense names t.value) t.best t.best
          (leaves m t.root) k)

  proves_by_conditions : Each (Holds m.sense names t) (tree_conditions m t) → ProvesTree m names t
  proves_by_conditions h =
      record {
        proved =
            proved_of m.sense names t.value t.status 1 (leaves m t.root)
            (each_left (parts m.sense names t.value t.status) (leaf_conditions 1 (leaves m t.root))
            (last_conditions t.status t.best (leaves m t.root)) h);
        shows = by t.status closed within h;
      }
    where
      by : (s : Status) → KeepsOpen s t.root → KeepsBest s t.best (leaf_count t.root) →
          Each (parts m.sense names t.value s)
          (leaf_conditions 1 (leaves m t.root) ++ last_conditions s t.best (leaves m t.root)) →
          ShowsStatus s m names t
      by optimal c w k = (
        to_leaves m.sense names t.value optimal (IsNoBetterLeaf m.sense t.value) (no_better_in m.sense names t.value) 1
            (leaves m t.root) (closed_leaves m t.root c)
            (each_left (parts m.sense names t.value optimal) (leaf_conditions 1 (leaves m t.root))
            (last_conditions optimal t.best (leaves m t.root)) k),
        best_in m.sense names t.value optimal (IsBestLeaf names t.value)
            (best_leaf_in m.sense names t.value) t.best t.best
            (leaves m t.root) w.0 (subst (λ n. t.best ≤ n) (sym (length-leaves m t.root)) w.1)
            (each_right (parts m.sense names t.value optimal) (leaf_conditions 1 (leaves m t.root))
            (last_conditions optimal t.best (leaves m t.root)) k),
      )
      by infeasible c w k =
          to_leaves m.sense names t.value infeasible IsInfeasibleLeaf
          (infeasible_in m.sense names t.value) 1 (leaves m t.root)
          (closed_leaves m t.root c)
          (each_left (parts m.sense names t.value infeasible) (leaf_conditions 1 (leaves m t.root)) [] k)
      by unbounded c w k =
          best_in m.sense names t.value unbounded (IsEndlessLeaf names)
          (endless_leaf_in m.sense names t.value) t.best t.best
          (leaves m t.root) w.0 (subst (λ n. t.best ≤ n) (sym (length-leaves m t.root)) w.1)
          (each_right (parts m.sense names t.value unbounded) (leaf_conditions 1 (leaves m t.root))
          (last_conditions unbounded t.best (leaves m t.root)) k)

  pub conditions_law : ProvesTree m names t ↔ Each (Holds m.sense names t) (tree_conditions m t)
  conditions_law = (conditions_hold, proves_by_conditions)

-- ---- the first condition that fails
first_of : (P : Condition → Type 0) (xs ys zs ws : List Condition) (x y : Condition) → xs ++ x ∷ zs ≡ ys ++ y ∷ ws →
    Each P xs → Each P ys → (P x → ⊥) → (P y → ⊥) → x ≡ y
first_of P [] [] zs ws x y e h k f g = cc
first_of P [] (b ∷ ys) zs ws x y e h k f g = absurd (f (subst P (first_same e) k.0))
  where
    first_same : {a b : Condition} {as_ bs : List Condition} → a ∷ as_ ≡ b ∷ bs → b ≡ a
    first_same e = cc
first_of P (a ∷ xs) [] zs ws x y e h k f g = absurd (g (subst P (first_same e) h.0))
  where
    first_same : {a b : Condition} {as_ bs : List Condition} → a ∷ as_ ≡ b ∷ bs → a ≡ b
    first_same e = cc
first_of P (a ∷ xs) (b ∷ ys) zs ws x y e h k f g = first_of P xs ys zs ws x y (rest_same e) h.1 k.1 f g
  where
    rest_same : {a b : Condition} {as_ bs : List Condition} → a ∷ as_ ≡ b ∷ bs → as_ ≡ bs
    rest_same e = cc

-- a tree has one such at most
pub one_fault : (m : RobustModel) (names : List ℕ) (t : Tree) (c d : Condition) → IsFirstFault m names t c →
    IsFirstFault m names t d → c ≡ d
one_fault m names t c d h k =
    first_of (Holds m.sense names t) h.before k.before h.after k.after c d (sym h.stands ∙ k.stands)
    h.hold k.hold h.fails k.fails

-- and none where it proves
pub fault_refuses : (m : RobustModel) (names : List ℕ) (t : Tree) → IsTree names t → (c : Condition) →
    IsFirstFault m names t c → ProvesTree m names t → ⊥
fault_refuses m names t kept c h proves =
    h.fails (each_right (Holds m.sense names t) h.before (c ∷ h.after)
    (subst (λ cs. Each (Holds m.sense names t) cs) h.stands (conditions_hold m names t kept.closed kept.best proves))).0
