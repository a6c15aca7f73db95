-- Tests for worked examples: each gives the fact itself, where it holds of data without variables.
use Rattle.std.proofs.Common.{sym, subst, inl, inr, refl}
use Rattle.std.specs.Prelude.{◌≡◌, ℕ, zero, suc, Bool, true, false, List, [], ◌∷◌, Option, Some, None, IfSome, ◌⊎◌, T}
use Rattle.rob_algebra.specs.Fraction.{Fraction}
use Rattle.rob_meaning.proofs.Conditions.EmptyLemmas.{shows_empty}
use Rattle.rob_meaning.proofs.ByHand.WorkedTests.{test_model, test_admits, test_le, test_same, test_empty, both, so, test_count, test_each, test_proves}
use Rattle.rob_meaning.specs.Certificates.{Status, optimal, infeasible, unbounded, Certificate}
use Rattle.rob_meaning.specs.Guarantee.{IsNoWorse}
use Rattle.rob_meaning.specs.Places.{at}
use Rattle.rob_meaning.specs.Proves.{Proves}
use Rattle.rob_meaning.specs.RobustModel.{Sense, minimise, maximise, RobustModel}
use Rattle.rob_meaning.specs.UncertaintySet.{Admits, IsEmptySet}
use Rattle.rob_meaning.specs.WellFormed.{IsModel}
use Rattle.rob_reach.proofs.TreeLemmas.{tree_true}
use Rattle.rob_reach.specs.Ranges.{are_bounded}
use Rattle.rob_reach.specs.Trees.{Leaf, leaves, Node, leaf, split, left_open, Tree, IsIn, BranchesOn, HasLeaf, IsProved, IsInfeasibleLeaf, IsNoBetterLeaf, IsBestLeaf, IsEndlessLeaf, ShowsStatus, ProvesTree}
use Rattle.rob_reach.specs.WholeStatus.{IsWholeOn, HasWholeStatus}

abbrev either : {A B : Type 0} → Option A → Option B → Option (A ⊎ B)
either None None = None
either None (Some y) = Some (inr y)
either (Some x) o = Some (inl x)

module _ (m : RobustModel) where
  -- the scenario is admitted, where the model is well formed
  abbrev with_model_admitted : (u : List Fraction) → Option (IsModel m) → Option (Admits m u)
  with_model_admitted u None = None
  with_model_admitted u (Some model) = test_admits m model u

  abbrev pub test_admitted : (u : List Fraction) → Option (Admits m u)
  test_admitted u = with_model_admitted u (test_model m)

  -- the set is empty, where the weights show it
  abbrev with_model_empty : (weights : List Fraction) → Option (IsModel m) → Option (IsEmptySet m)
  with_model_empty weights None = None
  with_model_empty weights (Some model) = so (λ h. shows_empty m model weights h) (test_empty m weights)

  abbrev pub test_empty_set : (weights : List Fraction) → Option (IsEmptySet m)
  test_empty_set weights = with_model_empty weights (test_model m)

-- ---- trees
abbrev test_in : (j : ℕ) (names : List ℕ) → Option (IsIn j names)
test_in j [] = None
test_in j (i ∷ names) = either (test_count j i) (test_in j names)

abbrev test_branches : (names : List ℕ) (node : Node) → Option (BranchesOn names node)
test_branches names (leaf c) = Some tt
test_branches names left_open = Some tt
test_branches names (split j k below above) =
    so (λ h. (h.0, h.1.0, h.1.1))
    (both (test_in j names) (both (test_branches names below) (test_branches names above)))

abbrev test_whole : (names : List ℕ) (plan : List Fraction) → Option (IsWholeOn names plan)
test_whole names plan = test_each (λ k. (at plan k).den ≡ 1) (λ k. test_count (at plan k).den 1) names

abbrev test_status : (s t : Status) → Option (s ≡ t)
test_status optimal optimal = Some refl
test_status infeasible infeasible = Some refl
test_status unbounded unbounded = Some refl
test_status s t = None

abbrev test_no_worse : (sense : Sense) (a b : Fraction) → Option (IsNoWorse sense a b)
test_no_worse minimise a b = test_le a b
test_no_worse maximise a b = test_le b a

abbrev test_certified : (P : Leaf → Type 0) (l : Leaf)
    → ((c : Certificate) → l.certificate ≡ Some c → Option (P l)) → Option (P l)
test_certified P l test = by l.certificate refl
  where
    by : (o : Option Certificate) → l.certificate ≡ o → Option (P l)
    by None e = None
    by (Some c) e = test c e

abbrev pub test_proved : (l : Leaf) → Option (IsProved l)
test_proved l = by l.certificate
  where
    by : (o : Option Certificate) → Option (IfSome o (λ c. Proves l.box c))
    by None = Some tt
    by (Some c) = test_proves l.box c

abbrev test_infeasible_leaf : (l : Leaf) → Option (IsInfeasibleLeaf l)
test_infeasible_leaf l =
    test_certified IsInfeasibleLeaf l (λ c e. so (λ h. (c, e, h)) (test_status c.status infeasible))

abbrev test_no_better : (sense : Sense) (v : Fraction) (l : Leaf) → Option (IsNoBetterLeaf sense v l)
test_no_better sense v l =
    test_certified (IsNoBetterLeaf sense v) l
    (λ c e. so (λ h. (c, e, h))
    (either (test_status c.status infeasible) (both (test_status c.status optimal) (test_no_worse sense v c.value))))

abbrev test_best : (names : List ℕ) (v : Fraction) (l : Leaf) → Option (IsBestLeaf names v l)
test_best names v l =
    test_certified (IsBestLeaf names v) l
    (λ c e. so (λ h. record { certificate = c; here = e; status = h.0; value = h.1.0; whole = h.1.1 })
    (both (test_status c.status optimal) (both (test_same c.value v) (test_whole names c.plan))))

abbrev test_endless : (names : List ℕ) (l : Leaf) → Option (IsEndlessLeaf names l)
test_endless names l =
    test_certified (IsEndlessLeaf names) l
    (λ c e. so (λ h. record { certificate = c; here = e; status = h.0; whole = h.1 })
    (both (test_status c.status unbounded) (test_whole names c.plan)))

abbrev test_leaf : (P : Leaf → Type 0) → ((l : Leaf) → Option (P l)) → (ls : List Leaf) (i : ℕ)
    → Option (HasLeaf P ls i)
test_leaf P test [] i = None
test_leaf P test (l ∷ ls) zero = None
test_leaf P test (l ∷ ls) (suc zero) = test l
test_leaf P test (l ∷ ls) (suc (suc i)) = test_leaf P test ls (suc i)

module _ (m : RobustModel) (names : List ℕ) (t : Tree) where
  abbrev test_shows : (s : Status) → Option (ShowsStatus s m names t)
  test_shows optimal =
      both (test_each (IsNoBetterLeaf m.sense t.value) (test_no_better m.sense t.value) (leaves m t.root))
      (test_leaf (IsBestLeaf names t.value) (test_best names t.value) (leaves m t.root) t.best)
  test_shows infeasible = test_each IsInfeasibleLeaf test_infeasible_leaf (leaves m t.root)
  test_shows unbounded = test_leaf (IsEndlessLeaf names) (test_endless names) (leaves m t.root) t.best

  -- the tree proves
  abbrev pub test_tree : Option (ProvesTree m names t)
  test_tree =
      so (λ h. record { proved = h.0; shows = h.1 })
      (both (test_each IsProved test_proved (leaves m t.root)) (test_shows t.status))

  abbrev with_all : (b : Bool) → are_bounded m.variables names ≡ b → Option (IsModel m)
      → Option (BranchesOn names t.root) →
      Option (ProvesTree m names t) → Option (HasWholeStatus m names t.status t.value)
  with_all false e model on h = None
  with_all true e None on h = None
  with_all true e (Some model) None h = None
  with_all true e (Some model) (Some on) None = None
  with_all true e (Some model) (Some on) (Some h) = Some (tree_true m model names (subst T (sym e) tt) t on h)

  -- what the tree claims, where it proves
  abbrev pub test_tree_status : Option (HasWholeStatus m names t.status t.value)
  test_tree_status = with_all (are_bounded m.variables names) refl (test_model m) (test_branches names t.root) test_tree
