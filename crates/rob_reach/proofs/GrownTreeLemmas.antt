-- A tree that has grown keeps what a tree's text keeps: leaves are open in an unbounded tree alone, and the leaf that
-- shows the status is one of them.
use Rattle.std.specs.Prelude.{◌≡◌, ◌<◌, ◌≤◌, ℕ, zero, suc, List, [], ◌∷◌, length, Option, Some, None, refl}
use Rattle.std.proofs.Common.{ap, sym, ◌∙◌, subst, arith}
use Rattle.rob_meaning.specs.Certificates.{Status, optimal, infeasible, unbounded}
use Rattle.rob_meaning.specs.RobustModel.{RobustModel}
use Rattle.rob_meaning.specs.WellFormed.{IsModel}
use Rattle.rob_reach.proofs.GrowingLemmas.{grows_on, length-leaves}
use Rattle.rob_reach.proofs.GrownLemmas.{grown_proves}
use Rattle.rob_reach.proofs.RuleLemmas.{leaves_at_most_1000}
use Rattle.rob_reach.specs.Boxes.{box_below, box_above}
use Rattle.rob_reach.specs.Growing.{Best, Search, start, Grows, tree_by, IsGrown}
use Rattle.rob_reach.specs.Ranges.{whole_rule}
use Rattle.rob_reach.specs.Trees.{Node, leaf, split, left_open, Tree, Leaf, leaves, leaf_count, HasLeaf, IsBestLeaf, IsEndlessLeaf, ShowsStatus}
use Rattle.rob_reach.specs.Verdicts.{IsClosed, KeepsOpen, KeepsBest, IsTree}

different : {i : ℕ} {o : Option ℕ} → o ≡ Some i → o ≡ None → ⊥
different e d = cc

-- once the model is shown to be unbounded, it stays so
stays_endless : (m : RobustModel) (names : List ℕ) (before after : Search) (node : Node)
    → Grows m names before node after →
    (i : ℕ) → before.endless ≡ Some i → after.endless ≡ Some i
stays_endless m names before after (leaf c) h i e = absurd (different e h.going)
stays_endless m names before after (split j k below above) h i e = absurd (different e h.0.1.going)
stays_endless m names before after left_open h i e = ap (λ (s : Search). s.endless) h.1 ∙ e

-- where it isn't shown to be, no leaf is open
grows_closed : (m : RobustModel) (names : List ℕ) (before after : Search) (node : Node)
    → Grows m names before node after →
    after.endless ≡ None → IsClosed node
grows_closed m names before after (leaf c) h none = tt
grows_closed m names before after left_open h none =
    absurd (different (ap (λ (s : Search). s.endless) h.1 ∙ h.0.1) none)
grows_closed m names before after (split j k below above) h none = (
  grows_closed (box_below m j k) names before h.1.0 below h.1.1.0
      (going h.1.0.endless refl (stays_endless (box_above m j k) names h.1.0 after above h.1.1.1)),
  grows_closed (box_above m j k) names h.1.0 after above h.1.1.1 none,
)
  where
    going : (o : Option ℕ) → h.1.0.endless ≡ o → ((i : ℕ) → h.1.0.endless ≡ Some i → after.endless ≡ Some i) →
        h.1.0.endless ≡ None
    going None e f = e
    going (Some i) e f = absurd (different (f i e) none)

has_leaf_within : (P : Leaf → Type 0) (ls : List Leaf) (i : ℕ) → HasLeaf P ls i → (0 < i) × (i ≤ length ls)
has_leaf_within P [] i h = absurd h
has_leaf_within P (l ∷ ls) zero h = absurd h
has_leaf_within P (l ∷ ls) (suc zero) h = (omega arith, omega arith)
has_leaf_within P (l ∷ ls) (suc (suc i)) h = (omega arith, omega (arith, (has_leaf_within P ls (suc i) h).1))

module _ (m : RobustModel) (names : List ℕ) (t : Tree) (h : IsGrown m names t) where
  open_kept : KeepsOpen t.status t.root
  open_kept =
      subst (λ (s : Tree). KeepsOpen s.status t.root) (sym h.finished) (by h.after.endless h.after.best refl)
    where
      by : (e : Option ℕ) (b : Option Best) → h.after.endless ≡ e → KeepsOpen (tree_by e b t.root).status t.root
      by (Some i) b e = tt
      by None (Some b) e = grows_closed m names start h.after t.root h.grows e
      by None None e = grows_closed m names start h.after t.root h.grows e

  best_kept : KeepsBest t.status t.best (leaf_count t.root)
  best_kept =
      subst (λ n. KeepsBest t.status t.best n) (length-leaves m t.root) (by t.status (grown_proves m names t h).shows)
    where
      by : (s : Status) → ShowsStatus s m names t → KeepsBest s t.best (length (leaves m t.root))
      by optimal k = has_leaf_within (IsBestLeaf names t.value) (leaves m t.root) t.best k.1
      by infeasible k = tt
      by unbounded k = has_leaf_within (IsEndlessLeaf names) (leaves m t.root) t.best k

  pub grown_is_tree : IsModel m → whole_rule m names ≡ None → IsTree names t
  grown_is_tree model e =
      record {
        on_names = grows_on m names start h.after t.root h.grows;
        few = (leaves_at_most_1000 m model names e t h).1;
        closed = open_kept;
        best = best_kept;
      }
