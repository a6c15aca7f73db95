-- The leaf that shows the status of a tree that proves: its certificate, its plan, and what is printed of it.
use Rattle.std.proofs.Common.{◌≡◌, ◌≢◌, ℕ, zero, suc, ◌+◌, ◌<◌, ◌^◌, List, [], ◌∷◌, ◌++◌, Option, Some, None, IfSome, Result, Ok, Err, IfOk, codes, refl, sym, ◌∙◌, ap, subst, arith}
use Rattle.rob_cert.specs.Shape.{HasShape}
use Rattle.rob_meaning.proofs.Lists.EachLemmas.{each_append}
use Rattle.rob_meaning.specs.Certificates.{Certificate, Status, optimal, infeasible, unbounded}
use Rattle.rob_meaning.specs.Places.{Each}
use Rattle.rob_meaning.specs.Proves.{Proves}
use Rattle.rob_meaning.specs.RobustModel.{RobustModel}
use Rattle.rob_meaning.specs.WellFormed.{IsModel}
use Rattle.rob_reach.proofs.GrowingLemmas.{length-leaves}
use Rattle.rob_reach.proofs.TreeLemmas.{IsBoxOf, leaves_boxed}
use Rattle.rob_reach.proofs.VerdictLemmas.{at_place}
use Rattle.rob_reach.specs.Boxes.{box_above, box_below}
use Rattle.rob_reach.specs.Trees.{HasLeaf, IsBestLeaf, IsEndlessLeaf, IsProved, Leaf, Node, ProvesTree, ShowsStatus, Tree, branch_count, leaf, leaf_count, node_count, leaves, left_open, split}
use Rattle.rob_reach.specs.Verdicts.{Shows, leaf_at}
use Rattle.rob_reach.specs.WholeStatus.{IsWholeOn}
use Rattle.rob_tree.proofs.BoxShapes.SpelledLemmas.{tree_spelled}
use Rattle.rob_tree.specs.Shape.{IsTreeOf}
use Rattle.rob_tree.specs.TreeText.{IsSpelledWith}
use Rattle.rob_commands.proofs.NodeLemmas.{leaf_has, leaf_here, leaf_some, leaf_within}
use Rattle.rob_commands.proofs.PlanLemmas.{proved_bound}
use Rattle.rob_number.specs.declared.memory.Memory.{Memory as Want}
use Rattle.rob_report.specs.Lines.{line}
use Rattle.rob_report.specs.Report.{report_of}
use Rattle.rob_commands.specs.TreeReport.{IsPlanText, IsReport, IsShownBy, nodes_line}

leaf_map : (P Q : Leaf → Type 0) → ((l : Leaf) → P l → Q l) → (ls : List Leaf) (i : ℕ) → HasLeaf P ls i → HasLeaf Q ls i
leaf_map P Q f [] i h = absurd h
leaf_map P Q f (l ∷ ls) zero h = absurd h
leaf_map P Q f (l ∷ ls) (suc zero) h = f l h
leaf_map P Q f (l ∷ ls) (suc (suc i)) h = leaf_map P Q f ls (suc i) h

-- each certificate of a tree has the shape of the model
spelled_leaves : (limit : ℕ) (m box : RobustModel) (node : Node) → IsSpelledWith limit m node
    → Each (λ l. IfSome l.certificate (HasShape m)) (leaves box node)
spelled_leaves limit m box (leaf c) h = (h, tt)
spelled_leaves limit m box (split j k below above) h =
    each_append (λ l. IfSome l.certificate (HasShape m)) (leaves (box_below box j k) below)
    (leaves (box_above box j k) above)
    (spelled_leaves limit m (box_below box j k) below h.2) (spelled_leaves limit m (box_above box j k) above h.3)
spelled_leaves limit m box left_open h = (tt, tt)

pub shown_shape : (limit : ℕ) (m : RobustModel) (t : Tree) → IsTreeOf limit m t → (i : ℕ) (l : Leaf) (c : Certificate)
    → leaf_at (leaves m t.root) i ≡ Some l → l.certificate ≡ Some c → HasShape m c
shown_shape limit m t is i l c here has =
    subst (λ (o : Option Certificate). IfSome o (HasShape m)) has
    (at_place (λ x. IfSome x.certificate (HasShape m)) (leaves m t.root) i l here
    (spelled_leaves limit m m t.root (tree_spelled limit m t is)))

-- what such a leaf shows
abbrev Showing : List ℕ → Tree → Status → Leaf → Type 0
Showing names t s l =
    (c : Certificate) × (l.certificate ≡ Some c) × Shows s t.value c × IsWholeOn names c.plan

module _ (m : RobustModel) (names : List ℕ) (t : Tree) (proves : ProvesTree m names t)
    (some : t.status ≢ infeasible) where
  showing : HasLeaf (Showing names t t.status) (leaves m t.root) t.best
  showing = by t.status refl proves.shows
    where
      by : (s : Status) → t.status ≡ s → ShowsStatus s m names t → HasLeaf (Showing names t s) (leaves m t.root) t.best
      by optimal e h =
          leaf_map (IsBestLeaf names t.value) (Showing names t optimal)
          (λ l k. (k.certificate, k.here, (k.status, k.value), k.whole)) (leaves m t.root) t.best h.1
      by infeasible e h = absurd (some e)
      by unbounded e h =
          leaf_map (IsEndlessLeaf names) (Showing names t unbounded)
          (λ l k. (k.certificate, k.here, k.status, k.whole)) (leaves m t.root) t.best h

  there : (l : Leaf) × (leaf_at (leaves m t.root) t.best ≡ Some l) × Showing names t t.status l
  there = leaf_here (Showing names t t.status) (leaves m t.root) t.best showing

  pub best_some : 0 < t.best
  best_some = leaf_some (leaves m t.root) t.best there.0 there.1

  pub best_not_behind : (left : ℕ) → t.best ≡ leaf_count t.root + left → 0 < left → ⊥
  best_not_behind left e more =
      leaf_within (leaves m t.root) t.best there.0 there.1 left
      (e ∙ ap (λ count. count + left) (sym (length-leaves m t.root))) more

  same_leaf : (l : Leaf) → leaf_at (leaves m t.root) t.best ≡ Some l → there.0 ≡ l
  same_leaf l here = let both : Some there.0 ≡ Some l = sym there.1 ∙ here in cc

  shown_at : (l : Leaf) → leaf_at (leaves m t.root) t.best ≡ Some l → Showing names t t.status l
  shown_at l here = subst (Showing names t t.status) (same_leaf l here) there.2

  pub best_not_open : (l : Leaf) → leaf_at (leaves m t.root) t.best ≡ Some l → l.certificate ≡ None → ⊥
  best_not_open l here none =
      let h = shown_at l here in let no : None ≡ Some h.0 = sym none ∙ h.1 in cc

  module _ (model : IsModel m) (c : Certificate) (l : Leaf) (here : leaf_at (leaves m t.root) t.best ≡ Some l)
      (has : l.certificate ≡ Some c) where
    same_certificate : (shown_at l here).0 ≡ c
    same_certificate = let both : Some (shown_at l here).0 ≡ Some c = sym (shown_at l here).1 ∙ has in cc

    shows : Shows t.status t.value c
    shows = subst (λ (d : Certificate). Shows t.status t.value d) same_certificate (shown_at l here).2

    planned : c.status ≢ infeasible
    planned = by t.status refl shows
      where
        by : (s : Status) → t.status ≡ s → Shows s t.value c → c.status ≢ infeasible
        by optimal e h d = let no : optimal ≡ infeasible = sym h.0 ∙ d in cc
        by infeasible e h d = some e
        by unbounded e h d = let no : unbounded ≡ infeasible = sym h ∙ d in cc

    box_of : IsBoxOf m l
    box_of = at_place (IsBoxOf m) (leaves m t.root) t.best l here (leaves_boxed m t.root)

    proved : Proves l.box c
    proved =
        subst (λ (o : Option Certificate). IfSome o (λ d. Proves l.box d)) has
        (at_place IsProved (leaves m t.root) t.best l here proves.proved)

    pub shown : IsShownBy m names t c
    shown = record {
      here = leaf_has (λ x. x.certificate ≡ Some c) (leaves m t.root) t.best l here has;
      shows = shows;
      kept = record {
        bound = box_of.bound c.plan c.value (proved_bound l.box (box_of.model model) c proved planned);
        whole = subst (λ (d : Certificate). IsWholeOn names d.plan) same_certificate (shown_at l here).3;
      };
    }

-- ---- what is printed
module _ (m : RobustModel) (names : List ℕ) (t : Tree) where
  abbrev IsShownText : List ℕ → Type 0
  IsShownText text = (c : Certificate) × IsShownBy m names t c × (text ≡ report_of m c)

  pub optimal_plan : (s : Status) (r : Result (List ℕ) Want) → s ≡ optimal → IfOk r IsShownText
      → IfOk r (IsPlanText m names t s)
  optimal_plan s (Err want) e h = tt
  optimal_plan s (Ok text) e h = subst (λ (x : Status). IsPlanText m names t x text) (sym e) h

  pub unbounded_plan : (s : Status) (r : Result (List ℕ) Want) → s ≡ unbounded → IfOk r IsShownText
      → IfOk r (IsPlanText m names t s)
  unbounded_plan s (Err want) e h = tt
  unbounded_plan s (Ok text) e h = subst (λ (x : Status). IsPlanText m names t x text) (sym e) h

  pub infeasible_plan : (s : Status) (r : Result (List ℕ) Want) → s ≡ infeasible
      → IfOk r (λ text. text ≡ line (codes "infeasible"))
      → IfOk r (IsPlanText m names t s)
  infeasible_plan s (Err want) e h = tt
  infeasible_plan s (Ok text) e h = subst (λ (x : Status). IsPlanText m names t x text) (sym e) h

  pub shown_report : (proves : ProvesTree m names t) (some : t.status ≢ infeasible) → IsModel m
      → (c : Certificate) (l : Leaf)
      → leaf_at (leaves m t.root) t.best ≡ Some l → l.certificate ≡ Some c → (r : Result (List ℕ) Want)
      → IfOk r (λ text. text ≡ report_of m c) → IfOk r IsShownText
  shown_report proves some model c l here has (Err want) h = tt
  shown_report proves some model c l here has (Ok text) h = (c, shown m names t proves some model c l here has, h)

  pub report_told : (plan text : List ℕ) (count : ℕ) → IsPlanText m names t t.status plan → count ≡ node_count t.root
      → text ≡ plan ++ nodes_line count → IsReport m names t text
  report_told plan text count h e is = (plan, h, is ∙ ap (λ n. plan ++ nodes_line n) e)

-- fewer than 1,000 branches make fewer than 2,000 nodes
nodes_by_branches : (n : Node) → node_count n ≡ suc (branch_count n + branch_count n)
nodes_by_branches (leaf c) = refl
nodes_by_branches (split j k below above) = omega (arith, nodes_by_branches below, nodes_by_branches above)
nodes_by_branches left_open = refl

pub nodes_few : (n : Node) → branch_count n < 1000 → node_count n < 2 ^ 32
nodes_few n h = omega (arith, h, nodes_by_branches n)
