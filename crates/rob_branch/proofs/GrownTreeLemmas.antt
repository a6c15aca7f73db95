-- The node of a branch from those of its two boxes, and the tree of a search that is over.
use Rattle.std.proofs.Common.{◌≡◌, ◌≢◌, ℕ, ◌≤◌, List, refl, ap, sym, ◌∙◌, subst}
use Rattle.std.specs.Prelude.{ℤ, pos, nat_abs, Option, Some, None}
use Rattle.rob_algebra.specs.Fraction.{Fraction}
use Rattle.rob_algebra.specs.Width.{Fits}
use Rattle.rob_meaning.specs.Certificates.{Certificate}
use Rattle.rob_meaning.specs.Places.{Each}
use Rattle.rob_meaning.specs.RobustModel.{RobustModel}
use Rattle.rob_meaning.specs.WellFormed.{IsModel}
use Rattle.rob_reach.proofs.GrownTreeLemmas.{grown_is_tree}
use Rattle.rob_reach.specs.Boxes.{box_below, box_above}
use Rattle.rob_reach.specs.Growing.{Search, Best, branches, start, Decides, Grows, IsGrown, tree_by}
use Rattle.rob_reach.specs.Ranges.{whole_rule}
use Rattle.rob_reach.specs.Trees.{Node, split, Tree, leaves}
use Rattle.rob_tree.specs.Shape.{BranchesFit, HasTreeShape, IsShaped, KeepsParts}
use Rattle.rob_tree.proofs.Writing.FitLemmas.{tree_fits}
use Rattle.rob_tree.specs.View.{node_of, tree_of}
use Rattle.rob_tree.specs.declared.tree.Tree as declared
use Rattle.rob_branch.proofs.GrowthLemmas.{shaped_both}
use Rattle.rob_branch.specs.Growth.{AreBoxesWritten, IsGrownTo, IsGrownTree}
use Rattle.rob_branch.specs.View.{search_of}
use Rattle.rob_branch.specs.declared.grow.Grown.{Grown}
use Rattle.rob_elab.specs.Written.{IsWritten}

module _ {N : Type 0} (value : N → Fraction) (limit : ℕ) (m : RobustModel) (names : List ℕ) (before : Search) where
  -- the node of a branch
  pub grown_joined : (c : Certificate) (j : ℕ) (k : ℤ) (first second grown : Grown N)
      → Decides m names before c (branches j k)
      → (nat_abs k ≤ limit) × (k ≢ pos limit) → IsWritten limit m
      → IsGrownTo value limit (box_below m j k) names before first
      → IsGrownTo value limit (box_above m j k) names (search_of value first.after) second → grown.after ≡ second.after
      → node_of value grown.node ≡ split j k (node_of value first.node) (node_of value second.node)
      → IsGrownTo value limit m names before grown
  grown_joined c j k first second grown decides within written h g after node =
      let both = split j k (node_of value first.node) (node_of value second.node) in
      record {
        grows = subst (λ n. Grows m names before n (search_of value grown.after)) (sym node)
            (subst (λ s. Grows m names before both (search_of value s)) (sym after)
            ((c, decides), (search_of value first.after, (h.grows, g.grows))));
        shaped = subst (λ n. Each IsShaped (leaves m n)) (sym node)
            (shaped_both m j k (node_of value first.node) (node_of value second.node) h.shaped g.shaped);
        numbers = subst (BranchesFit limit) (sym node) (within, h.numbers, g.numbers);
        written = subst (AreBoxesWritten limit m) (sym node) (written, h.written, g.written);
      }

-- the tree of a search that is over
module _ (limit : ℕ) (m : RobustModel) (names : List ℕ) (t : Tree) (after : Search) (root : Node)
    (is : t ≡ tree_by after.endless after.best root) where
  root_is : t.root ≡ root
  root_is = ap (λ (t : Tree). t.root) is ∙ by after.endless after.best
    where
      by : (e : Option ℕ) (b : Option Best) → (tree_by e b root).root ≡ root
      by (Some i) b = refl
      by None (Some b) = refl
      by None None = refl

  pub tree_grown : Grows m names start root after → IsGrown m names t
  tree_grown h = record {
    after = after;
    grows = subst (λ n. Grows m names start n after) (sym root_is) h;
    finished = is ∙ ap (λ n. tree_by after.endless after.best n) (sym root_is);
  }

  parts_kept : KeepsParts t.status t.value t.best
  parts_kept = subst (λ (t : Tree). KeepsParts t.status t.value t.best) (sym is) (by after.endless after.best)
    where
      by : (e : Option ℕ) (b : Option Best)
          → KeepsParts (tree_by e b root).status (tree_by e b root).value (tree_by e b root).best
      by (Some i) b = refl
      by None (Some b) = tt
      by None None = (refl, refl)

  pub tree_shaped : IsModel m → whole_rule m names ≡ None → Grows m names start root after
      → Each IsShaped (leaves m root) → BranchesFit limit root
      → HasTreeShape limit m names t
  tree_shaped model kept grows shaped numbers = record {
    tree = grown_is_tree m names t (tree_grown grows) model kept;
    shaped = subst (λ n. Each IsShaped (leaves m n)) (sym root_is) shaped;
    numbers = subst (BranchesFit limit) (sym root_is) numbers;
    parts = parts_kept;
  }

  pub tree_written : AreBoxesWritten limit m root → AreBoxesWritten limit m t.root
  tree_written = subst (AreBoxesWritten limit m) (sym root_is)

-- the tree that the program makes of it, where the root has grown from the start of a search
pub tree_of_root : {N : Type 0} {value : N → Fraction} {limit : ℕ} {m : RobustModel} {names : List ℕ}
    {before : Search} {grown : Grown N} (t : declared.Tree N) → IsGrownTo value limit m names before grown
    → before ≡ start → IsModel m → whole_rule m names ≡ None → ((x : N) → Fits limit (value x))
    → tree_of value t ≡ tree_by (search_of value grown.after).endless (search_of value grown.after).best
    (node_of value grown.node)
    → IsGrownTree limit m names (tree_of value t)
tree_of_root {value = value} {limit = limit} {m = m} {names = names} {before = before} {grown = grown} t h first model
    kept fits is =
    let after = search_of value grown.after in
    let root = node_of value grown.node in
    let tree = tree_of value t in
    let grows : Grows m names start root after = subst (λ s. Grows m names s root after) first h.grows in
    let shape : HasTreeShape limit m names tree =
    tree_shaped limit m names tree after root is model kept grows h.shaped h.numbers in
    record {
      grown = tree_grown limit m names tree after root is grows;
      shape = shape;
      fits = tree_fits value limit fits m names t shape;
      boxes = tree_written limit m names tree after root is h.written;
    }
