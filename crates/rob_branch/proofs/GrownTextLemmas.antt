-- The text of a tree that has grown is read as that tree alone.
use Rattle.std.proofs.Common.{◌≡◌, ℕ, ◌-◌, ◌^◌, ◌≤◌, List, refl}
use Rattle.std.specs.Prelude.{None}
use Rattle.rob_cert.specs.Apart.{IsNamedInWords}
use Rattle.rob_meaning.specs.Named.{IsNamed}
use Rattle.rob_meaning.specs.RobustModel.{RobustModel}
use Rattle.rob_meaning.specs.WellFormed.{IsModel}
use Rattle.rob_reach.proofs.RuleLemmas.{rules_kept}
use Rattle.rob_reach.specs.Ranges.{whole_rule}
use Rattle.rob_reach.specs.Trees.{Tree}
use Rattle.rob_tree.proofs.Writing.FitLemmas.{best_within}
use Rattle.rob_tree.proofs.OneText.TreeLaws as laws
use Rattle.rob_tree.specs.Reading.{TreeFits}
use Rattle.rob_tree.specs.Shape.{HasTreeShape}
use Rattle.rob_tree.specs.TreeText.{IsTextOfTree, tree_text}
use Rattle.rob_branch.proofs.GrownTreeLemmas.{tree_shaped}
use Rattle.rob_branch.specs.GrownText.{IsGrownWithin, IsReadAgain}

pub read_again : (m : RobustModel) (limit : ℕ) (names : List ℕ) → IsModel m → IsNamed m → IsNamedInWords m
    → limit ≤ 2 ^ 62 - 1 → whole_rule m names ≡ None → (t : Tree) → IsGrownWithin limit m names t
    → IsReadAgain limit m names t
read_again m limit names model named words low kept t h =
    let bounded = ((rules_kept m names).0 kept).0 in
    let shape : HasTreeShape limit m names t =
    tree_shaped limit m names t h.grown.after t.root h.grown.finished model kept h.grown.grows h.shaped h.branches in
    let fits : TreeFits limit m t =
    record { value = h.value; best = best_within limit m names t shape; root = h.certificates } in
    let is : IsTextOfTree limit m names t (tree_text m t) = record { shape = shape; spelled = refl } in
    record {
      text = is;
      fits = fits;
      breaks_none = laws.breaks_none m limit names model named words low bounded t (tree_text m t) is fits;
      alone = λ u other fit. laws.read_once m limit names model named words low bounded u t
          (tree_text m t) other is fit fits;
    }
