-- The answers of `checktree`: the verdict on a branch tree, and so a status over plans whose named variables take whole
-- numbers.
use Rattle.std.specs.Prelude.{◌≡◌, ℕ, List, map}
use Rattle.rob_branch.specs.Verdicts.{IsAccepted, IsRejectedAt, IsTooWideAt}
use Rattle.rob_meaning.specs.RobustModel.{RobustModel}
use Rattle.rob_model.specs.declared.place.Spot.{Spot}
use Rattle.rob_reach.specs.Trees.{ProvesTree, Tree}
use Rattle.rob_reach.specs.WholeStatus.{HasWholeStatus}
use Rattle.rob_tree.specs.Reading.{Breaks, TreeFits}
use Rattle.rob_tree.specs.TreeText.{IsTextOfTree}
use Rattle.rob_tree.specs.View.{branch_of}
use Rattle.rob_tree.specs.declared.tree.Branch.{Branch}
use Rattle.rob_tree.specs.declared.verdict.LeafFault.{LeafFault}
use Rattle.rob_commands.specs.Answers.{accepted_by, rejected_leaf_text, tree_fault_text, wide_node_text}
use Rattle.rob_top.specs.Calls.{Call, WasRaised, limit_of}
use Rattle.rob_top.specs.Files.{HasFile}
use Rattle.rob_top.specs.Inputs.{HasWholeVariables}
use Rattle.rob_words.specs.Commands.{Line}
use Rattle.rob_words.specs.declared.verb.Own.TheVariants as own
use Rattle.rob_words.specs.declared.verb.Verb.TheVariants.{CheckTree}

module _ (call : Call) where
  -- ---- what was read

  -- the words say `checktree`, the named variables break no rule, and the file of the tree came, with these bytes
  pub record HasTreeFile (line : Line) (m : RobustModel) (names : List ℕ) (bytes : List ℕ) : Type 0 where
    pub variables : HasWholeVariables call line m names
    pub is_checktree : line.verb ≡ CheckTree
    pub file : HasFile call line own.Tree bytes

  -- and it is the text of this tree, whose numbers are within the line's width
  pub record HasTree (line : Line) (m : RobustModel) (names : List ℕ) (t : Tree) : Type 0 where
    pub bytes : List ℕ
    pub file : HasTreeFile line m names bytes
    pub text : IsTextOfTree (limit_of line) m names t bytes
    pub fits : TreeFits (limit_of line) m t

  -- ---- the verdict

  -- accepted: the tree proves, and no number of its check is wide; so the model has the status that the tree claims,
  -- with its value, over plans whose named variables are whole
  pub record IsTreeAccepted (text : List ℕ) : Type 0 where
    pub line : Line
    pub m : RobustModel
    pub names : List ℕ
    pub t : Tree
    pub read : HasTree line m names t
    pub accepted : IsAccepted (limit_of line) m names t
    pub holds : HasWholeStatus m names t.status t.value
    pub printed : text ≡ accepted_by t.status t.value

  -- rejected: that condition of the leaf of that number is the first that fails, and no number before it is wide; so
  -- the tree doesn't prove
  pub record IsTreeRejected (number : ℕ) (fault : LeafFault) (text : List ℕ) : Type 0 where
    pub line : Line
    pub m : RobustModel
    pub names : List ℕ
    pub t : Tree
    pub read : HasTree line m names t
    pub rejected : IsRejectedAt (limit_of line) m names t number fault
    pub proves_not : ProvesTree m names t → ⊥
    pub printed : text ≡ rejected_leaf_text m number fault

  -- ---- refusals

  -- a number is wide for the leaf behind that path of the tree, where its box is written or its certificate is checked,
  -- and all conditions of the leaves before it hold; and the ledger has counted it in this call
  pub record IsWideLeaf (path : List Branch) (spot : Spot) (text : List ℕ) : Type 0 where
    pub line : Line
    pub m : RobustModel
    pub names : List ℕ
    pub t : Tree
    pub read : HasTree line m names t
    pub wide : IsTooWideAt (limit_of line) m names t (map branch_of path) spot
    pub raised : WasRaised call.wides
    pub printed : text ≡ wide_node_text m path spot

  -- the tree's text breaks the rule at the line, first
  pub record IsNoTree (rule number : ℕ) (text : List ℕ) : Type 0 where
    pub line : Line
    pub m : RobustModel
    pub names : List ℕ
    pub bytes : List ℕ
    pub file : HasTreeFile line m names bytes
    pub breaks : Breaks (limit_of line) m names bytes rule number
    pub printed : text ≡ tree_fault_text rule number
