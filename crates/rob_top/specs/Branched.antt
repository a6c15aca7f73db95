-- The answers of `whole` and `tree`: the status over plans whose named variables take whole numbers.
use Rattle.std.specs.Prelude.{◌≡◌, ◌≤◌, ℕ, ℤ, nat_abs, List, Some, map}
use Rattle.rob_algebra.specs.Fraction.{of_int}
use Rattle.rob_branch.specs.Growth.{AreBoxesWritten, IsWrittenUpTo}
use Rattle.rob_dualize.specs.Models.{IsWideIn}
use Rattle.rob_dualize.specs.Solving.{IsShownEmpty}
use Rattle.rob_meaning.specs.Certificates.{Status}
use Rattle.rob_meaning.specs.Places.{Each}
use Rattle.rob_meaning.specs.RobustModel.{RobustModel}
use Rattle.rob_model.specs.declared.place.Spot.{Spot}
use Rattle.rob_reach.specs.Boxes.{box}
use Rattle.rob_reach.specs.Growing.{IsGrown, Visits, start}
use Rattle.rob_reach.specs.Ranges.{whole_rule}
use Rattle.rob_reach.specs.Trees.{ProvesTree, Tree}
use Rattle.rob_reach.specs.WholeStatus.{HasWholeStatus}
use Rattle.rob_report.specs.Spots.{empty_set_lines}
use Rattle.rob_tree.specs.Reading.{TreeFits}
use Rattle.rob_tree.specs.Shape.{HasTreeShape}
use Rattle.rob_tree.specs.TreeText.{tree_text}
use Rattle.rob_tree.specs.View.{branch_of}
use Rattle.rob_tree.specs.declared.tree.Branch.{Branch}
use Rattle.rob_commands.specs.TreeReport.{IsReport}
use Rattle.rob_commands.specs.Answers.{whole_fault_text, wide_node_text}
use Rattle.rob_top.specs.Calls.{Call, WasRaised, limit_of}
use Rattle.rob_top.specs.Commands.{IsBranching}
use Rattle.rob_top.specs.Inputs.{AreVariables, HasModel, HasVariables, HasWholeVariables, TellsNames}
use Rattle.rob_words.specs.Commands.{Line}
use Rattle.rob_words.specs.Values.{Word}
use Rattle.rob_words.specs.declared.verb.Verb.{Verb}
use Rattle.rob_words.specs.declared.verb.Verb.TheVariants.{Whole, Tree as TreeVerb}
use Rattle.rob_elab.specs.Written.{IsWritten}

-- ---- what is printed

-- what is printed of a tree: that, or the tree itself; other commands print none
abbrev pub IsPrintedTree : Verb → RobustModel → List ℕ → Tree → List ℕ → Type 0
IsPrintedTree Whole m names t text = IsReport m names t text
IsPrintedTree TreeVerb m names t text = text ≡ tree_text m t
IsPrintedTree _ m names t text = ⊥

module _ (call : Call) where
  -- the model has the status over plans whose named variables are whole: it has grown into a tree that proves it, and
  -- that is printed, or the plan of one of its leaves. The tree has its shape, and its numbers
  -- fit the line's width, so that what `tree` prints is the text of that tree, and of no other whose numbers fit. No
  -- number of the model's set rows and forms is wide, nor of those of the boxes in the tree, open leaves aside
  pub record IsBranched (status : Status) (text : List ℕ) : Type 0 where
    pub line : Line
    pub m : RobustModel
    pub names : List ℕ
    pub has : HasWholeVariables call line m names
    pub branches : IsBranching line.verb
    pub t : Tree
    pub status_is : t.status ≡ status
    pub holds : HasWholeStatus m names status t.value
    pub proves : ProvesTree m names t
    pub grown : IsGrown m names t
    pub shape : HasTreeShape (limit_of line) m names t
    pub fits : TreeFits (limit_of line) m t
    pub written : IsWritten (limit_of line) m
    pub boxes : AreBoxesWritten (limit_of line) m t.root
    pub printed : IsPrintedTree line.verb m names t text

  -- ---- refusals

  -- the named variables break the rule, the first that they break: 61 where the names are no different variables'; 62
  -- where one lacks a bound; 63 where the product of their ranges is over 1,000
  pub data BreaksWhole (line : Line) (m : RobustModel) (rule : ℕ) : Type 0 where
    no_variables : (names : List Word) → HasModel call line m → TellsNames line names
        → ((numbers : List ℕ) → AreVariables m names numbers → ⊥) → rule ≡ 61 → BreaksWhole line m rule
    no_ranges : (numbers : List ℕ) → HasVariables call line m numbers → whole_rule m numbers ≡ Some rule
        → BreaksWhole line m rule

  -- so it is named
  pub record IsNoWhole (rule : ℕ) (text : List ℕ) : Type 0 where
    pub line : Line
    pub m : RobustModel
    pub breaks : BreaksWhole line m rule
    pub printed : text ≡ whole_fault_text rule

  -- no number of the set rows and forms is wide, and no joint scenario is admitted, as the weights show,
  -- which fit
  pub record IsEmptyBranched (weights : List ℤ) (text : List ℕ) : Type 0 where
    pub line : Line
    pub m : RobustModel
    pub names : List ℕ
    pub has : HasWholeVariables call line m names
    pub branches : IsBranching line.verb
    pub written : IsWritten (limit_of line) m
    pub shown : IsShownEmpty m (map of_int weights)
    pub fits : Each (λ weight. nat_abs weight ≤ limit_of line) weights
    pub printed : text ≡ empty_set_lines m weights

  -- a number is wide in the box behind the path, to which a search for a tree comes, and none of the set rows and forms
  -- of the boxes on the way there is; and the ledger has counted it in this call
  pub record IsWideNode (path : List Branch) (spot : Spot) (text : List ℕ) : Type 0 where
    pub line : Line
    pub m : RobustModel
    pub names : List ℕ
    pub has : HasWholeVariables call line m names
    pub branches : IsBranching line.verb
    pub comes : Visits m names start (map branch_of path)
    pub written : IsWrittenUpTo (limit_of line) m (map branch_of path)
    pub wide : IsWideIn (limit_of line) (box m (map branch_of path)) spot
    pub raised : WasRaised call.wides
    pub printed : text ≡ wide_node_text m path spot
