-- What `whole` prints of a branch tree: the report of the leaf that shows its status, and the number of nodes.
use Rattle.std.specs.Fmt.{decimal}
use Rattle.std.specs.Prelude.{◌≡◌, ◌++◌, ℕ, List, Some, codes}
use Rattle.rob_meaning.specs.Certificates.{Certificate, Status, infeasible}
use Rattle.rob_meaning.specs.RobustModel.{RobustModel}
use Rattle.rob_reach.specs.Trees.{HasLeaf, Tree, leaves, node_count}
use Rattle.rob_reach.specs.Verdicts.{Shows}
use Rattle.rob_reach.specs.WholeStatus.{WholeBound}
use Rattle.rob_report.specs.Lines.{line as one_line}
use Rattle.rob_report.specs.Report.{report_of}

-- the certificate is that of the leaf which shows the tree's status: its plan has the certificate's value as its bound,
-- which is the tree's where that is optimal, and whole numbers for the named variables
pub record IsShownBy (m : RobustModel) (names : List ℕ) (t : Tree) (c : Certificate) : Type 0 where
  pub here : HasLeaf (λ l. l.certificate ≡ Some c) (leaves m t.root) t.best
  pub shows : Shows t.status t.value c
  pub kept : WholeBound m names c.plan c.value

-- `nodes N`
abbrev pub nodes_line : ℕ → List ℕ
nodes_line count = one_line (codes "nodes " ++ decimal count)

-- the report of that certificate; or that the model is infeasible, which no leaf shows
abbrev pub IsPlanText : RobustModel → List ℕ → Tree → Status → List ℕ → Type 0
IsPlanText m names t infeasible text = text ≡ one_line (codes "infeasible")
IsPlanText m names t status text = (c : Certificate) × IsShownBy m names t c × (text ≡ report_of m c)

-- what `whole` prints: that, and how many nodes the tree has
abbrev pub IsReport : RobustModel → List ℕ → Tree → List ℕ → Type 0
IsReport m names t text =
    (plan : List ℕ) × IsPlanText m names t t.status plan × (text ≡ plan ++ nodes_line (node_count t.root))
