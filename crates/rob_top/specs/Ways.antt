-- The ways to an answer that several commands give: a constructor for each, with the record that says what the answer
-- means.
use Rattle.std.specs.Prelude.{ℕ, ℤ, List}
use Rattle.rob_meaning.specs.Certificates.{Status}
use Rattle.rob_model.specs.declared.place.Spot.{Spot}
use Rattle.rob_top.specs.Branched.{IsBranched, IsEmptyBranched, IsWideNode}
use Rattle.rob_top.specs.Calls.{Call}
use Rattle.rob_top.specs.Checked.{IsCertificateAccepted}
use Rattle.rob_top.specs.Compared.{IsCompared, IsWideCompared}
use Rattle.rob_top.specs.Generated.{IsGenerated}
use Rattle.rob_top.specs.Narrowed.{IsNarrowed}
use Rattle.rob_top.specs.Refused.{IsNoCertificate, IsNoPlan, IsTooWide, IsTooWideOnWay}
use Rattle.rob_top.specs.Replayed.{IsReplayed}
use Rattle.rob_top.specs.Searched.{IsEmptySought, IsSearched}
use Rattle.rob_top.specs.Solved.{IsEmptySet, IsRows, IsSolved}
use Rattle.rob_top.specs.Split.{IsEmptyCell, IsPieced, IsSplitText, IsWideSplit}
use Rattle.rob_top.specs.Swept.{IsLimited, IsPriced}
use Rattle.rob_top.specs.TreeChecked.{IsTreeAccepted, IsWideLeaf}
use Rattle.rob_tree.specs.declared.tree.Branch.{Branch}
use Rattle.rob_words.specs.declared.verb.Verb.TheVariants as verbs

module _ (call : Call) where
  -- a status is found: by `solve` and `prove`, with a certificate; or by `whole` and `tree`, with a branch tree, over
  -- plans whose named variables take whole numbers; or by `cells`, over plans with a policy of their own in each cell
  pub data FindsStatus (status : Status) (text : List ℕ) : Type 0 where
    solved : IsSolved call status text → FindsStatus status text
    branched : IsBranched call status text → FindsStatus status text
    pieced : IsPieced call status text → FindsStatus status text

  -- a text is printed as asked, by a command that answers no status
  pub data Prints (text : List ℕ) : Type 0 where
    rows : IsRows call text → Prints text
    replayed : IsReplayed call text → Prints text
    generated : IsGenerated call text → Prints text
    compared : IsCompared call text → Prints text
    worst_found : IsSearched call text → Prints text
    priced : IsPriced call text → Prints text
    limited : IsLimited call text → Prints text
    narrowed : IsNarrowed call text → Prints text
    split_written : IsSplitText call text → Prints text

  -- what was read is accepted: by `check` a certificate, by `checktree` a branch tree
  pub data Accepts (text : List ℕ) : Type 0 where
    a_certificate : IsCertificateAccepted call text → Accepts text
    a_tree : IsTreeAccepted call text → Accepts text

  -- no joint scenario is admitted, as the weights show: found by `solve` and `prove`; by `whole` and `tree`; by
  -- `worst`; or by `cells`, of the split model
  pub data FindsEmpty (weights : List ℤ) (text : List ℕ) : Type 0 where
    while_solving : IsEmptySet call weights text → FindsEmpty weights text
    while_branching : IsEmptyBranched call weights text → FindsEmpty weights text
    while_searching : IsEmptySought call weights text → FindsEmpty weights text
    in_cells : IsEmptyCell call weights text → FindsEmpty weights text

  -- a wide number is named by its spot: one of a command that works with the model as it was read; or one on the way of
  -- `solve` and `prove`, by either route; or one in the split model of `cells`; or one that is told in the summary of
  -- `gen`
  pub data NamesWide (spot : Spot) (text : List ℕ) : Type 0 where
    in_model : IsTooWide call spot text → NamesWide spot text
    on_way : IsTooWideOnWay call spot text → NamesWide spot text
    in_split : IsWideSplit call spot text → NamesWide spot text
    in_summary : IsWideCompared call spot text → NamesWide spot text

  -- a wide number is named by its spot, and by the path of branches to its box: while `whole` and `tree` grow a tree,
  -- or while `checktree` checks one
  pub data NamesWideNode (path : List Branch) (spot : Spot) (text : List ℕ) : Type 0 where
    while_growing : IsWideNode call path spot text → NamesWideNode path spot text
    while_checking : IsWideLeaf call path spot text → NamesWideNode path spot text

  -- a rule and a line of the certificate's text are named: `check` can't check it; or it gives `replay` no plan to
  -- replay, or `worst` none to search a worst case of
  pub data NamesCertificateLine (rule line : ℕ) (text : List ℕ) : Type 0 where
    not_checked : IsNoCertificate call rule line text → NamesCertificateLine rule line text
    not_replayed : IsNoPlan call verbs.Replay rule line text → NamesCertificateLine rule line text
    not_searched : IsNoPlan call verbs.Worst rule line text → NamesCertificateLine rule line text
