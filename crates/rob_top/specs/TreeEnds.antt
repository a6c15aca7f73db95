-- Which answer has to come at `checktree`.
use Rattle.std.specs.Prelude.{◌⊎◌, ℕ, List}
use Rattle.rob_branch.specs.Verdicts.{IsAccepted, NoneWide as NoneWideInTree}
use Rattle.rob_meaning.specs.RobustModel.{RobustModel}
use Rattle.rob_reach.specs.Trees.{ProvesTree, Tree}
use Rattle.rob_tree.specs.Reading.{Breaks as BreaksTree}
use Rattle.rob_top.specs.Calls.{Call, limit_of}
use Rattle.rob_top.specs.TreeChecked.{HasTree, HasTreeFile}
use Rattle.rob_commands.specs.declared.ended.Ended.{Ended}
use Rattle.rob_commands.specs.declared.ended.Ended.TheVariants.{Accepted, Tree as TreeRule}
use Rattle.rob_words.specs.Commands.{Line}
use Rattle.rob_top.specs.Endings.{IsOutside, EndsAs, NamesFault, NamesWidth, IsTreeAnswer}

module _ (call : Call) (result : Ended) where
  -- how a call of this command must end, where the named variables break no rule
  pub record MustEndTree : Type 0 where
    -- the tree's text breaks a rule, so that rule and its line are named
    pub broken : (line : Line) (m : RobustModel) (names bytes : List ℕ) (rule number : ℕ)
        → HasTreeFile call line m names bytes
        → BreaksTree (limit_of line) m names bytes rule number → EndsAs (TreeRule rule number) result
    -- it is the text of a tree, so the answer is the verdict on it
    pub verdict : (line : Line) (m : RobustModel) (names : List ℕ) (t : Tree) → HasTree call line m names t
        → IsTreeAnswer (limit_of line) m names t result
    -- the tree proves, so it is accepted, or a number of the check is wide
    pub proved : (line : Line) (m : RobustModel) (names : List ℕ) (t : Tree) → HasTree call line m names t
        → ProvesTree m names t → EndsAs Accepted result ⊎ NamesWidth (limit_of line) m names t result
    -- it proves, and no number of the check is wide, so it is accepted
    pub accepted : (line : Line) (m : RobustModel) (names : List ℕ) (t : Tree) → HasTree call line m names t
        → IsAccepted (limit_of line) m names t → EndsAs Accepted result
    -- it doesn't prove, so it is rejected, or a number of the check is wide
    pub rejected : (line : Line) (m : RobustModel) (names : List ℕ) (t : Tree) → HasTree call line m names t
        → (ProvesTree m names t → ⊥)
        → NamesFault (limit_of line) m names t result ⊎ (NamesWidth (limit_of line) m names t result ⊎ IsOutside result)
    -- it doesn't prove, and no number of the check is wide, so it is rejected, at the first condition of a leaf that
    -- fails
    pub judged : (line : Line) (m : RobustModel) (names : List ℕ) (t : Tree) → HasTree call line m names t
        → NoneWideInTree (limit_of line) m t → (ProvesTree m names t → ⊥)
        → NamesFault (limit_of line) m names t result ⊎ IsOutside result
