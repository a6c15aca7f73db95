-- What stands behind an answer of `checktree`.
use Rattle.std.proofs.Common.{◌≡◌, ℕ, List}
use Rattle.rob_meaning.specs.RobustModel.{RobustModel}
use Rattle.rob_reach.specs.Trees.{Tree}
use Rattle.rob_tree.specs.Reading.{Breaks}
use Rattle.rob_top.specs.Branched.{BreaksWhole}
use Rattle.rob_top.specs.Calls.{Call, limit_of}
use Rattle.rob_top.specs.Endings.{IsTreeAnswer}
use Rattle.rob_top.specs.TreeChecked.{HasTree, HasTreeFile}
use Rattle.rob_commands.specs.declared.ended.Ended.{Ended}
use Rattle.rob_commands.specs.declared.ended.Ended.TheVariants.{Whole, Tree as TreeRule}
use Rattle.rob_words.specs.Commands.{Line}

-- a rule that the named variables break; one that the tree's text breaks; or the verdict on the tree
pub data TreeOrigin (call : Call) (line : Line) (m : RobustModel) (ended : Ended) : Type 0 where
  breaks_names : (rule : ℕ) → BreaksWhole call line m rule → ended ≡ Whole rule → TreeOrigin call line m ended
  breaks_text : (names bytes : List ℕ) (rule number : ℕ) → HasTreeFile call line m names bytes
      → Breaks (limit_of line) m names bytes rule number → ended ≡ TreeRule rule number → TreeOrigin call line m ended
  judges_tree : (names : List ℕ) (t : Tree) → HasTree call line m names t → IsTreeAnswer (limit_of line) m names t ended
      → TreeOrigin call line m ended
