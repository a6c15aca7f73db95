-- What the work of `checktree` answers, whichever call it is done for.
use Rattle.std.specs.Prelude.{ℕ, List}
use Rattle.rob_meaning.specs.RobustModel.{RobustModel}
use Rattle.rob_reach.specs.Trees.{Tree}
use Rattle.rob_report.specs.Places.{IsPlaceOf}
use Rattle.rob_tree.specs.declared.verdict.LeafFault.{LeafFault}
use Rattle.rob_tree.specs.declared.verdict.LeafFault.TheVariants.{At}
use Rattle.rob_tree.specs.declared.verdict.TreeVerdict.{TreeVerdict}
use Rattle.rob_tree.specs.declared.verdict.TreeVerdict.TheVariants as verdict
use Rattle.rob_commands.specs.Answers.{accepted_by, rejected_leaf_text, wide_node_text}
use Rattle.rob_top.specs.Calls.{Count}
use Rattle.rob_top.specs.Files.{HasFile}
use Rattle.rob_top.specs.Inputs.{HasModel, HasVariables, TellsNames}
use Rattle.rob_commands.specs.Replies.{Replies}
use Rattle.rob_top.specs.TreeChecked.{HasTree, HasTreeFile}
use Rattle.rob_top.specs.Work.{Answers}
use Rattle.rob_commands.specs.Stops.{IsBoxSpotOf}
use Rattle.rob_commands.specs.declared.ended.Ended.TheVariants.{Accepted, TreeRejected, WideNode}
use Rattle.rob_commands.specs.declared.reply.Reply.{Reply}
use Rattle.rob_words.specs.Names.{parts_of}
use Rattle.rob_words.specs.declared.verb.Own.TheVariants as own
use Rattle.rob_words.specs.declared.verb.Verb.TheVariants.{CheckTree}

module _ (limit : ℕ) (wides : Count) (m : RobustModel) where
  -- the reply is the answer of each call for `checktree`, at the limit, whose model was read as this one, whose list of
  -- names has this text, and whose tree's file came with these bytes
  abbrev pub AnswersTreeNames : List ℕ → List ℕ → Reply → Type 0
  AnswersTreeNames names bytes reply =
      Answers limit wides CheckTree
      (λ call line. HasModel call line m × TellsNames line (parts_of names) × HasFile call line own.Tree bytes) reply

  -- that of each one whose names are those of the variables with these numbers
  abbrev pub AnswersTreeNumbers : List ℕ → List ℕ → Reply → Type 0
  AnswersTreeNumbers numbers bytes reply =
      Answers limit wides CheckTree (λ call line. HasVariables call line m numbers × HasFile call line own.Tree bytes)
      reply

  -- which break no rule
  abbrev pub AnswersTreeFile : List ℕ → List ℕ → Reply → Type 0
  AnswersTreeFile numbers bytes reply =
      Answers limit wides CheckTree (λ call line. HasTreeFile call line m numbers bytes) reply

  -- and whose file is the text of the tree
  abbrev pub AnswersTree : List ℕ → Tree → Reply → Type 0
  AnswersTree numbers t reply = Answers limit wides CheckTree (λ call line. HasTree call line m numbers t) reply

module _ (m : RobustModel) where
  -- what fails of a leaf is a condition that the model's names tell
  abbrev pub IsFaultOf : LeafFault → Type 0
  IsFaultOf (At place) = IsPlaceOf m place
  IsFaultOf fault = Unit {0}

  -- what the verdict names is the model's
  abbrev pub IsVerdictOf : TreeVerdict → Type 0
  IsVerdictOf verdict.Accepted = Unit {0}
  IsVerdictOf (verdict.Rejected number fault) = IsFaultOf fault
  IsVerdictOf (verdict.TooWide path spot) = IsBoxSpotOf m path spot
  IsVerdictOf verdict.Memory = Unit {0}

  -- the reply to a verdict on the tree; memory has none
  abbrev pub RepliesVerdict : Tree → TreeVerdict → Reply → Type 0
  RepliesVerdict t verdict.Accepted reply = Replies Accepted (accepted_by t.status t.value) reply
  RepliesVerdict t (verdict.Rejected number fault) reply =
      Replies (TreeRejected number fault) (rejected_leaf_text m number fault) reply
  RepliesVerdict t (verdict.TooWide path spot) reply = Replies (WideNode path spot) (wide_node_text m path spot) reply
  RepliesVerdict t verdict.Memory reply = ⊥
