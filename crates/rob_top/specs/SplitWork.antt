-- What the work of `cells` and `celltext` answers, whichever call it is done for.
use Rattle.std.specs.Prelude.{◌⊎◌, ◌++◌, ℕ, List}
use Rattle.rob_cert.specs.Apart.{FitsLines}
use Rattle.rob_cert.specs.declared.ending.Stop.{Stop}
use Rattle.rob_dualize.specs.Models.{HasModelCause, RoseIfStopped}
use Rattle.rob_dualize.specs.Solving.{IsSolution}
use Rattle.rob_meaning.specs.Certificates.{Certificate}
use Rattle.rob_meaning.specs.RobustModel.{RobustModel}
use Rattle.rob_pieces.specs.Cuts.{Cut}
use Rattle.rob_report.specs.Report.{report_of}
use Rattle.rob_top.specs.Calls.{Count}
use Rattle.rob_top.specs.Inputs.{HasModel}
use Rattle.rob_top.specs.WorkStops.{RepliesStop}
use Rattle.rob_commands.specs.Replies.{Replies, ended_of}
use Rattle.rob_top.specs.Split.{HasCuts, TellsCuts}
use Rattle.rob_commands.specs.Answers.{cells_line}
use Rattle.rob_top.specs.Work.{Answers}
use Rattle.rob_commands.specs.declared.ended.Ended.TheVariants.{Printed}
use Rattle.rob_commands.specs.declared.reply.Reply.{Reply}
use Rattle.rob_words.specs.Values.{Word}
use Rattle.rob_words.specs.declared.route.Route.TheVariants.{Dual}
use Rattle.rob_words.specs.declared.verb.Verb.{Verb}
use Rattle.rob_words.specs.declared.verb.Verb.TheVariants.{Cells, CellText}
use Rattle.rob_write.specs.Canonical.{model_text}
use Rattle.rob_elab.specs.Written.{IsWritten}

module _ (limit : ℕ) (wides : Count) (m : RobustModel) where
  -- the reply is the answer of each call of the command, at the limit, that read the model, and whose word of cuts
  -- this is
  abbrev pub AnswersCutWord : Verb → Word → Reply → Type 0
  AnswersCutWord verb word reply =
      Answers limit wides verb (λ call line. HasModel call line m × TellsCuts line word) reply

  -- that of each one whose words tell these cuts
  abbrev pub AnswersCuts : Verb → List Cut → Reply → Type 0
  AnswersCuts verb cuts reply = Answers limit wides verb (λ call line. HasCuts call line m cuts) reply

  -- ---- the split model

  -- the route stopped there: with its cause, and the reply to that
  pub record RepliesSplitStop (reply : Reply) : Type 0 where
    pub stop : Stop
    pub cause : HasModelCause limit m stop
    pub rose : RoseIfStopped wides.before wides.now stop
    pub replies : RepliesStop m Dual stop reply

  -- no number is wide when it is written in whole numbers, and a certificate of it was found; the number of cells and
  -- its plan are the reply
  pub record RepliesPlan (cells : ℕ) (reply : Reply) : Type 0 where
    pub c : Certificate
    pub written : IsWritten limit m
    pub found : IsSolution m c
    pub fits : FitsLines limit m c
    pub replies : Replies (ended_of c.status) (cells_line cells ++ report_of m c) reply

  -- the reply to `cells`
  abbrev pub RepliesPieces : ℕ → Reply → Type 0
  RepliesPieces cells reply = RepliesPlan cells reply ⊎ RepliesSplitStop reply

  -- the reply to the command: that, or the split model's text
  abbrev pub RepliesSplit : ℕ → Verb → Reply → Type 0
  RepliesSplit cells Cells reply = RepliesPieces cells reply
  RepliesSplit cells CellText reply = Replies Printed (model_text m) reply
  RepliesSplit cells _ reply = ⊥
