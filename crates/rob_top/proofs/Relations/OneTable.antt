-- The table that `replay` prints is that of its plan and its file.
use Rattle.std.proofs.Common.{◌≡◌, ℕ, List, Ok, sym, ◌∙◌, ap, subst}
use Rattle.rob_meaning.specs.Certificates.{Certificate}
use Rattle.rob_meaning.specs.RobustModel.{RobustModel}
use Rattle.rob_replay.proofs.OneFileLemmas.{one_file}
use Rattle.rob_replay.specs.Files.{IsFile}
use Rattle.rob_replay.specs.Outcome.{outcome}
use Rattle.rob_report.specs.Tables.{table_of}
use Rattle.rob_top.proofs.Origins.ProgressLemmas.{file_once, one_model_read}
use Rattle.rob_top.specs.Calls.{Call, Known, limit_of}
use Rattle.rob_top.specs.Inputs.{HasScenarioFile}
use Rattle.rob_top.specs.Replayed.{IsReplayed}
use Rattle.rob_words.proofs.Spellings.{one_line}
use Rattle.rob_words.specs.Commands.{Line}
use Rattle.rob_words.specs.declared.verb.Own.TheVariants as own
use Rattle.rob_top.proofs.Origins.ReadOnceLemmas.{one_certificate}
use Rattle.rob_words.specs.declared.verb.Verb.TheVariants as verbs

module _ (call : Call) (known : Known call.source) (line : Line) (m : RobustModel) (c : Certificate) (bytes : List ℕ)
    (rows : List (List (List ℕ))) (has : HasScenarioFile call line m c bytes) (file : IsFile bytes rows) (text : List ℕ)
    (r : IsReplayed call text) where
  same_line : r.line ≡ line
  same_line =
      one_line call.words r.line line r.has.plan.certificate.file.read.spelled has.plan.certificate.file.read.spelled

  on_line : HasScenarioFile call line r.m r.c r.bytes
  on_line = subst (λ (l : Line). HasScenarioFile call l r.m r.c r.bytes) same_line r.has

  same_model : r.m ≡ m
  same_model =
      one_model_read call line line r.m m known on_line.plan.certificate.file.read has.plan.certificate.file.read

  on_model : HasScenarioFile call line m r.c r.bytes
  on_model = subst (λ (x : RobustModel). HasScenarioFile call line x r.c r.bytes) same_model on_line

  same_certificate : r.c ≡ c
  same_certificate = one_certificate call known line m verbs.Replay r.c c on_model.plan.certificate has.plan.certificate

  same_bytes : r.bytes ≡ bytes
  same_bytes = file_once call line own.Scenarios r.bytes bytes known on_model.file has.file

  same_rows : r.rows ≡ rows
  same_rows = one_file bytes r.rows rows (subst (λ (b : List ℕ). IsFile b r.rows) same_bytes r.file) file

  pub lines_are : outcome (limit_of line) m c.plan rows ≡ Ok r.lines
  lines_are =
      sym
      (
      ap (λ (l : Line). outcome (limit_of l) r.m r.c.plan r.rows) same_line
      ∙ ap (λ (x : RobustModel). outcome (limit_of line) x r.c.plan r.rows) same_model
      ∙ ap (λ (d : Certificate). outcome (limit_of line) m d.plan r.rows) same_certificate
      ∙ ap (λ (list : List (List (List ℕ))). outcome (limit_of line) m c.plan list) same_rows
      )
      ∙ r.narrow

  pub text_is : text ≡ table_of m r.lines
  text_is = r.printed ∙ ap (λ (x : RobustModel). table_of x r.lines) same_model
