-- What was read where a certificate is among a command's files; of `worst`, its set rows and forms.
use Rattle.std.proofs.Common.{◌≡◌, ℕ, Bool, true, false, List}
use Rattle.rob_meaning.specs.Certificates.{Certificate}
use Rattle.rob_meaning.specs.RobustModel.{RobustModel}
use Rattle.rob_top.specs.Calls.{Call}
use Rattle.rob_top.specs.Commands.{elaborates}
use Rattle.rob_top.specs.Inputs.{HasCertificateFile, HasForms, HasModel, HasRead, HasSought, LacksPlan, planless, unread}
use Rattle.rob_top.specs.Searched.{NamesNoForm}
use Rattle.rob_words.specs.Commands.{Line}
use Rattle.rob_words.specs.Values.{Word}
use Rattle.rob_words.specs.declared.verb.Verb.{Verb}
use Rattle.rob_words.specs.declared.verb.Verb.TheVariants as verbs

module _ (call : Call) (line : Line) (m : RobustModel) where
  -- the model, with its set rows and forms or without
  read_model : (makes : Bool) → HasRead call makes line m → HasModel call line m
  read_model true h = h.model
  read_model false h = h

  pub file_model : (verb : Verb) (bytes : List ℕ) → HasCertificateFile call verb line m bytes → HasModel call line m
  file_model verb bytes h = read_model (elaborates verb) h.read

  -- also where the certificate gives no plan
  pub lacking_model : (verb : Verb) (rule number : ℕ) → LacksPlan call verb line m rule number → HasModel call line m
  lacking_model verb rule number (unread bytes h breach) = file_model verb bytes h
  lacking_model verb rule number (planless c h is r n) = file_model verb h.bytes h.file

  -- that stands in the words of the command
  pub lacking_verb : (verb : Verb) (rule number : ℕ) → LacksPlan call verb line m rule number → line.verb ≡ verb
  lacking_verb verb rule number (unread bytes h breach) = h.is_verb
  lacking_verb verb rule number (planless c h is r n) = h.file.is_verb

  -- ---- the set rows and forms that `worst` makes
  pub forms_sought : (c : Certificate) (form : ℕ) → HasSought call line m c form → HasForms call line m
  forms_sought c form h = h.plan.certificate.file.read

  pub forms_unplanned : (rule number : ℕ) → LacksPlan call verbs.Worst line m rule number → HasForms call line m
  forms_unplanned rule number (unread bytes h breach) = h.read
  forms_unplanned rule number (planless c h is r n) = h.file.read

  pub forms_unnamed : (c : Certificate) (name : Word) → NamesNoForm call line m c name → HasForms call line m
  forms_unnamed c name h = h.plan.certificate.file.read
