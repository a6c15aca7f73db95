-- What was read: the model, its whole numbers, the certificate, the scenario file, the variables or the form that are
-- named, by a call's words and its files.
use Rattle.std.specs.Prelude.{◌≡◌, ◌≢◌, ◌<◌, ℕ, Bool, true, false, List, Some, None, length, map}
use Rattle.rob_cert.specs.Apart.{FitsLines}
use Rattle.rob_cert.specs.Causes.{HasCause}
use Rattle.rob_cert.specs.Reading.{start}
use Rattle.rob_cert.specs.Spelling.{name_at, naming_of}
use Rattle.rob_cert.specs.Whole.{IsTextOf}
use Rattle.rob_cert.specs.declared.error.CertErr.TheVariants.{Rule}
use Rattle.rob_meaning.specs.Certificates.{Certificate, infeasible}
use Rattle.rob_meaning.specs.Names.{column_names, form_names}
use Rattle.rob_meaning.specs.Places.{Each}
use Rattle.rob_meaning.specs.RobustModel.{RobustModel}
use Rattle.rob_parse.specs.Modelled.{ReadsModel}
use Rattle.rob_reach.specs.Ranges.{KeepsNames, whole_rule}
use Rattle.rob_top.specs.Calls.{Call, limit_of}
use Rattle.rob_top.specs.Commands.{elaborates}
use Rattle.rob_top.specs.Files.{Came, HasFile, requests, word_of}
use Rattle.rob_words.specs.Commands.{Line, IsSpelled}
use Rattle.rob_words.specs.Names.{parts_of}
use Rattle.rob_words.specs.Values.{Word}
use Rattle.rob_words.specs.Verbs.{own_of}
use Rattle.rob_words.specs.declared.verb.Own.TheVariants as own
use Rattle.rob_words.specs.declared.verb.Verb.{Verb}
use Rattle.rob_words.specs.declared.verb.Verb.TheVariants.{Replay, Worst}
use Rattle.rob_elab.specs.Written.{IsWritten}

-- the command line's own word that is a list of names has these
pub record TellsNames (line : Line) (names : List Word) : Type 0 where
  pub word : Word
  pub told : word_of own.Names (own_of line.verb) line.own ≡ Some word
  pub parts : names ≡ parts_of word

-- the command line's own word that names a form is this
abbrev pub TellsForm : Line → Word → Type 0
TellsForm line name = word_of own.Form (own_of line.verb) line.own ≡ Some name

-- these are the names of different variables of the model, which have these numbers: a variable has that of its column
pub record AreVariables (m : RobustModel) (names : List Word) (numbers : List ℕ) : Type 0 where
  pub named : map (name_at (column_names m)) numbers ≡ names
  pub kept : KeepsNames m numbers

-- the bytes are the text of no certificate of the model with numbers within the limit: they break this rule first, at
-- this line
abbrev pub BreaksCertificate : ℕ → RobustModel → List ℕ → ℕ → ℕ → Type 0
BreaksCertificate limit m bytes rule number = HasCause (naming_of m) limit start bytes 1 (Rule rule number)

module _ (call : Call) where
  -- the words are this command line, the files that it names came, and that of its model has these bytes
  pub record HasModelText (line : Line) (bytes : List ℕ) : Type 0 where
    pub spelled : IsSpelled call.words line
    pub came : Each (Came call) (requests line)
    pub file : HasFile call line own.Model bytes

  -- the words are this command line, the files that it names came, and that of its model reads, at the line's width,
  -- as this model
  pub record HasModel (line : Line) (m : RobustModel) : Type 0 where
    pub spelled : IsSpelled call.words line
    pub came : Each (Came call) (requests line)
    pub bytes : List ℕ
    pub file : HasFile call line own.Model bytes
    pub reads : ReadsModel (limit_of line) bytes m

  -- and no number of its set rows and forms is wide
  pub record HasForms (line : Line) (m : RobustModel) : Type 0 where
    pub model : HasModel line m
    pub none_wide : IsWritten (limit_of line) m

  -- ---- certificates

  -- what was read of the model: where set rows and forms are made, none of their numbers is wide
  abbrev pub HasRead : Bool → Line → RobustModel → Type 0
  HasRead true line m = HasForms line m
  HasRead false line m = HasModel line m

  -- the words say this command, `check`, `replay` or `worst`, the model was read, with the set rows and forms that the
  -- command makes of it, and the file of the certificate came, with these bytes
  pub record HasCertificateFile (verb : Verb) (line : Line) (m : RobustModel) (bytes : List ℕ) : Type 0 where
    pub read : HasRead (elaborates verb) line m
    pub is_verb : line.verb ≡ verb
    pub file : HasFile call line own.Certificate bytes

  -- and it is the text of this certificate, whose numbers are within the line's width; whether it proves isn't asked
  pub record HasCertificate (verb : Verb) (line : Line) (m : RobustModel) (c : Certificate) : Type 0 where
    pub bytes : List ℕ
    pub file : HasCertificateFile verb line m bytes
    pub text : IsTextOf m c bytes
    pub fits : FitsLines (limit_of line) m c

  -- and it has a plan, as each has but one that claims an infeasible model
  pub record HasPlan (verb : Verb) (line : Line) (m : RobustModel) (c : Certificate) : Type 0 where
    pub certificate : HasCertificate verb line m c
    pub has_plan : c.status ≢ infeasible

  -- the certificate gives no plan: its text breaks the rule at the line, first; or it claims an infeasible model,
  -- which is rule 34 at line 1
  pub data LacksPlan (verb : Verb) (line : Line) (m : RobustModel) (rule number : ℕ) : Type 0 where
    unread : (bytes : List ℕ) → HasCertificateFile verb line m bytes
        → BreaksCertificate (limit_of line) m bytes rule number → LacksPlan verb line m rule number
    planless : (c : Certificate) → HasCertificate verb line m c → c.status ≡ infeasible → rule ≡ 34 → number ≡ 1
        → LacksPlan verb line m rule number

  -- `replay` has a certificate with a plan, and the scenario file came, with these bytes
  pub record HasScenarioFile (line : Line) (m : RobustModel) (c : Certificate) (bytes : List ℕ) : Type 0 where
    pub plan : HasPlan Replay line m c
    pub file : HasFile call line own.Scenarios bytes

  -- ---- variables that take whole numbers

  -- the model was read, and the names in the words are those of different variables, with these numbers
  pub record HasVariables (line : Line) (m : RobustModel) (numbers : List ℕ) : Type 0 where
    pub model : HasModel line m
    pub names : List Word
    pub told : TellsNames line names
    pub variables : AreVariables m names numbers

  -- and each of them has both bounds, and the product of their ranges is at most 1,000
  pub record HasWholeVariables (line : Line) (m : RobustModel) (numbers : List ℕ) : Type 0 where
    pub named : HasVariables line m numbers
    pub keeps : whole_rule m numbers ≡ None

  -- ---- `worst`

  -- it has a certificate with a plan, and the words name this form
  pub record HasSought (line : Line) (m : RobustModel) (c : Certificate) (form : ℕ) : Type 0 where
    pub plan : HasPlan Worst line m c
    pub is_form : form < length (form_names m)
    pub told : TellsForm line (name_at (form_names m) form)
