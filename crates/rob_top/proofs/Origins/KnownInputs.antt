-- What was read for a call was read for its known part.
use Rattle.std.proofs.Common.{◌≡◌, ℕ, Bool, true, false, List, [], ◌∷◌, Option, Some, IfSome, refl, subst}
use Rattle.rob_algebra.specs.Fraction.{Fraction}
use Rattle.rob_meaning.specs.Certificates.{Certificate}
use Rattle.rob_meaning.specs.Places.{Each}
use Rattle.rob_meaning.specs.RobustModel.{RobustModel}
use Rattle.rob_model.specs.declared.place.Spot.{Spot}
use Rattle.rob_outside.specs.Fetches.{Fetch}
use Rattle.rob_outside.specs.Files.{File, Found, whole, found_at}
use Rattle.rob_reach.specs.Trees.{Tree}
use Rattle.rob_top.specs.Branched.{BreaksWhole, no_ranges, no_variables}
use Rattle.rob_top.specs.Calls.{Call, Known, Source, by_fetches, by_files, known_call, known_source}
use Rattle.rob_top.specs.Commands.{elaborates}
use Rattle.rob_top.specs.Files.{Came, HasFile, IsFirstAbsent, IsFoundIn, Request, answer_to, requests}
use Rattle.rob_top.specs.Inputs.{HasCertificate, HasCertificateFile, HasForms, HasModel, HasPlan, HasScenarioFile, HasSought, HasVariables, HasWholeVariables, HasRead, LacksPlan, planless, unread}
use Rattle.rob_top.specs.Refused.{IsWideSpot, checking, elaborating, replaying, searching}
use Rattle.rob_top.specs.Searched.{NamesNoForm}
use Rattle.rob_top.specs.TreeChecked.{HasTree, HasTreeFile}
use Rattle.rob_top.specs.Swept.{BreaksSweep, HasLimit, HasSweep, at_limit, at_limits}
use Rattle.rob_words.specs.Commands.{Line}
use Rattle.rob_words.specs.declared.verb.Own.{Own}
use Rattle.rob_words.specs.declared.verb.Own.TheVariants as own
use Rattle.rob_words.specs.declared.verb.Verb.TheVariants as verbs
use Rattle.rob_words.specs.declared.verb.Verb.{Verb}

-- the part decides as well
pub known_again : {source : Source} (known : Known source) → Known (known_source known)
known_again (by_files files e) = by_files files refl
known_again (by_fetches fetches e) = by_fetches fetches refl

found_in_part : {source : Source} (known : Known source) (request : Request) (found : Found)
    → IsFoundIn source request found
    → IsFoundIn (known_source known) request found
found_in_part (by_files files e) request found h =
    (subst (λ (t : Option (List File)). IfSome t (λ fs. found_at request.name request.most fs ≡ found)) e h.0, tt)
found_in_part (by_fetches fetches e) request found h =
    (tt, subst (λ (t : Option (List Fetch)). IfSome t (λ fs. answer_to request fs ≡ Some found)) e h.1)

module _ (call : Call) (known : Known call.source) where
  abbrev part : Call
  part = known_call call known

  pub came_all : (list : List Request) → Each (Came call) list → Each (Came part) list
  came_all [] h = tt
  came_all (r ∷ list) h = ((h.0.0, found_in_part known r (whole h.0.0) h.0.1), came_all list h.1)

  pub absent_known : (found : Found) (name : _) → IsFirstAbsent call found name → IsFirstAbsent part found name
  absent_known found name h = record {
    line = h.line;
    spelled = h.spelled;
    before = h.before;
    request = h.request;
    behind = h.behind;
    order = h.order;
    came = came_all h.before h.came;
    absent = found_in_part known h.request found h.absent;
    named = h.named;
  }

  pub file_held : (line : Line) (kind : Own) (bytes : List ℕ) → HasFile call line kind bytes
      → HasFile part line kind bytes
  file_held line kind bytes h = record {
    request = h.request;
    named = h.named;
    found = found_in_part known h.request (whole bytes) h.found;
  }

  module _ (line : Line) (m : RobustModel) where
    pub model_known : HasModel call line m → HasModel part line m
    model_known h = record {
      spelled = h.spelled;
      came = came_all (requests line) h.came;
      bytes = h.bytes;
      file = file_held line own.Model h.bytes h.file;
      reads = h.reads;
    }

    pub forms_known : HasForms call line m → HasForms part line m
    forms_known h = record { model = model_known h.model; none_wide = h.none_wide }

    read_known : (makes : Bool) → HasRead call makes line m → HasRead part makes line m
    read_known true h = forms_known h
    read_known false h = model_known h

    pub file_known : (verb : Verb) (bytes : List ℕ) → HasCertificateFile call verb line m bytes
        → HasCertificateFile part verb line m bytes
    file_known verb bytes h = record {
      read = read_known (elaborates verb) h.read;
      is_verb = h.is_verb;
      file = file_held line own.Certificate bytes h.file;
    }

    pub certificate_known : (verb : Verb) (c : Certificate) → HasCertificate call verb line m c
        → HasCertificate part verb line m c
    certificate_known verb c h =
        record { bytes = h.bytes; file = file_known verb h.bytes h.file; text = h.text; fits = h.fits }

    plan_known : (verb : Verb) (c : Certificate) → HasPlan call verb line m c → HasPlan part verb line m c
    plan_known verb c h = record { certificate = certificate_known verb c h.certificate; has_plan = h.has_plan }

    pub lacking_known : (verb : Verb) (rule number : ℕ) → LacksPlan call verb line m rule number
        → LacksPlan part verb line m rule number
    lacking_known verb rule number (unread bytes h breach) = unread bytes (file_known verb bytes h) breach
    lacking_known verb rule number (planless c h is r n) = planless c (certificate_known verb c h) is r n

    pub scenarios_known : (c : Certificate) (bytes : List ℕ) → HasScenarioFile call line m c bytes
        → HasScenarioFile part line m c bytes
    scenarios_known c bytes h =
        record { plan = plan_known verbs.Replay c h.plan; file = file_held line own.Scenarios bytes h.file }

    pub variables_known : (numbers : List ℕ) → HasVariables call line m numbers → HasVariables part line m numbers
    variables_known numbers h = record {
      model = model_known h.model;
      names = h.names;
      told = h.told;
      variables = h.variables;
    }

    pub whole_known : (numbers : List ℕ) → HasWholeVariables call line m numbers → HasWholeVariables part line m numbers
    whole_known numbers h = record { named = variables_known numbers h.named; keeps = h.keeps }

    pub tree_file_known : (names bytes : List ℕ) → HasTreeFile call line m names bytes
        → HasTreeFile part line m names bytes
    tree_file_known names bytes h = record {
      variables = whole_known names h.variables;
      is_checktree = h.is_checktree;
      file = file_held line own.Tree bytes h.file;
    }

    pub tree_known : (names : List ℕ) (t : Tree) → HasTree call line m names t → HasTree part line m names t
    tree_known names t h =
        record { bytes = h.bytes; file = tree_file_known names h.bytes h.file; text = h.text; fits = h.fits }

    pub breaking_known : (rule : ℕ) → BreaksWhole call line m rule → BreaksWhole part line m rule
    breaking_known rule (no_variables names h told none e) = no_variables names (model_known h) told none e
    breaking_known rule (no_ranges numbers h e) = no_ranges numbers (variables_known numbers h) e

    pub sought_known : (c : Certificate) (form : ℕ) → HasSought call line m c form → HasSought part line m c form
    sought_known c form h = record { plan = plan_known verbs.Worst c h.plan; is_form = h.is_form; told = h.told }

    pub unnamed_known : (c : Certificate) (name : _) → NamesNoForm call line m c name → NamesNoForm part line m c name
    unnamed_known c name h = record { plan = plan_known verbs.Worst c h.plan; told = h.told; none = h.none }

    pub sweep_known : (n : ℕ) (limits : List Fraction) → HasSweep call line m n limits → HasSweep part line m n limits
    sweep_known n limits h = record {
      model = model_known h.model;
      is_sweep = h.is_sweep;
      statement = h.statement;
      limits_are = h.limits_are;
    }

    pub limit_known : (n : ℕ) (g : Fraction) → HasLimit call line m n g → HasLimit part line m n g
    limit_known n g h = record {
      model = model_known h.model;
      is_text = h.is_text;
      statement = h.statement;
      limit_is = h.limit_is;
    }

    pub breaking_sweep_known : (rule : ℕ) → BreaksSweep call line m rule → BreaksSweep part line m rule
    breaking_sweep_known rule (at_limits n limits h breaks) = at_limits n limits (sweep_known n limits h) breaks
    breaking_sweep_known rule (at_limit n g h none e) = at_limit n g (limit_known n g h) none e

    pub spot_known : (spot : Spot) → IsWideSpot call line m spot → IsWideSpot part line m spot
    spot_known spot (elaborating h makes first) = elaborating (model_known h) makes first
    spot_known spot (checking c place h e verdict) = checking c place (certificate_known verbs.Check c h) e verdict
    spot_known spot (replaying c bytes number h e gives) = replaying c bytes number (scenarios_known c bytes h) e gives
    spot_known spot (searching c form h wide) = searching c form (sought_known c form h) wide
