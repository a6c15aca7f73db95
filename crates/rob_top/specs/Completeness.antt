-- Which answer has to come. The words and the files decide it, and a number that is wide is named; a fault of the
-- outside and want of memory may come in its place, which say nothing of the model.
use Rattle.std.specs.Prelude.{◌≡◌, ◌⊎◌, ℕ, List, []}
use Rattle.rob_algebra.specs.Fraction.{Fraction}
use Rattle.rob_check.specs.Conditions.{verdict_of}
use Rattle.rob_check.specs.Narrow.{IsFirstFailing, NoneWide}
use Rattle.rob_dualize.specs.Solving.{IsNarrowModel}
use Rattle.rob_meaning.specs.Certificates.{Certificate, Status}
use Rattle.rob_meaning.specs.Places.{Each}
use Rattle.rob_meaning.specs.Proves.{HasStatus, Proves}
use Rattle.rob_meaning.specs.RobustModel.{RobustModel}
use Rattle.rob_meaning.specs.UncertaintySet.{Admits, IsEmptySet}
use Rattle.rob_model.specs.declared.place.Place.{Place}
use Rattle.rob_model.specs.declared.place.Spot.{Spot}
use Rattle.rob_outside.specs.Files.{missing, too_long}
use Rattle.rob_rules.specs.Texts.{Breaks}
use Rattle.rob_reach.specs.Sweeps.{IsBudgetAt}
use Rattle.rob_reach.specs.WholeStatus.{HasWholeStatus}
use Rattle.rob_replay.specs.Files.{IsFile}
use Rattle.rob_replay.specs.Outcome.{outcome}
use Rattle.rob_runs.specs.Spots.{IsWideSlack}
use Rattle.rob_sets.specs.FirstWide.{IsFirstWide}
use Rattle.rob_sweep.specs.Stops.{BreaksRule, KeepsRules}
use Rattle.rob_top.specs.Branched.{BreaksWhole}
use Rattle.rob_top.specs.Calls.{Call, Known, known_call, limit_of}
use Rattle.rob_top.specs.Commands.{IsBranching, IsElaborating, IsSolving}
use Rattle.rob_top.specs.Files.{Came, HasFile, IsFirstAbsent, requests}
use Rattle.rob_top.specs.Inputs.{BreaksCertificate, HasCertificate, HasCertificateFile, HasForms, HasModel, HasScenarioFile, HasSought, HasWholeVariables, LacksPlan}
use Rattle.rob_top.specs.Replayed.{replay_ended}
use Rattle.rob_top.specs.Routes.{IsWideOnWay}
use Rattle.rob_top.specs.Searched.{IsWideSought, NamesNoForm, certificate_vector}
use Rattle.rob_top.specs.ComparedEnds.{MustEndCompared}
use Rattle.rob_top.specs.SplitEnds.{MustEndSplit}
use Rattle.rob_top.specs.TreeEnds.{MustEndTree}
use Rattle.rob_top.specs.Swept.{HasLimit, HasSweep}
use Rattle.rob_top.specs.Work.{verdict_ended}
use Rattle.rob_commands.specs.Replies.{ended_of}
use Rattle.rob_commands.specs.declared.ended.Ended.{Ended}
use Rattle.rob_commands.specs.declared.ended.Ended.TheVariants.{Printed, Accepted, Rejected, Words, Missing, TooLong, Model, TooWide, WideNode, Cert, Whole, Sweep, NoRow}
use Rattle.rob_words.specs.Commands.{Line, IsCommandLine, IsSpelled}
use Rattle.rob_words.specs.Values.{Word}
use Rattle.rob_words.specs.declared.route.Route.TheVariants.{Dual}
use Rattle.rob_words.specs.declared.verb.Own.TheVariants as own
use Rattle.rob_words.specs.declared.verb.Verb.TheVariants.{Rows, Text, Narrow}
use Rattle.rob_top.specs.Endings.{IsUnput, EndsAs, IsSolveAnswer, IsEmptyAnswer, IsShownAnswer, IsProvedAnswer, IsWholeAnswer, IsWorstAnswer, IsEmptyWholeAnswer, IsSweepAnswer, IsNarrowAt, IsNarrowBelow, NamesWideSought}
use Rattle.rob_elab.specs.Written.{judged}
use Rattle.rob_words.specs.declared.verb.Verb.TheVariants as verbs

-- ---- how a call must end, by its words and by what is found of its files

module _ (call : Call) (result : Ended) where
  -- for each situation: where it is met, the answer that is asked for comes
  pub record MustEnd : Type 0 where
    -- words: they are no command line, and no read fault comes in the place of that answer
    pub words : (IsCommandLine call.words → ⊥) → (result ≡ Words) ⊎ IsUnput result
    -- files: the first that doesn't come isn't there
    pub missing : (name : Word) → IsFirstAbsent call missing name → EndsAs Missing result
    -- or it is longer than it may be
    pub too_long : (name : Word) → IsFirstAbsent call too_long name → EndsAs TooLong result
    -- the model's text: all files come, and it breaks a rule, so that rule and its line are named
    pub model : (line : Line) (bytes : List ℕ) (rule number : ℕ) → IsSpelled call.words line
        → Each (Came call) (requests line) → HasFile call line own.Model bytes
        → Breaks (limit_of line) bytes rule number → EndsAs (Model rule number) result
    -- set rows and forms, where the command makes them: a number of them is wide, so the first such number is named
    pub wide : (line : Line) (m : RobustModel) (spot : Spot) → HasModel call line m → IsElaborating line.verb
        → IsFirstWide (limit_of line) m (judged m) spot → EndsAs (TooWide spot) result
    -- no number of them is wide, and the command is `rows`, so they are printed
    pub rows : (line : Line) (m : RobustModel) → HasForms call line m → line.verb ≡ Rows → EndsAs Printed result
    -- `solve` and `prove`: the answer is a status that the model has, or an empty set, or a wide number on the way of
    -- the line's route
    pub solving : (line : Line) (m : RobustModel) → HasForms call line m → IsSolving line.verb
        → IsSolveAnswer line.way (limit_of line) m result
    -- no joint scenario is admitted, as where any set is empty, so it is that, with the weights that show it, or a
    -- row of the set's program is wide, and that is refused for it
    pub empty : (line : Line) (m : RobustModel) → HasForms call line m → IsSolving line.verb → IsEmptySet m
        → IsEmptyAnswer (limit_of line) m result
    -- some joint scenario is admitted, and on that way no number is wide but in rows for which their programs are not
    -- refused, so it is the model's status
    pub status : (line : Line) (m : RobustModel) (status : Status) (v : Fraction) (u : List Fraction)
        → HasForms call line m
        → IsSolving line.verb → HasStatus m status v → Admits m u
        → ((spot : Spot) → IsWideOnWay line.way (limit_of line) m spot → ⊥) → EndsAs (ended_of status) result
    -- `narrow`: no number of the set rows and forms is wide, so the bounds are printed
    pub narrow : (line : Line) (m : RobustModel) → HasForms call line m → line.verb ≡ Narrow → EndsAs Printed result
    -- `solve` and `prove` of a narrow model, whose two programs have bounds within the limit, by the counterpart: no
    -- wide number is named
    pub narrow_spot : (line : Line) (m : RobustModel) (spot : Spot) → HasForms call line m
        → IsSolving line.verb → line.way ≡ Dual
        → IsNarrowModel (limit_of line) m → (result ≡ TooWide spot) → ⊥
    -- some joint scenario is admitted, so it is the model's status, which it has
    pub narrow_status : (line : Line) (m : RobustModel) (u : List Fraction) → HasForms call line m
        → IsSolving line.verb → line.way ≡ Dual
        → IsNarrowModel (limit_of line) m → Admits m u
        → (status : Status) × (v : Fraction) × HasStatus m status v × EndsAs (ended_of status) result
    -- none is, so it is that, with the weights that show it, by either route
    pub narrow_empty : (line : Line) (m : RobustModel) → HasForms call line m → IsSolving line.verb
        → IsNarrowModel (limit_of line) m → IsEmptySet m → IsShownAnswer m result
    -- `check`: the certificate's text breaks a rule, so that rule and its line are named
    pub broken : (line : Line) (m : RobustModel) (bytes : List ℕ) (rule number : ℕ)
        → HasCertificateFile call verbs.Check line m bytes
        → BreaksCertificate (limit_of line) m bytes rule number → EndsAs (Cert rule number) result
    -- it is the text of a certificate, so the answer is the verdict on it
    pub verdict : (line : Line) (m : RobustModel) (c : Certificate) → HasCertificate call verbs.Check line m c
        → EndsAs (verdict_ended (verdict_of (limit_of line) m c)) result
    -- the certificate proves, so it is accepted, or a number of the check is wide
    pub proved : (line : Line) (m : RobustModel) (c : Certificate) → HasCertificate call verbs.Check line m c
        → Proves m c
        → IsProvedAnswer (limit_of line) m c result
    -- it proves, and no number of the check is wide, so it is accepted
    pub accepted : (line : Line) (m : RobustModel) (c : Certificate) → HasCertificate call verbs.Check line m c
        → NoneWide (limit_of line) m c → Proves m c → EndsAs Accepted result
    -- it doesn't prove, and no number of the check is wide, so it is rejected, at the first place whose condition fails
    pub rejected : (line : Line) (m : RobustModel) (c : Certificate) → HasCertificate call verbs.Check line m c
        → NoneWide (limit_of line) m c → (Proves m c → ⊥)
        → (place : Place) × IsFirstFailing (limit_of line) m c place × EndsAs (Rejected place) result
    -- `replay`: the certificate gives no plan, so the rule and the line are named
    pub planless : (line : Line) (m : RobustModel) (rule number : ℕ) → LacksPlan call verbs.Replay line m rule number
        → EndsAs (Cert rule number) result
    -- it gives one, so the answer is by the file's records: the table, the first broken rule, or the first record with
    -- a wide number
    pub replayed : (line : Line) (m : RobustModel) (c : Certificate) (bytes : List ℕ) (rows : List (List (List ℕ)))
        → HasScenarioFile call line m c bytes → IsFile bytes rows
        → EndsAs (replay_ended (outcome (limit_of line) m c.plan rows)) result
    -- `whole`, `tree` and `checktree`: the named variables break a rule, so the first is named
    pub whole_rule : (line : Line) (m : RobustModel) (rule : ℕ) → BreaksWhole call line m rule
        → EndsAs (Whole rule) result
    -- `whole` and `tree`: they break none, so the answer is a status that the model has over plans whose named
    -- variables are whole, or an empty set, or a number that is wide in a box
    pub whole : (line : Line) (m : RobustModel) (names : List ℕ)
        → HasWholeVariables call line m names → IsBranching line.verb
        → IsWholeAnswer (limit_of line) m names result
    -- a number of the set rows and forms is wide, so the first such number is named, with the empty path
    pub whole_wide : (line : Line) (m : RobustModel) (names : List ℕ) (spot : Spot)
        → HasWholeVariables call line m names
        → IsBranching line.verb → IsFirstWide (limit_of line) m (judged m) spot
        → EndsAs (WideNode [] spot) result
    -- no joint scenario is admitted, so it is that, with the weights that show it, or a wide number of the set rows
    -- and forms, or of the set's program
    pub whole_empty : (line : Line) (m : RobustModel) (names : List ℕ) → HasWholeVariables call line m names
        → IsBranching line.verb → IsEmptySet m → IsEmptyWholeAnswer (limit_of line) m result
    -- some joint scenario is admitted, and no number is wide in a box, so it is the model's status, which it has
    pub whole_status : (line : Line) (m : RobustModel) (names : List ℕ) (u : List Fraction)
        → HasWholeVariables call line m names
        → IsBranching line.verb → Admits m u → IsNarrowBelow (limit_of line) m names
        → (status : Status) × (v : Fraction) × HasWholeStatus m names status v × EndsAs (ended_of status) result
    -- `worst`: the certificate gives no plan, so the rule and the line are named
    pub no_plan : (line : Line) (m : RobustModel) (rule number : ℕ) → LacksPlan call verbs.Worst line m rule number
        → EndsAs (Cert rule number) result
    -- it gives one, and the word is no form's name
    pub no_row : (line : Line) (m : RobustModel) (c : Certificate) (name : Word) → NamesNoForm call line m c name
        → EndsAs NoRow result
    -- it is a form's name: the answer is its worst case, or an empty set, or a number that is wide
    pub worst : (line : Line) (m : RobustModel) (c : Certificate) (form : ℕ) → HasSought call line m c form
        → IsWorstAnswer (limit_of line) m form (certificate_vector c) result
    -- no joint scenario is admitted, so it is that, with the weights that show it, or a row of the set's program is
    -- wide, and that is refused for it
    pub worst_empty : (line : Line) (m : RobustModel) (c : Certificate) (form : ℕ)
        → HasSought call line m c form → IsEmptySet m
        → IsEmptyAnswer (limit_of line) m result
    -- some is, and on the way no number is wide but in rows for which their programs are not refused, so the worst case
    -- is printed
    pub worst_printed : (line : Line) (m : RobustModel) (c : Certificate) (form : ℕ) (u : List Fraction)
        → HasSought call line m c form → Admits m u
        → ((spot : Spot) → IsWideSought (limit_of line) m form (certificate_vector c) spot → ⊥) → EndsAs Printed result
    -- a number of the slack is wide, so a wide number is named
    pub worst_slack : (line : Line) (m : RobustModel) (c : Certificate) (form : ℕ) → HasSought call line m c form
        → IsWideSlack (limit_of line) m form (certificate_vector c)
        → NamesWideSought (limit_of line) m form (certificate_vector c) result
    -- `checktree`: specs/TreeEnds.antt
    pub tree : MustEndTree call result
    -- `sweep`: the statement is no budget, or the limits don't rise, so the first broken rule is named
    pub sweep_rule : (line : Line) (m : RobustModel) (n : ℕ) (limits : List Fraction) (rule : ℕ)
        → HasSweep call line m n limits
        → BreaksRule m.set_lines n limits rule → EndsAs (Sweep rule) result
    -- no rule is broken: the answers are printed, or a number is wide at a limit
    pub sweep : (line : Line) (m : RobustModel) (n : ℕ) (limits : List Fraction) → HasSweep call line m n limits
        → KeepsRules m.set_lines n limits → IsSweepAnswer (limit_of line) m n limits result
    -- and none is at any, so they are printed
    pub sweep_narrow : (line : Line) (m : RobustModel) (n : ℕ) (limits : List Fraction) → HasSweep call line m n limits
        → KeepsRules m.set_lines n limits → IsNarrowAt (limit_of line) m n limits → EndsAs Printed result
    -- `sweeptext`: the statement is no budget, so that rule is named
    pub limit_rule : (line : Line) (m : RobustModel) (n : ℕ) (g : Fraction) → HasLimit call line m n g
        → (IsBudgetAt m.set_lines n → ⊥) → EndsAs (Sweep 81) result
    -- it is one, so the text of the model with that limit is printed
    pub limited : (line : Line) (m : RobustModel) (n : ℕ) (g : Fraction) → HasLimit call line m n g
        → IsBudgetAt m.set_lines n → EndsAs Printed result
    -- `cells` and `celltext`: specs/SplitEnds.antt
    pub split : MustEndSplit call result
    -- `gen`: specs/ComparedEnds.antt
    pub compared : MustEndCompared call result
    -- `text`: the model of the number is printed; no file is asked for, so no read fault comes in the place of that
    -- answer
    pub generated : (line : Line) → IsSpelled call.words line → line.verb ≡ Text → (result ≡ Printed) ⊎ IsUnput result

-- the call ends so by each part of what is known of its files: the files that the shelf tells, where it tells them,
-- or the answers of the fetches in the call, which every shelf gives
abbrev pub IsComplete : Call → Ended → Type 0
IsComplete call result = (known : Known call.source) → MustEnd (known_call call known) result
