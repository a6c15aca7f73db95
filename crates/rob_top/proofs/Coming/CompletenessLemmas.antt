-- How a call must end: what its words and files decide, in one record; and what
-- follows for the text that `prove` prints.
use Rattle.std.proofs.Common.{◌≡◌, ℕ, ◌-◌, ◌^◌, List, [], refl, sym, ◌∙◌, ap, subst, inl, inr, ◌⊎◌}
use Rattle.rob_cert.specs.Apart.{FitsLines}
use Rattle.rob_cert.specs.Shape.{HasShape}
use Rattle.rob_cert.specs.Whole.{IsTextOf}
use Rattle.rob_check.proofs.NarrowLemmas.{narrow_decided}
use Rattle.rob_check.proofs.ProofLaws.{proves_judged}
use Rattle.rob_check.specs.Conditions.{verdict_of}
use Rattle.rob_check.specs.Narrow.{IsDecided, IsFirstFailing, NoneWide}
use Rattle.rob_check.specs.Verdicts.{Judges}
use Rattle.rob_dualize.proofs.SolvingLemmas.{narrow_spot}
use Rattle.rob_dualize.specs.Solving.{IsNarrowModel}
use Rattle.rob_check.specs.declared.verdict.Verdict.{Verdict}
use Rattle.rob_check.specs.declared.verdict.Verdict.TheVariants as verdicts
use Rattle.rob_meaning.specs.Certificates.{Certificate, Status, infeasible}
use Rattle.rob_meaning.specs.Proves.{HasStatus, Proves}
use Rattle.rob_meaning.specs.RobustModel.{RobustModel}
use Rattle.rob_meaning.specs.UncertaintySet.{Admits, IsEmptySet}
use Rattle.rob_meaning.specs.WellFormed.{IsModel}
use Rattle.rob_model.specs.declared.place.Place.{Place}
use Rattle.rob_model.specs.declared.place.Spot.{Spot}
use Rattle.rob_algebra.specs.Fraction.{Fraction}
use Rattle.rob_reach.specs.WholeStatus.{HasWholeStatus}
use Rattle.rob_runs.specs.Spots.{IsWideSlack}
use Rattle.rob_sweep.specs.Stops.{KeepsRules}
use Rattle.rob_top.proofs.Coming.AnswerLemmas.{no_command}
use Rattle.rob_top.proofs.Coming.ComingLemmas.{Comes, comes_ends, ends_in}
use Rattle.rob_top.proofs.Coming.ComparedAnswerLemmas.{compared_ends}
use Rattle.rob_top.proofs.Origins.KnownInputs.{known_again}
use Rattle.rob_top.proofs.Origins.KnownLemmas.{means_known}
use Rattle.rob_replay.specs.Outcome.{outcome}
use Rattle.rob_top.proofs.Meaning.GeneratedLemmas.{generated_decides}
use Rattle.rob_top.proofs.Coming.NarrowAnswerLemmas.{has_status, narrow_decides, no_wide_answer, shown_answer}
use Rattle.rob_top.proofs.Coming.ReplayAnswerLemmas.{planless_decides, replay_decides}
use Rattle.rob_top.proofs.Origins.ProgressLemmas.{broken_answer}
use Rattle.rob_top.proofs.Coming.AbsentAnswerLemmas.{missing_decides, too_long_decides}
use Rattle.rob_top.proofs.Origins.ReadOnceLemmas.{well}
use Rattle.rob_top.proofs.Coming.TrueAnswerLemmas.{empty_decides, rows_decide, rule_decides, solve_decides, status_decides, verdict_decides, wide_decides}
use Rattle.rob_top.proofs.Coming.WholeAnswerLemmas.{some_whole_status, whole_decides, whole_empty_decides, whole_status_decides, whole_wide_decides}
use Rattle.rob_top.proofs.Coming.WorstAnswerLemmas.{unnamed_decides, unplanned_decides, worst_decides, worst_empty_decides, worst_printed_decides, worst_slack_decides}
use Rattle.rob_top.proofs.Coming.TreeAnswerLemmas.{breaking_decides, tree_ends}
use Rattle.rob_top.proofs.Coming.SplitAnswerLemmas.{split_ends}
use Rattle.rob_top.proofs.Coming.SweepAnswerLemmas.{limit_decides, limit_rule_decides, narrow_sweep_decides, sweep_decides, sweep_rule_decides}
use Rattle.rob_top.specs.Calls.{Call, Known, Output, known_call, limit_of}
use Rattle.rob_top.specs.Commands.{IsBranching, IsSolving}
use Rattle.rob_top.specs.Completeness.{IsComplete, MustEnd}
use Rattle.rob_top.specs.Endings.{EndsAs, IsEmptyAnswer, IsEmptyWholeAnswer, IsNarrowBelow, IsOutside, IsProvedAnswer, IsSolveAnswer, IsSweepAnswer, IsUnput, IsWholeAnswer, IsWorstAnswer, NamesWideSought}
use Rattle.rob_top.specs.Headline.{Ends, Means}
use Rattle.rob_top.specs.Inputs.{HasCertificate, HasCertificateFile, HasForms, HasSought, HasWholeVariables}
use Rattle.rob_top.specs.Replayed.{replay_ended}
use Rattle.rob_top.specs.Routes.{IsWideOnWay}
use Rattle.rob_top.specs.Searched.{certificate_vector}
use Rattle.rob_top.specs.Solved.{IsPrinted, IsSolved}
use Rattle.rob_top.specs.Swept.{HasSweep}
use Rattle.rob_top.specs.Work.{verdict_ended}
use Rattle.rob_commands.specs.Replies.{ended_of}
use Rattle.rob_commands.specs.declared.ended.Ended.{Ended}
use Rattle.rob_commands.specs.declared.ended.Ended.TheVariants.{Optimal, Infeasible, Unbounded, Printed, Accepted, Rejected, Words, Missing, TooLong, Model, EmptySet, TooWide, WideNode, WideBudget, Cert, Scenarios, Whole, Sweep, Cells, Tree as TreeRule, TreeRejected, NoRow, ReadFault, WriteFault, Memory}
use Rattle.rob_words.specs.Commands.{Line, IsCommandLine}
use Rattle.rob_words.specs.Values.{bits_of}
use Rattle.rob_words.specs.declared.route.Route.{Route}
use Rattle.rob_words.specs.declared.route.Route.TheVariants.{Dual}
use Rattle.rob_words.specs.declared.verb.Verb.{Verb}
use Rattle.rob_words.specs.declared.verb.Verb.TheVariants.{Prove}
use Rattle.rob_words.specs.declared.width.Width.{Width}
use Rattle.rob_words.specs.declared.verb.Verb.TheVariants as verbs

-- one answer, where no file is read
comes_printed : (call : Call) (ended : Ended) → Comes call ended
    → ((text : List ℕ) → Means call ended text → (ended ≡ Printed) ⊎ (ended ≡ Memory))
    → (ended ≡ Printed) ⊎ IsUnput ended
comes_printed call ended (inl h) decides = by (decides h.0 h.1)
  where
    by : (ended ≡ Printed) ⊎ (ended ≡ Memory) → (ended ≡ Printed) ⊎ IsUnput ended
    by (inl e) = inl e
    by (inr e) = inr (inr e)
comes_printed call ended (inr e) decides = inr e

-- ---- the verdict on a certificate that proves
module _ (limit : ℕ) (m : RobustModel) (c : Certificate) where
  proved_outside : (ended : Ended) → IsOutside ended → IsProvedAnswer limit m c ended
  proved_outside ended (inl e) = subst (λ (x : Ended). IsProvedAnswer limit m c x) (sym e) (inl refl)
  proved_outside ended (inr (inl e)) = subst (λ (x : Ended). IsProvedAnswer limit m c x) (sym e) (inr (inl refl))
  proved_outside ended (inr (inr e)) = subst (λ (x : Ended). IsProvedAnswer limit m c x) (sym e) (inr (inr refl))

  proved_ends : IsModel m → HasShape m c → Proves m c → (ended : Ended)
      → EndsAs (verdict_ended (verdict_of limit m c)) ended
      → IsProvedAnswer limit m c ended
  proved_ends model shape proves ended (inr outside) = proved_outside ended outside
  proved_ends model shape proves ended (inl e) = by (verdict_of limit m c) refl
    where
      at : (v : Verdict) → verdict_of limit m c ≡ v → IsProvedAnswer limit m c (verdict_ended v)
          → IsProvedAnswer limit m c ended
      at v h answer = subst (λ (x : Ended). IsProvedAnswer limit m c x) (sym (e ∙ ap verdict_ended h)) answer

      by : (v : Verdict) → verdict_of limit m c ≡ v → IsProvedAnswer limit m c ended
      by verdicts.Accepted h = at verdicts.Accepted h tt
      by (verdicts.Rejected place) h =
          let not = subst (λ (v : Verdict). Judges (Proves m c) v) h (proves_judged limit m model c shape) in
          absurd (not proves)
      by (verdicts.TooWide place) h = at (verdicts.TooWide place) h h

-- ---- all of it

module _ (call : Call) (known : Known call.source) (ended : Ended) (comes : Comes call ended) where
  words_end : (IsCommandLine call.words → ⊥) → (ended ≡ Words) ⊎ IsUnput ended
  words_end none = by comes
    where
      by : Comes call ended → (ended ≡ Words) ⊎ IsUnput ended
      by (inl h) = inl (no_command call ended h.0 none h.1)
      by (inr e) = inr e

  module _ (line : Line) (m : RobustModel) where
    solving_ends : HasForms call line m → IsSolving line.verb → IsSolveAnswer line.way (limit_of line) m ended
    solving_ends has solves =
        ends_in call (λ (x : Ended). IsSolveAnswer line.way (limit_of line) m x) ended
        (inr (inl refl)) (inr (inr refl)) comes
        (solve_decides call known line m has solves ended)

    empty_ends : HasForms call line m → IsSolving line.verb → IsEmptySet m → IsEmptyAnswer (limit_of line) m ended
    empty_ends has solves none =
        ends_in call (λ (x : Ended). IsEmptyAnswer (limit_of line) m x) ended (inr (inl refl)) (inr (inr refl)) comes
        (empty_decides call known line m has solves none ended)

    -- a narrow model has no wide number on the way by the counterpart
    none_on_way : line.way ≡ Dual → IsNarrowModel (limit_of line) m → (spot : Spot)
        → IsWideOnWay line.way (limit_of line) m spot → ⊥
    none_on_way by_dual narrow spot wide =
        narrow_spot (limit_of line) m spot narrow
        (subst (λ (w : Route). IsWideOnWay w (limit_of line) m spot) by_dual wide)

    narrow_spot_ends : (spot : Spot) → HasForms call line m → IsSolving line.verb → line.way ≡ Dual
        → IsNarrowModel (limit_of line) m
        → ended ≡ TooWide spot → ⊥
    narrow_spot_ends spot has solves by_dual narrow =
        no_wide_answer (limit_of line) m narrow ended spot
        (subst (λ (w : Route). IsSolveAnswer w (limit_of line) m ended) by_dual (solving_ends has solves))

    narrow_status_ends : (u : List Fraction) → HasForms call line m → IsSolving line.verb → line.way ≡ Dual
        → IsNarrowModel (limit_of line) m → Admits m u
        → (status : Status) × (v : Fraction) × HasStatus m status v × EndsAs (ended_of status) ended
    narrow_status_ends u has solves by_dual narrow admitted =
        let s = has_status m (well call line m has.model) u admitted in (
          s.0,
          s.1,
          s.2,
          comes_ends call (ended_of s.0) ended comes
              (status_decides call known line m has solves s.0 s.1 s.2 u admitted (none_on_way by_dual narrow) ended),
        )

    module _ (names : List ℕ) (has : HasWholeVariables call line m names) (is : IsBranching line.verb) where
      whole_ends : IsWholeAnswer (limit_of line) m names ended
      whole_ends =
          ends_in call (λ (x : Ended). IsWholeAnswer (limit_of line) m names x) ended
          (inr (inl refl)) (inr (inr refl)) comes
          (whole_decides call known line m names has is ended)

      whole_empty_ends : IsEmptySet m → IsEmptyWholeAnswer (limit_of line) m ended
      whole_empty_ends none =
          ends_in call (λ (x : Ended). IsEmptyWholeAnswer (limit_of line) m x) ended
          (inr (inl refl)) (inr (inr refl)) comes
          (whole_empty_decides call known line m names has is none ended)

    module _ (c : Certificate) (form : ℕ) (has : HasSought call line m c form) where
      worst_ends : IsWorstAnswer (limit_of line) m form (certificate_vector c) ended
      worst_ends =
          ends_in call (λ (x : Ended). IsWorstAnswer (limit_of line) m form (certificate_vector c) x) ended
          (inr (inl refl)) (inr (inr refl)) comes
          (worst_decides call known line m c form has ended)

      worst_empty_ends : IsEmptySet m → IsEmptyAnswer (limit_of line) m ended
      worst_empty_ends none =
          ends_in call (λ (x : Ended). IsEmptyAnswer (limit_of line) m x) ended (inr (inl refl)) (inr (inr refl)) comes
          (worst_empty_decides call known line m c form has none ended)

      worst_slack_ends : IsWideSlack (limit_of line) m form (certificate_vector c)
          → NamesWideSought (limit_of line) m form (certificate_vector c) ended
      worst_slack_ends wide = by comes
        where
          by : Comes call ended → NamesWideSought (limit_of line) m form (certificate_vector c) ended
          by (inl h) = worst_slack_decides call known line m c form has wide ended h.0 h.1
          by (inr e) = inr (inr e)

    whole_status_ends : (names : List ℕ) (u : List Fraction) → HasWholeVariables call line m names
        → IsBranching line.verb → Admits m u
        → IsNarrowBelow (limit_of line) m names
        → (status : Status) × (v : Fraction) × HasWholeStatus m names status v × EndsAs (ended_of status) ended
    whole_status_ends names u has is admitted narrow =
        let s = some_whole_status call known line m names has is u admitted in (
          s.0,
          s.1,
          s.2,
          comes_ends call (ended_of s.0) ended comes
              (whole_status_decides call known line m names has is u admitted narrow s.0 s.1 s.2 ended),
        )

    sweep_ends : (n : ℕ) (gs : List Fraction) → HasSweep call line m n gs → KeepsRules m.set_lines n gs
        → IsSweepAnswer (limit_of line) m n gs ended
    sweep_ends n gs has keeps =
        ends_in call (λ (x : Ended). IsSweepAnswer (limit_of line) m n gs x) ended
        (inr (inl refl)) (inr (inr refl)) comes
        (sweep_decides call known line m n gs has keeps ended)

    module _ (c : Certificate) (has : HasCertificate call verbs.Check line m c) where
      read_model : IsModel m
      read_model = well call line m has.file.read.model

      verdict_ends : EndsAs (verdict_ended (verdict_of (limit_of line) m c)) ended
      verdict_ends =
          comes_ends call (verdict_ended (verdict_of (limit_of line) m c)) ended comes
          (verdict_decides call known line m c has ended)

      verdict_at : (v : Verdict) → verdict_of (limit_of line) m c ≡ v → EndsAs (verdict_ended v) ended
      verdict_at v e = subst (λ (x : Verdict). EndsAs (verdict_ended x) ended) e verdict_ends

      decided : NoneWide (limit_of line) m c → IsDecided (limit_of line) m c
      decided narrow = narrow_decided (limit_of line) m read_model c has.text.shape narrow

      rejected_ends : NoneWide (limit_of line) m c → (Proves m c → ⊥)
          → (place : Place) × IsFirstFailing (limit_of line) m c place × EndsAs (Rejected place) ended
      rejected_ends narrow not =
          let flaw = (decided narrow).rejected not in
          (flaw.0, flaw.1, verdict_at (verdicts.Rejected flaw.0) flaw.2)

  must_end : MustEnd call ended
  must_end = record {
    words = words_end;
    missing = λ name h. comes_ends call Missing ended comes (missing_decides call known name h ended);
    too_long = λ name h. comes_ends call TooLong ended comes (too_long_decides call known name h ended);
    model = λ line bytes rule number spelled came file breaks.
        comes_ends call (Model rule number) ended comes
        (λ text. broken_answer call known line spelled ended text bytes rule number came file breaks);
    wide = λ line m spot has makes first.
        comes_ends call (TooWide spot) ended comes (wide_decides call known line m has makes spot first ended);
    rows = λ line m has is. comes_ends call Printed ended comes (rows_decide call known line m has is ended);
    solving = solving_ends;
    empty = empty_ends;
    status = λ line m status v u has solves holds admitted narrow.
        comes_ends call _ ended comes
        (status_decides call known line m has solves status v holds u admitted narrow ended);
    narrow = λ line m has is. comes_ends call Printed ended comes (narrow_decides call known line m has is ended);
    narrow_spot = narrow_spot_ends;
    narrow_status = narrow_status_ends;
    narrow_empty =
        λ line m has solves narrow none.
        shown_answer (limit_of line) m narrow ended (empty_ends line m has solves none);
    broken = λ line m bytes rule number has breaks.
        comes_ends call (Cert rule number) ended comes
        (rule_decides call known line m bytes rule number has breaks ended);
    verdict = verdict_ends;
    proved = λ line m c has proves.
        proved_ends (limit_of line) m c (read_model line m c has) has.text.shape proves ended
        (verdict_ends line m c has);
    accepted = λ line m c has narrow proves.
        verdict_at line m c has verdicts.Accepted ((decided line m c has narrow).accepted.1 proves);
    rejected = rejected_ends;
    planless = λ line m rule number lacks.
        comes_ends call (Cert rule number) ended comes (planless_decides call known line m rule number lacks ended);
    replayed = λ line m c bytes rows has file.
        comes_ends call (replay_ended (outcome (limit_of line) m c.plan rows)) ended comes
        (replay_decides call known line m c bytes rows has file ended);
    whole_rule = λ line m rule breaks.
        comes_ends call (Whole rule) ended comes (breaking_decides call known line m rule breaks ended);
    whole = whole_ends;
    whole_wide = λ line m names spot has is first.
        comes_ends call (WideNode [] spot) ended comes
        (whole_wide_decides call known line m names has is spot first ended);
    whole_empty = whole_empty_ends;
    whole_status = whole_status_ends;
    no_plan = λ line m rule number lacks.
        comes_ends call (Cert rule number) ended comes
        (unplanned_decides call known line m rule number lacks ended);
    no_row = λ line m c name none.
        comes_ends call NoRow ended comes (unnamed_decides call known line m c name none ended);
    worst = worst_ends;
    worst_empty = worst_empty_ends;
    worst_printed = λ line m c form u has admitted narrow.
        comes_ends call Printed ended comes
        (worst_printed_decides call known line m c form has u admitted narrow ended);
    worst_slack = worst_slack_ends;
    tree = tree_ends call known ended comes;
    sweep_rule = λ line m n gs rule has breaks.
        comes_ends call (Sweep rule) ended comes (sweep_rule_decides call known line m n gs has rule breaks ended);
    sweep = sweep_ends;
    sweep_narrow = λ line m n gs has keeps narrow.
        comes_ends call Printed ended comes (narrow_sweep_decides call known line m n gs has keeps narrow ended);
    limit_rule = λ line m n g has none.
        comes_ends call (Sweep 81) ended comes (limit_rule_decides call known line m n g has none ended);
    limited = λ line m n g has budget.
        comes_ends call Printed ended comes (limit_decides call known line m n g has budget ended);
    split = split_ends call known ended comes;
    compared = compared_ends call known ended comes;
    generated = λ line spelled is. comes_printed call ended comes (generated_decides call known line spelled is ended);
  }

-- ---- by each part of what is known of the files

comes_complete : (call : Call) (ended : Ended) → Comes call ended → IsComplete call ended
comes_complete call ended (inl h) known =
    must_end (known_call call known) (known_again known) ended (inl (h.0, means_known call known ended h.0 h.1))
comes_complete call ended (inr e) known = must_end (known_call call known) (known_again known) ended (inr e)

-- where a put or memory was refused, any answer may be due
pub unput_complete : (call : Call) (ended : Ended) → IsUnput ended → IsComplete call ended
unput_complete call ended e = comes_complete call ended (inr e)

pub means_complete : (call : Call) (ended : Ended) (text : List ℕ) → Means call ended text → IsComplete call ended
means_complete call ended text means = comes_complete call ended (inl (text, means))

-- each end of a call comes with an answer that is allowed, unless the put was refused
ends_come : (call : Call) (output : Output) (ended : Ended) → Ends call output ended → Comes call ended
ends_come call output WriteFault h = inr (inl refl)
ends_come call output Memory h = inr (inr refl)
ends_come call output Optimal h = inl (h.text, h.means)
ends_come call output Infeasible h = inl (h.text, h.means)
ends_come call output Unbounded h = inl (h.text, h.means)
ends_come call output Printed h = inl (h.text, h.means)
ends_come call output Accepted h = inl (h.text, h.means)
ends_come call output (Rejected place) h = inl (h.text, h.means)
ends_come call output (TreeRejected number fault) h = inl (h.text, h.means)
ends_come call output Words h = inl (h.text, h.means)
ends_come call output Missing h = inl (h.text, h.means)
ends_come call output TooLong h = inl (h.text, h.means)
ends_come call output (Model rule line) h = inl (h.text, h.means)
ends_come call output (EmptySet weights) h = inl (h.text, h.means)
ends_come call output (TooWide spot) h = inl (h.text, h.means)
ends_come call output (WideNode path spot) h = inl (h.text, h.means)
ends_come call output (WideBudget number spot) h = inl (h.text, h.means)
ends_come call output (Cert rule line) h = inl (h.text, h.means)
ends_come call output (Scenarios rule number) h = inl (h.text, h.means)
ends_come call output (Whole rule) h = inl (h.text, h.means)
ends_come call output NoRow h = inl (h.text, h.means)
ends_come call output (TreeRule rule line) h = inl (h.text, h.means)
ends_come call output (Sweep rule) h = inl (h.text, h.means)
ends_come call output (Cells rule) h = inl (h.text, h.means)
ends_come call output ReadFault h = inl (h.text, h.means)

pub ends_complete : (call : Call) (output : Output) (ended : Ended) → Ends call output ended → IsComplete call ended
ends_complete call output ended ends = comes_complete call ended (ends_come call output ended ends)

-- ---- the text that `prove` printed is that of its certificate, at each line of the same width
module _ (proving : Call) (status : Status) (text : List ℕ) (solved : IsSolved proving status text) where
  pub printed_text : solved.line.verb ≡ Prove → IsTextOf solved.m solved.c text
  printed_text is_prove = record {
    shape = solved.shape;
    spelled = subst (λ (v : Verb). IsPrinted proving v solved.line.way solved.m solved.c solved.rounds text)
        is_prove solved.printed;
  }

  pub printed_fits : (line : Line) → line.width ≡ solved.line.width → FitsLines (limit_of line) solved.m solved.c
  printed_fits line width =
      subst (λ (w : Width). FitsLines (2 ^ bits_of w - 1) solved.m solved.c) (sym width) solved.fits

-- a refusal of it says that the model has no plan
abbrev pub SaysInfeasible : Status → ℕ → ℕ → Type 0
SaysInfeasible status rule number = (rule ≡ 34) × ((number ≡ 1) × (status ≡ infeasible))

-- ---- as the file of a certificate
module _ (proving checking : Call) (known : Known checking.source) (status : Status) (text : List ℕ)
    (solved : IsSolved proving status text)
    (line : Line) (ended : Ended) where
  printed_certificate : solved.line.verb ≡ Prove → line.width ≡ solved.line.width
      → HasCertificateFile (known_call checking known) verbs.Check line solved.m text
      → HasCertificate (known_call checking known) verbs.Check line solved.m solved.c
  printed_certificate is_prove width file = record {
    bytes = text;
    file = file;
    text = printed_text proving status text solved is_prove;
    fits = printed_fits proving status text solved line width;
  }

  pub proved_then_checked : solved.line.verb ≡ Prove → line.width ≡ solved.line.width
      → HasCertificateFile (known_call checking known) verbs.Check line solved.m text
      → MustEnd (known_call checking known) ended
      → IsProvedAnswer (limit_of line) solved.m solved.c ended
  proved_then_checked is_prove width file must =
      must.proved line solved.m solved.c (printed_certificate is_prove width file) solved.proves
