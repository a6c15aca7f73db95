-- Which answer has to come, where what is known of the files decides and all of them come: the model's text decides;
-- then the first wide number; and then the command.
use Rattle.std.proofs.Common.{◌≡◌, ℕ, false, List, refl, sym, ◌∙◌, ap, subst, inl, inr, ◌⊎◌}
use Rattle.rob_algebra.specs.Fraction.{Fraction}
use Rattle.rob_check.specs.Conditions.{verdict_of}
use Rattle.rob_meaning.specs.Certificates.{Certificate, Status, optimal, infeasible, unbounded}
use Rattle.rob_meaning.specs.Proves.{HasStatus}
use Rattle.rob_meaning.specs.RobustModel.{RobustModel}
use Rattle.rob_meaning.specs.UncertaintySet.{Admits, IsEmptySet}
use Rattle.rob_model.specs.declared.place.Spot.{Spot}
use Rattle.rob_outside.specs.Files.{missing, too_long}
use Rattle.rob_parse.proofs.Building.OneModel.{not_both}
use Rattle.rob_rules.specs.Texts.{Breaks}
use Rattle.rob_sets.specs.FirstWide.{IsFirstWide}
use Rattle.rob_branch.proofs.OneSpotLemmas.{first_once, none_first}
use Rattle.rob_top.proofs.Coming.AbsentAnswerLemmas.{no_missing, no_too_long}
use Rattle.rob_top.proofs.Origins.CommandLemmas.{makes_none}
use Rattle.rob_top.proofs.Origins.OriginLemmas.{CheckOrigin, Origin, SolveOrigin, WorkOrigin, origin_at, does, finds, forms_of, judges, refuses, same_work, shows_empty, wide_number, wide_row}
use Rattle.rob_top.proofs.Origins.ReadOnceLemmas.{no_breach, one_certificate, one_breach}
use Rattle.rob_top.proofs.Meaning.RouteLemmas.{empty_on_way}
use Rattle.rob_top.proofs.Origins.ProgressLemmas.{Progress, absent, answers_number, broken, broken_here, failed, file_once, none_absent, number_here, one_model_read, over, read, same_status, progress_of, wanting, wordless}
use Rattle.rob_top.specs.Calls.{Call, Known, limit_of}
use Rattle.rob_top.specs.Commands as works
use Rattle.rob_top.specs.Commands.{IsElaborating, IsSolving, Work, makes_forms, work_of}
use Rattle.rob_top.specs.Files.{HasFile}
use Rattle.rob_top.specs.Headline.{Means}
use Rattle.rob_top.specs.Inputs.{BreaksCertificate, HasCertificate, HasCertificateFile, HasForms, HasModel}
use Rattle.rob_top.specs.Endings.{IsEmptyAnswer, IsSolveAnswer}
use Rattle.rob_top.specs.Routes.{IsWideOnWay}
use Rattle.rob_top.specs.Work.{verdict_ended}
use Rattle.rob_commands.specs.Replies.{ended_of}
use Rattle.rob_commands.specs.declared.ended.Ended.{Ended}
use Rattle.rob_commands.specs.declared.ended.Ended.TheVariants.{Printed, EmptySet, TooWide, Cert, ReadFault, Memory}
use Rattle.rob_words.specs.Commands.{Line}
use Rattle.rob_words.specs.declared.verb.Own.TheVariants as own
use Rattle.rob_words.specs.declared.verb.Verb.TheVariants.{Rows}
use Rattle.rob_words.proofs.Spellings.{one_line}
use Rattle.rob_elab.specs.Written.{judged}
use Rattle.rob_words.specs.declared.verb.Verb.TheVariants as verbs

-- ---- answers
pub first_of_two : {A B C : Type 0} → (A → B) → A ⊎ C → B ⊎ C
first_of_two f (inl a) = inl (f a)
first_of_two f (inr c) = inr c

module _ (call : Call) (known : Known call.source) where
  module _ (line : Line) (m : RobustModel) where
    -- ---- a model was read
    same_bytes : (has : HasModel call line m) (other : List ℕ) → HasFile call line own.Model other → other ≡ has.bytes
    same_bytes has other file = file_once call line own.Model other has.bytes known file has.file

    pub origin_of : HasModel call line m → (ended : Ended) (text : List ℕ) → Means call ended text
        → Origin call line m ended ⊎ ((ended ≡ ReadFault) ⊎ (ended ≡ Memory))
    origin_of has ended text means = by (progress_of call ended text means)
      where
        no_rule : (rule number : ℕ) (bytes : List ℕ) → HasFile call line own.Model bytes
            → Breaks (limit_of line) bytes rule number → ⊥
        no_rule rule number bytes found breaks =
            not_both (limit_of line) has.bytes m rule number has.reads
            (subst (λ (list : List ℕ). Breaks (limit_of line) list rule number) (same_bytes has bytes found) breaks)

        by : Progress call ended → Origin call line m ended ⊎ ((ended ≡ ReadFault) ⊎ (ended ≡ Memory))
        by (wordless none) = absurd (none (line, has.spelled))
        by (absent name h e) =
            absurd (none_absent call known line has.spelled missing name has.came (no_missing call known) h)
        by (over name h e) =
            absurd (none_absent call known line has.spelled too_long name has.came (no_too_long call known) h)
        by (broken rule number t h e) =
            let b = broken_here call known line has.spelled rule number t h in absurd (no_rule rule number b.0 b.1 b.2)
        by (read l k h origin) =
            inl (origin_at call l line k m ended (one_line call.words l line h.spelled has.spelled)
            (one_model_read call l line k m known h has) origin)
        by (answers_number l sp none origin) =
            absurd (number_here call known line has.spelled l sp none has.bytes has.file)
        by (failed names e) = inr (inl e)
        by (wanting e) = inr (inr e)

    -- ---- a number of the set rows and forms is wide
    pub wide_decides : HasModel call line m → IsElaborating line.verb → (spot : Spot)
        → IsFirstWide (limit_of line) m (judged m) spot
        → (ended : Ended) (text : List ℕ) → Means call ended text
        → (ended ≡ TooWide spot) ⊎ ((ended ≡ ReadFault) ⊎ (ended ≡ Memory))
    wide_decides has makes spot first ended text means = first_of_two by (origin_of has ended text means)
      where
        by : Origin call line m ended → ended ≡ TooWide spot
        by (wide_number other made h e) =
            e ∙ ap (λ (s : Spot). TooWide s)
            (first_once (limit_of line) m (judged m) other spot h first)
        by (does w is origin) =
            let forms = forms_of call line m ended w (ap makes_forms (sym is) ∙ makes) origin in
            absurd (none_first (limit_of line) m (judged m) spot forms.none_wide first)

    -- ---- none is
    pub no_first : HasForms call line m → (spot : Spot)
        → IsFirstWide (limit_of line) m (judged m) spot → ⊥
    no_first forms spot first = none_first (limit_of line) m (judged m) spot forms.none_wide first

    -- so what stands behind the answer stands behind one of the command's work
    pub formed_origin : HasForms call line m → (w : Work) → work_of line.verb ≡ w
        → (ended : Ended) (text : List ℕ) → Means call ended text
        → WorkOrigin w call line m ended ⊎ ((ended ≡ ReadFault) ⊎ (ended ≡ Memory))
    formed_origin has w is ended text means = first_of_two by (origin_of has.model ended text means)
      where
        by : Origin call line m ended → WorkOrigin w call line m ended
        by (wide_number spot makes h e) = absurd (no_first has spot h)
        by (does v here origin) = same_work call line m ended v w here is origin

    -- and so where the command makes none
    pub unformed_origin : HasModel call line m → (w : Work) → makes_forms w ≡ false → work_of line.verb ≡ w
        → (ended : Ended) (text : List ℕ) → Means call ended text
        → WorkOrigin w call line m ended ⊎ ((ended ≡ ReadFault) ⊎ (ended ≡ Memory))
    unformed_origin has w none is ended text means = first_of_two by (origin_of has ended text means)
      where
        by : Origin call line m ended → WorkOrigin w call line m ended
        by (wide_number spot makes h e) = absurd (makes_none w line.verb none is makes)
        by (does v here origin) = same_work call line m ended v w here is origin

    -- ---- `rows`
    pub rows_decide : HasForms call line m → line.verb ≡ Rows → (ended : Ended) (text : List ℕ) → Means call ended text
        → (ended ≡ Printed) ⊎ ((ended ≡ ReadFault) ⊎ (ended ≡ Memory))
    rows_decide has is_rows ended text means =
        first_of_two by (formed_origin has works.rows (ap work_of is_rows) ended text means)
      where
        by : HasForms call line m × (ended ≡ Printed) → ended ≡ Printed
        by printed = printed.1

    -- ---- `solve` and `prove`
    status_answer : (status : Status) (v : Fraction) → HasStatus m status v
        → IsSolveAnswer line.way (limit_of line) m (ended_of status)
    status_answer optimal v h = (v, h)
    status_answer infeasible v h = (v, h)
    status_answer unbounded v h = (v, h)

    answer_is : (ended other : Ended) → ended ≡ other → IsSolveAnswer line.way (limit_of line) m other
        → IsSolveAnswer line.way (limit_of line) m ended
    answer_is ended other e h = subst (λ (x : Ended). IsSolveAnswer line.way (limit_of line) m x) (sym e) h

    pub solve_decides : HasForms call line m → IsSolving line.verb → (ended : Ended) (text : List ℕ)
        → Means call ended text → IsSolveAnswer line.way (limit_of line) m ended
    solve_decides has is_solving ended text means = all (formed_origin has works.solving is_solving ended text means)
      where
        by : SolveOrigin call line m ended → IsSolveAnswer line.way (limit_of line) m ended
        by (finds status v u inside forms holds e) =
            answer_is ended (ended_of status) e (status_answer status v holds)
        by (shows_empty weights forms shown e) = answer_is ended (EmptySet weights) e shown.empty
        by (wide_row spot forms wide e) = answer_is ended (TooWide spot) e wide

        all : SolveOrigin call line m ended ⊎ ((ended ≡ ReadFault) ⊎ (ended ≡ Memory))
            → IsSolveAnswer line.way (limit_of line) m ended
        all (inl origin) = by origin
        all (inr (inl e)) = answer_is ended ReadFault e (inl refl)
        all (inr (inr e)) = answer_is ended Memory e (inr (inr refl))

    -- an empty set
    empty_is : (ended other : Ended) → ended ≡ other → IsEmptyAnswer (limit_of line) m other
        → IsEmptyAnswer (limit_of line) m ended
    empty_is ended other e h = subst (λ (x : Ended). IsEmptyAnswer (limit_of line) m x) (sym e) h

    pub empty_decides : HasForms call line m → IsSolving line.verb → IsEmptySet m → (ended : Ended) (text : List ℕ)
        → Means call ended text → IsEmptyAnswer (limit_of line) m ended
    empty_decides has is_solving none ended text means =
        all (formed_origin has works.solving is_solving ended text means)
      where
        by : SolveOrigin call line m ended → IsEmptyAnswer (limit_of line) m ended
        by (finds status v u inside forms holds e) = absurd (none u inside)
        by (shows_empty weights forms shown e) = empty_is ended (EmptySet weights) e shown
        by (wide_row spot forms wide e) =
            empty_is ended (TooWide spot) e (empty_on_way m line.way none (limit_of line) spot wide)

        all : SolveOrigin call line m ended ⊎ ((ended ≡ ReadFault) ⊎ (ended ≡ Memory))
            → IsEmptyAnswer (limit_of line) m ended
        all (inl origin) = by origin
        all (inr (inl e)) = empty_is ended ReadFault e (inl refl)
        all (inr (inr e)) = empty_is ended Memory e (inr (inr refl))

    pub status_decides : HasForms call line m → IsSolving line.verb → (status : Status) (v : Fraction)
        → HasStatus m status v → (u : List Fraction) → Admits m u
        → ((spot : Spot) → IsWideOnWay line.way (limit_of line) m spot → ⊥)
        → (ended : Ended) (text : List ℕ) → Means call ended text
        → (ended ≡ ended_of status) ⊎ ((ended ≡ ReadFault) ⊎ (ended ≡ Memory))
    status_decides has is_solving status v true_of u admitted narrow ended text means =
        first_of_two by (formed_origin has works.solving is_solving ended text means)
      where
        by : SolveOrigin call line m ended → ended ≡ ended_of status
        by (finds other w inner inside forms holds e) =
            e ∙ ap ended_of (same_status m other status w v holds true_of)
        by (shows_empty weights forms shown e) = absurd (shown.empty u admitted)
        by (wide_row spot forms wide e) = absurd (narrow spot wide)

    -- ---- `check`
    pub verdict_decides : (c : Certificate) → HasCertificate call verbs.Check line m c
        → (ended : Ended) (text : List ℕ) → Means call ended text
        → (ended ≡ verdict_ended (verdict_of (limit_of line) m c)) ⊎ ((ended ≡ ReadFault) ⊎ (ended ≡ Memory))
    verdict_decides c has ended text means =
        first_of_two by (formed_origin has.file.read works.checking (ap work_of has.file.is_verb) ended text means)
      where
        by : CheckOrigin call line m ended → ended ≡ verdict_ended (verdict_of (limit_of line) m c)
        by (judges d h e) =
            e ∙ ap (λ (x : Certificate). verdict_ended (verdict_of (limit_of line) m x))
            (one_certificate call known line m verbs.Check d c h has)
        by (refuses bytes rule number h breach e) =
            absurd (no_breach call known line m verbs.Check c bytes rule number has h breach)

    pub rule_decides : (bytes : List ℕ) (rule number : ℕ) → HasCertificateFile call verbs.Check line m bytes
        → BreaksCertificate (limit_of line) m bytes rule number
        → (ended : Ended) (text : List ℕ) → Means call ended text → (ended ≡ Cert rule number)
        ⊎ ((ended ≡ ReadFault) ⊎ (ended ≡ Memory))
    rule_decides bytes rule number has breaks ended text means =
        first_of_two by (formed_origin has.read works.checking (ap work_of has.is_verb) ended text means)
      where
        is_rule : (other : List ℕ) (r n : ℕ) → HasCertificateFile call verbs.Check line m other
            → BreaksCertificate (limit_of line) m other r n → ended ≡ Cert r n
            → ended ≡ Cert rule number
        is_rule other r n file breach e =
            let one = one_breach call known line m verbs.Check bytes other rule number r n has file breaks breach in
            e ∙ ap (λ k. Cert k n) one.0 ∙ ap (λ k. Cert rule k) one.1

        by : CheckOrigin call line m ended → ended ≡ Cert rule number
        by (judges d h e) = absurd (no_breach call known line m verbs.Check d bytes rule number h has breaks)
        by (refuses other r n h breach e) = is_rule other r n h breach e
