-- Which answer has to come at `worst`, where what is known of the files decides.
use Rattle.std.proofs.Common.{◌≡◌, ℕ, ◌<◌, List, length, Some, arith, inl, inr, refl, sym, ◌∙◌, ap, subst, ◌⊎◌}
use Rattle.rob_algebra.specs.Fraction.{Fraction}
use Rattle.rob_cert.specs.Spelling.{name_at}
use Rattle.rob_cert.proofs.Readers.CoverLemmas.{one_number}
use Rattle.rob_dualize.specs.SetSolving.{IsWideInSet}
use Rattle.rob_dualize.specs.Solving.{HasScenario}
use Rattle.rob_meaning.proofs.Naming.NameLemmas.{length-form_names}
use Rattle.rob_meaning.specs.Certificates.{Certificate}
use Rattle.rob_meaning.specs.Forms.{form_columns, matrices}
use Rattle.rob_meaning.specs.Names.{form_names}
use Rattle.rob_meaning.specs.Places.{0ℚ, 1ℚ}
use Rattle.rob_meaning.specs.Proves.{Proves}
use Rattle.rob_meaning.specs.RobustModel.{RobustModel}
use Rattle.rob_meaning.specs.UncertaintySet.{Admits, IsEmptySet}
use Rattle.rob_meaning.specs.WellFormed.{IsModel}
use Rattle.rob_meaning.proofs.Naming.NamedFormLemmas.{distinct_forms}
use Rattle.rob_model.specs.declared.place.Program.TheVariants as programs
use Rattle.rob_model.specs.declared.place.Spot.{Spot}
use Rattle.rob_model.specs.declared.place.Spot.TheVariants as spots
use Rattle.rob_top.proofs.Origins.OriginLemmas.{WorstOrigin, admits_none, names_none, plans_none, shows_worst, wide_search}
use Rattle.rob_top.proofs.Origins.ReadOnceLemmas.{well, named, one_certificate, some_plan, one_lack}
use Rattle.rob_runs.proofs.Searching.FoundLemmas.{found_worst}
use Rattle.rob_runs.proofs.Proving.RunCertificates.{length-vector}
use Rattle.rob_runs.specs.Spots.{IsWideSlack}
use Rattle.rob_top.proofs.Meaning.SearchStops.{plan_length}
use Rattle.rob_top.proofs.Meaning.SearchingLemmas.{form_matrix}
use Rattle.rob_commands.proofs.PlanLemmas.{proved_bound}
use Rattle.rob_top.proofs.Meaning.SoughtLemmas.{forms_sought, forms_unnamed, forms_unplanned, lacking_verb}
use Rattle.rob_top.proofs.Coming.TrueAnswerLemmas.{first_of_two, formed_origin}
use Rattle.rob_top.proofs.Meaning.WorstSlackLemmas.{endless_slack}
use Rattle.rob_top.specs.Calls.{Call, Known, limit_of}
use Rattle.rob_top.specs.Commands as works
use Rattle.rob_top.specs.Commands.{work_of}
use Rattle.rob_top.specs.Endings.{IsEmptyAnswer, IsWorstAnswer, NamesWideSought}
use Rattle.rob_top.specs.Headline.{Means}
use Rattle.rob_top.specs.Inputs.{HasForms, HasModel, HasSought, TellsForm, LacksPlan}
use Rattle.rob_top.specs.Searched.{IsSearched, IsWideSought, NamesNoForm, ShowsKept, ShowsWorst, attained, certificate_vector, endless, in_search, in_set, in_slack}
use Rattle.rob_commands.specs.declared.ended.Ended.{Ended}
use Rattle.rob_commands.specs.declared.ended.Ended.TheVariants.{Cert, EmptySet, NoRow, Printed, ReadFault, TooWide, Memory}
use Rattle.rob_words.specs.Commands.{Line}
use Rattle.rob_words.specs.Values.{Word}
use Rattle.rob_words.specs.declared.verb.Verb.TheVariants.{Worst}
use Rattle.rob_words.specs.declared.verb.Verb.TheVariants as verbs

-- a worst case that is shown has some scenario
scenario_shown : (limit : ℕ) (m : RobustModel) (form : ℕ) (z : List Fraction) (text : List ℕ)
    → ShowsWorst limit m form z text → HasScenario m
scenario_shown limit m form z text (attained basis scenario amounts slack found is fit narrow shown) =
    (scenario, is.admitted)
scenario_shown limit m form z text (endless basis column ray found is fit shown) =
    let u = is.no_greatest 0ℚ in (u.0, u.1)

-- and no number of its slack is wide
slack_shown : (limit : ℕ) (m : RobustModel) → IsModel m → (form : ℕ) → form < length (matrices m) → (z : List Fraction)
    → length z ≡ form_columns m → (text : List ℕ) → ShowsWorst limit m form z text → IsWideSlack limit m form z → ⊥
slack_shown limit m model form some z size text (attained basis scenario amounts slack found is fit narrow shown) wide =
    narrow wide
slack_shown limit m model form some z size text (endless basis column ray found is fit shown) wide =
    endless_slack m model form some z size limit ray is wide

-- the words tell one name of a form
one_name : (line : Line) (a b : Word) → TellsForm line a → TellsForm line b → a ≡ b
one_name line a b h k = let both : Some a ≡ Some b = sym h ∙ k in cc

module _ (call : Call) (known : Known call.source) (line : Line) (m : RobustModel) where
  -- one form is named, and none is where the word is no form's name
  same_form : (c d : Certificate) (i j : ℕ) → HasSought call line m c i → HasSought call line m d j → i ≡ j
  same_form c d i j h k =
      let has : HasModel call line m = (forms_sought call line m c i h).model in
      one_number (form_names m) i j
      (distinct_forms m (well call line m has) (named call line m has)) h.is_form k.is_form
      (one_name line (name_at (form_names m) i) (name_at (form_names m) j) h.told k.told)

  same_plan : (c d : Certificate) (i j : ℕ) → HasSought call line m c i → HasSought call line m d j → c ≡ d
  same_plan c d i j h k = one_certificate call known line m verbs.Worst c d h.plan.certificate k.plan.certificate

  names_one : (c d : Certificate) (form : ℕ) (name : Word) → HasSought call line m c form
      → NamesNoForm call line m d name → ⊥
  names_one c d form name h k = k.none form h.is_form (one_name line (name_at (form_names m) form) name h.told k.told)

  -- the command is `worst`, so that stands behind its answer
  worst_origin : HasForms call line m → line.verb ≡ Worst → (ended : Ended) (text : List ℕ) → Means call ended text
      → WorstOrigin call line m ended ⊎ ((ended ≡ ReadFault) ⊎ (ended ≡ Memory))
  worst_origin has here = formed_origin call known line m has works.searching (ap work_of here)

  pub unplanned_decides : (rule number : ℕ) → LacksPlan call verbs.Worst line m rule number
      → (ended : Ended) (text : List ℕ)
      → Means call ended text → (ended ≡ Cert rule number) ⊎ ((ended ≡ ReadFault) ⊎ (ended ≡ Memory))
  unplanned_decides rule number has ended text means =
      first_of_two by
      (worst_origin (forms_unplanned call line m rule number has)
      (lacking_verb call line m verbs.Worst rule number has) ended text means)
    where
      by : WorstOrigin call line m ended → ended ≡ Cert rule number
      by (plans_none r n h e) =
          let one = one_lack call known line m verbs.Worst rule number r n has h in
          e ∙ ap (λ k. Cert k n) one.0 ∙ ap (λ k. Cert rule k) one.1
      by (names_none d name h e) = absurd (some_plan call known line m verbs.Worst rule number d has h.plan)
      by (shows_worst d form text h shows e) = absurd (some_plan call known line m verbs.Worst rule number d has h.plan)
      by (admits_none d form weights h shown e) =
          absurd (some_plan call known line m verbs.Worst rule number d has h.plan)
      by (wide_search d form spot h wide e) = absurd (some_plan call known line m verbs.Worst rule number d has h.plan)

  pub unnamed_decides : (c : Certificate) (name : Word) → NamesNoForm call line m c name
      → (ended : Ended) (text : List ℕ)
      → Means call ended text → (ended ≡ NoRow) ⊎ ((ended ≡ ReadFault) ⊎ (ended ≡ Memory))
  unnamed_decides c name has ended text means =
      first_of_two by
      (worst_origin (forms_unnamed call line m c name has) has.plan.certificate.file.is_verb ended text means)
    where
      by : WorstOrigin call line m ended → ended ≡ NoRow
      by (plans_none r n h e) = absurd (some_plan call known line m verbs.Worst r n c h has.plan)
      by (names_none d other h e) = e
      by (shows_worst d form text h shows e) = absurd (names_one d c form name h has)
      by (admits_none d form weights h shown e) = absurd (names_one d c form name h has)
      by (wide_search d form spot h wide e) = absurd (names_one d c form name h has)

  module _ (c : Certificate) (form : ℕ) (has : HasSought call line m c form) where
    abbrev z : List Fraction
    z = certificate_vector c

    origin_sought : (ended : Ended) (text : List ℕ) → Means call ended text
        → WorstOrigin call line m ended ⊎ ((ended ≡ ReadFault) ⊎ (ended ≡ Memory))
    origin_sought = worst_origin (forms_sought call line m c form has) has.plan.certificate.file.is_verb

    -- a number that is wide in one search is so in the other
    same_wide : (d : Certificate) (other : ℕ) (spot : Spot) → HasSought call line m d other
        → IsWideSought (limit_of line) m other (certificate_vector d) spot → IsWideSought (limit_of line) m form z spot
    same_wide d other spot h wide =
        subst (λ (x : Certificate). IsWideSought (limit_of line) m form (certificate_vector x) spot)
        (same_plan d c other form h has)
        (subst (λ i. IsWideSought (limit_of line) m i (certificate_vector d) spot)
        (same_form d c other form h has) wide)

    answer_is : (ended other : Ended) → ended ≡ other → IsWorstAnswer (limit_of line) m form z other
        → IsWorstAnswer (limit_of line) m form z ended
    answer_is ended other e h = subst (λ (x : Ended). IsWorstAnswer (limit_of line) m form z x) (sym e) h

    pub worst_decides : (ended : Ended) (text : List ℕ) → Means call ended text
        → IsWorstAnswer (limit_of line) m form z ended
    worst_decides ended text means = all (origin_sought ended text means)
      where
        by : WorstOrigin call line m ended → IsWorstAnswer (limit_of line) m form z ended
        by (plans_none r n h e) = absurd (some_plan call known line m verbs.Worst r n c h has.plan)
        by (names_none d name h e) = absurd (names_one c d form name has h)
        by (shows_worst d other text h shows e) =
            answer_is ended Printed e (scenario_shown (limit_of line) m other (certificate_vector d) text shows)
        by (admits_none d other weights h shown e) = answer_is ended (EmptySet weights) e shown.empty
        by (wide_search d other spot h wide e) = answer_is ended (TooWide spot) e (same_wide d other spot h wide)

        all : WorstOrigin call line m ended ⊎ ((ended ≡ ReadFault) ⊎ (ended ≡ Memory))
            → IsWorstAnswer (limit_of line) m form z ended
        all (inl origin) = by origin
        all (inr (inl e)) = answer_is ended ReadFault e (inl refl)
        all (inr (inr e)) = answer_is ended Memory e (inr (inr refl))

    -- ---- no scenario is admitted
    empty_is : (ended other : Ended) → ended ≡ other → IsEmptyAnswer (limit_of line) m other
        → IsEmptyAnswer (limit_of line) m ended
    empty_is ended other e h = subst (λ (x : Ended). IsEmptyAnswer (limit_of line) m x) (sym e) h

    row_of_set : (spot : Spot) → IsWideInSet (limit_of line) m spot → IsEmptyAnswer (limit_of line) m (TooWide spot)
    row_of_set (spots.Dictionary programs.Set basis i) h = h
    row_of_set (spots.Dictionary programs.Reform basis i) h = absurd h
    row_of_set (spots.Dictionary programs.Master basis i) h = absurd h
    row_of_set (spots.Dictionary (programs.SearchPlan f) basis i) h = absurd h
    row_of_set (spots.Dictionary (programs.SearchMove f) basis i) h = absurd h
    row_of_set (spots.Coefficient where_it_is) h = absurd h
    row_of_set (spots.Clearing where_it_is) h = absurd h
    row_of_set (spots.Sum where_it_is j) h = absurd h
    row_of_set (spots.Check place) h = absurd h
    row_of_set (spots.Replay number) h = absurd h

    before_search : IsEmptySet m → (d : Certificate) (other : ℕ) (spot : Spot)
        → IsWideSought (limit_of line) m other (certificate_vector d) spot
        → IsEmptyAnswer (limit_of line) m (TooWide spot)
    before_search none d other spot (in_set wide) = row_of_set spot wide
    before_search none d other spot (in_search some wide) = absurd (none some.0 some.1)
    before_search none d other spot (in_slack some is wide) = absurd (none some.0 some.1)

    pub worst_empty_decides : IsEmptySet m → (ended : Ended) (text : List ℕ) → Means call ended text
        → IsEmptyAnswer (limit_of line) m ended
    worst_empty_decides none ended text means = all (origin_sought ended text means)
      where
        by : WorstOrigin call line m ended → IsEmptyAnswer (limit_of line) m ended
        by (plans_none r n h e) = absurd (some_plan call known line m verbs.Worst r n c h has.plan)
        by (names_none d name h e) = absurd (names_one c d form name has h)
        by (shows_worst d other text h shows e) =
            let some : HasScenario m = scenario_shown (limit_of line) m other (certificate_vector d) text shows in
            absurd (none some.0 some.1)
        by (admits_none d other weights h shown e) = empty_is ended (EmptySet weights) e shown
        by (wide_search d other spot h wide e) = empty_is ended (TooWide spot) e (before_search none d other spot wide)

        all : WorstOrigin call line m ended ⊎ ((ended ≡ ReadFault) ⊎ (ended ≡ Memory))
            → IsEmptyAnswer (limit_of line) m ended
        all (inl origin) = by origin
        all (inr (inl e)) = empty_is ended ReadFault e (inl refl)
        all (inr (inr e)) = empty_is ended Memory e (inr (inr refl))

    -- ---- some scenario is, and no number is wide
    pub worst_printed_decides : (u : List Fraction) → Admits m u
        → ((spot : Spot) → IsWideSought (limit_of line) m form z spot → ⊥)
        → (ended : Ended) (text : List ℕ) → Means call ended text
        → (ended ≡ Printed) ⊎ ((ended ≡ ReadFault) ⊎ (ended ≡ Memory))
    worst_printed_decides u admitted narrow ended text means = first_of_two by (origin_sought ended text means)
      where
        by : WorstOrigin call line m ended → ended ≡ Printed
        by (plans_none r n h e) = absurd (some_plan call known line m verbs.Worst r n c h has.plan)
        by (names_none d name h e) = absurd (names_one c d form name has h)
        by (shows_worst d other text h shows e) = e
        by (admits_none d other weights h shown e) = absurd (shown.empty u admitted)
        by (wide_search d other spot h wide e) = absurd (narrow spot (same_wide d other spot h wide))

    -- ---- a number of the slack is wide
    named_wide : (ended other : Ended) → ended ≡ other → NamesWideSought (limit_of line) m form z other
        → NamesWideSought (limit_of line) m form z ended
    named_wide ended other e h = subst (λ (x : Ended). NamesWideSought (limit_of line) m form z x) (sym e) h

    here : IsModel m
    here = well call line m (forms_sought call line m c form has).model

    some : form < length (matrices m)
    some = form_matrix m form (omega (arith, has.is_form, length-form_names m))

    size : length z ≡ form_columns m
    size = length-vector m 1ℚ c.plan c.value (plan_length m c has.plan.certificate.text.shape has.plan.has_plan)

    pub worst_slack_decides : IsWideSlack (limit_of line) m form z
        → (ended : Ended) (text : List ℕ) → Means call ended text
        → NamesWideSought (limit_of line) m form z ended
    worst_slack_decides wide ended text means = all (origin_sought ended text means)
      where
        -- so it isn't shown
        none_shown : (d : Certificate) (other : ℕ) (shown : List ℕ) → HasSought call line m d other
            → ShowsWorst (limit_of line) m other (certificate_vector d) shown → ⊥
        none_shown d other shown h shows =
            slack_shown (limit_of line) m here form some z size shown
            (subst (λ (x : Certificate). ShowsWorst (limit_of line) m form (certificate_vector x) shown)
            (same_plan d c other form h has)
            (subst (λ i. ShowsWorst (limit_of line) m i (certificate_vector d) shown)
            (same_form d c other form h has) shows)) wide

        by : WorstOrigin call line m ended → NamesWideSought (limit_of line) m form z ended
        by (plans_none r n h e) = absurd (some_plan call known line m verbs.Worst r n c h has.plan)
        by (names_none d name h e) = absurd (names_one c d form name has h)
        by (shows_worst d other shown h shows e) = absurd (none_shown d other shown h shows)
        by (admits_none d other weights h shown e) =
            absurd (shown.empty wide.scenario
            (found_worst m here form some z size wide.basis wide.scenario wide.amounts wide.found).admitted)
        by (wide_search d other spot h also e) =
            named_wide ended (TooWide spot) e (inl (spot, same_wide d other spot h also, refl))

        all : WorstOrigin call line m ended ⊎ ((ended ≡ ReadFault) ⊎ (ended ≡ Memory))
            → NamesWideSought (limit_of line) m form z ended
        all (inl origin) = by origin
        all (inr (inl e)) = named_wide ended ReadFault e (inr (inl refl))
        all (inr (inr e)) = named_wide ended Memory e (inr (inr (inr refl)))

-- ---- the plan of a certificate that proves has its bound, so no slack below 0 is shown
pub proved_keeps : (call : Call) (shown : List ℕ) (r : IsSearched call shown) (m : RobustModel) (c : Certificate)
    → r.m ≡ m → r.c ≡ c
    → Proves m c → ShowsKept r.m r.form (certificate_vector r.c) shown
proved_keeps call shown r m c same alike proves =
    let proves_here : Proves r.m r.c =
    subst (λ (x : RobustModel). Proves x r.c) (sym same) (subst (λ (d : Certificate). Proves m d) (sym alike) proves)
    in
    r.kept
    (proved_bound r.m (well call r.line r.m (forms_sought call r.line r.m r.c r.form r.has).model) r.c
    proves_here r.has.plan.has_plan)
