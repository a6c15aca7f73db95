-- The answers of `worst`, from what the reading of a certificate and the search answer.
use Rattle.std.proofs.Common.{◌≡◌, ◌≢◌, ℕ, ◌<◌, ◌≤◌, true, List, [], ◌∷◌, length, map, Some, None, Result, Ok, Err, IfOk, inl, inr, refl, subst, sym, ap, ◌∙◌, ◌⊎◌, arith}
use Rattle.std.proofs.lemmas.List.{length-map}
use Rattle.std.proofs.lemmas.Option.{get_or_from_slice_get, slice_get-get_or, slice_get_within}
use Rattle.rob_algebra.specs.Fraction.{Fraction, of_int, ◌+ℚ◌, ◌≤ℚ◌}
use Rattle.rob_algebra.specs.FractionOrderLaws.{le_trans_ℚ, lt_irrefl_ℚ, lt_le_trans_ℚ}
use Rattle.rob_algebra.specs.Width.{Fits, IsWide}
use Rattle.rob_cert.specs.Apart.{FitsLines}
use Rattle.rob_cert.specs.Spelling.{name_at}
use Rattle.rob_cert.specs.Whole.{IsTextOf}
use Rattle.rob_cert.specs.declared.ending.Worst as ending
use Rattle.rob_cert.specs.declared.ending.Worst.TheVariants.{At, Along}
use Rattle.rob_meaning.proofs.Tables.AtLemmas.{bound_at}
use Rattle.rob_meaning.proofs.Lists.LinearLemmas.{zero_lt_one}
use Rattle.rob_meaning.specs.Certificates.{Certificate, infeasible}
use Rattle.rob_meaning.specs.Forms.{form_at, form_columns, forms, matrices, matrix_of}
use Rattle.rob_meaning.specs.Guarantee.{HasBound}
use Rattle.rob_meaning.specs.Multipliers.{set_limits}
use Rattle.rob_meaning.specs.Names.{Name, form_names}
use Rattle.rob_meaning.specs.Places.{0ℚ, 1ℚ, Each}
use Rattle.rob_meaning.specs.RobustModel.{RobustModel}
use Rattle.rob_meaning.specs.Vectors.{dot}
use Rattle.rob_meaning.specs.WellFormed.{IsModel}
use Rattle.rob_model.proofs.PartLemmas.{each_get}
use Rattle.rob_model.specs.Naming.{Finds}
use Rattle.rob_model.specs.View.{scenario_of}
use Rattle.rob_model.specs.declared.place.Spot.TheVariants as spot
use Rattle.rob_model.specs.declared.place.Where.TheVariants as where_at
use Rattle.rob_number.specs.declared.memory.Memory.{Memory as Want}
use Rattle.rob_report.specs.Spots.{too_wide_line}
use Rattle.rob_report.specs.Worst.{along_text, greatest_text}
use Rattle.rob_runs.proofs.Searching.ToldLemmas.{told_along}
use Rattle.rob_runs.specs.Readings.{cleared_by}
use Rattle.rob_runs.specs.Searches.{FindsRay}
use Rattle.rob_runs.specs.Spots.{IsWideSlack, slack_of}
use Rattle.rob_runs.specs.Told.{HasNoGreatestAlong, TellsWorst}
use Rattle.rob_top.proofs.Meaning.DefaultRoutes.{told_alone}
use Rattle.rob_words.specs.Commands.{Line}
use Rattle.rob_words.specs.Verbs.{takes_route}
use Rattle.rob_worst.specs.Finding.{Tells}
use Rattle.rob_top.proofs.Fetching.OwnLemmas.{file_came, has_form, has_kind, own_told}
use Rattle.rob_number.proofs.CountLemmas.{rose_later}
use Rattle.rob_top.proofs.Meaning.WorkLemmas.{call_of_verb, call_within}
use Rattle.rob_top.proofs.Meaning.WorstSlackLemmas.{bound_slack, fitting_slack, scale_some, worst_found_at}
use Rattle.rob_commands.specs.Answers.{certificate_fault_text, no_row_text}
use Rattle.rob_top.specs.Calls.{Count, count, limit_of}
use Rattle.rob_top.specs.Files.{HasFile, word_of}
use Rattle.rob_top.specs.Headline.{Means}
use Rattle.rob_top.specs.Inputs.{BreaksCertificate, planless, unread}
use Rattle.rob_top.specs.Refused.{searching}
use Rattle.rob_commands.specs.Replies.{Replies}
use Rattle.rob_top.specs.Searched.{IsWideSought, IsWorstScenario, ShowsKept, ShowsWorst, attained, certificate_vector, endless, in_slack}
use Rattle.rob_top.specs.SearchWork.{AnswersPlanned, AnswersSearch, AnswersSearched, AnswersSought, HasScale, RepliesSlack, RepliesWorst}
use Rattle.rob_top.specs.Work.{AnswersWhole}
use Rattle.rob_top.specs.Ways.{in_model, not_searched, worst_found}
use Rattle.rob_commands.specs.declared.ended.Ended.{Ended}
use Rattle.rob_commands.specs.declared.ended.Ended.TheVariants.{Cert, NoRow, Printed}
use Rattle.rob_top.specs.declared.files.Texts.{Texts}
use Rattle.rob_commands.specs.declared.reply.Reply.{Reply}
use Rattle.rob_words.specs.Values.{Word}
use Rattle.rob_words.specs.Verbs.{own_of}
use Rattle.rob_words.specs.declared.verb.Own.TheVariants as own
use Rattle.rob_words.specs.declared.verb.Verb.{Verb}
use Rattle.rob_words.specs.declared.verb.Verb.TheVariants.{Worst}

-- the fractions of a list of numbers fit
all_fit : {N : Type 0} (value : N → Fraction) (limit : ℕ) → ((x : N) → Fits limit (value x)) → (xs : List N)
    → Each (Fits limit) (map value xs)
all_fit value limit fits [] = tt
all_fit value limit fits (x ∷ xs) = (fits x, all_fit value limit fits xs)

-- ---- the number of a name

-- the name that is found at a number stands there
pub name_found : (names : List Name) (name : Name) (k : ℕ) → Finds names name (Some k) → (k < length names)
    × (name_at names k ≡ name)
name_found names name k finds = (slice_get_within names k name finds.0, get_or_from_slice_get names k name [] finds.0)

-- one that isn't found stands nowhere
pub name_missing : (names : List Name) (name : Name) → Finds names name None → (k : ℕ) → k < length names
    → name_at names k ≢ name
name_missing names name finds k inside =
    each_get (λ other. other ≢ name) names k (name_at names k) (slice_get-get_or names k [] inside) finds

-- a form with a name has a matrix
pub form_matrix : (m : RobustModel) (form : ℕ) → form < length (forms m) → form < length (matrices m)
form_matrix m form h = omega (arith, h, length-map (forms m) (matrix_of m))

module _ (limit : ℕ) (m : RobustModel) where
  -- ---- the texts of a call
  pub search_answers : (wides : Count) (line : Line) (texts : Texts) (certificate : List ℕ) (words : List Word)
      (name : Word) (r : Result Reply Want)
      → line.verb ≡ Worst → certificate ≡ texts.certificate.items → line.own ≡ words
      → ((word : Word) → word_of own.Form (own_of line.verb) words ≡ Some word → name ≡ word)
      → IfOk r (AnswersSearch limit wides m certificate name)
      → IfOk r (AnswersWhole limit wides m line texts)
  search_answers wides line texts certificate words name (Err want) here same alike told h = tt
  search_answers wides line texts certificate words name (Ok reply) here same alike told h = λ call at came has.
      let names : has_kind own.Certificate (own_of line.verb) ≡ true =
      subst (λ (v : Verb). has_kind own.Certificate (own_of v) ≡ true) (sym here) refl
      in
      h call line (call_of_verb limit wides line.verb Worst call line here at) (
        record {
          read = has;
          is_verb = here;
          file = subst (λ (list : List ℕ). HasFile call line own.Certificate list) (sym same)
              (file_came call line texts own.Certificate _ refl came names);
        },
        own_told call line line.verb own.Form words name refl came.spelled (has_form line.verb here) alike told,
      )

  -- ---- a certificate's text
  module _ (name : Word) where
    pub misread_answers : (wides : Count) (certificate : List ℕ) (rule number : ℕ) (r : Result Reply Want)
        → BreaksCertificate limit m certificate rule number
        → IfOk r (Replies (Cert rule number) (certificate_fault_text rule number))
        → IfOk r (AnswersSearch limit wides m certificate name)
    misread_answers wides certificate rule number (Err want) broken is = tt
    misread_answers wides certificate rule number (Ok reply) broken is = λ call line at given.
        subst (λ (ended : Ended). Means call ended reply.text) (sym is.0)
        (not_searched (record {
          line = line;
          m = m;
          lacks = unread certificate given.0
              (subst (λ (l : ℕ). BreaksCertificate l m certificate rule number)
              (sym at.limit_is) broken);
          printed = is.1;
        }))

    pub read_answers : (before middle now : ℕ) (certificate : List ℕ) (c : Certificate) (r : Result Reply Want)
        → before ≤ middle
        → IsTextOf m c certificate → FitsLines limit m c → IfOk r (AnswersSearched limit (count middle now) m c name)
        → IfOk r (AnswersSearch limit (count before now) m certificate name)
    read_answers before middle now certificate c (Err want) least is fits h = tt
    read_answers before middle now certificate c (Ok reply) least is fits h = λ call line at given.
        h call line
        (call_within limit (count middle now) (count before now) Worst call line
        (rose_later before middle now least) at) (
          record {
            bytes = certificate;
            file = given.0;
            text = is;
            fits = subst (λ (l : ℕ). FitsLines l m c) (sym at.limit_is) fits;
          },
          given.1,
        )

    -- ---- a certificate, with a plan or without one
    module _ (c : Certificate) (wides : Count) where
      pub claims_none_answers : (r : Result Reply Want) → c.status ≡ infeasible
          → IfOk r (Replies (Cert 34 1) (certificate_fault_text 34 1))
          → IfOk r (AnswersSearched limit wides m c name)
      claims_none_answers (Err want) none is = tt
      claims_none_answers (Ok reply) none is = λ call line at given.
          subst (λ (ended : Ended). Means call ended reply.text) (sym is.0)
          (not_searched (record { line = line; m = m; lacks = planless c given.0 none refl refl; printed = is.1 }))

      pub planned_answers : (r : Result Reply Want) → c.status ≢ infeasible
          → IfOk r (AnswersPlanned limit wides m c name)
          → IfOk r (AnswersSearched limit wides m c name)
      planned_answers (Err want) some h = tt
      planned_answers (Ok reply) some h =
          λ call line at given. h call line at (record { certificate = given.0; has_plan = some }, given.1)

      -- ---- the form of the name, or none
      pub no_row_answers : (r : Result Reply Want) → Finds (form_names m) name None
          → IfOk r (Replies NoRow (no_row_text name))
          → IfOk r (AnswersPlanned limit wides m c name)
      no_row_answers (Err want) finds is = tt
      no_row_answers (Ok reply) finds is = λ call line at given.
          subst (λ (ended : Ended). Means call ended reply.text) (sym is.0)
          (record {
            line = line;
            m = m;
            c = c;
            name = name;
            names_none = record { plan = given.0; told = given.1; none = name_missing (form_names m) name finds };
            printed = is.1;
          })

      pub named_answers : (form : ℕ) (r : Result Reply Want) → Finds (form_names m) name (Some form)
          → IfOk r (AnswersSought limit wides m c form) → IfOk r (AnswersPlanned limit wides m c name)
      named_answers form (Err want) finds h = tt
      named_answers form (Ok reply) finds h = λ call line at given.
          let found = name_found (form_names m) name form finds in
          h call line at (record { plan = given.0; is_form = found.0; told = given.1 ∙ ap Some (sym found.1) })

  -- ---- the search
  module _ (model : IsModel m) (form : ℕ) (some : form < length (matrices m)) (c : Certificate)
      (size : length (certificate_vector c) ≡ form_columns m) where
    abbrev z : List Fraction
    z = certificate_vector c

    -- the worst case, as it is printed
    printed_answers : (wides : Count) (reply : Reply) (text : List ℕ) → ShowsWorst limit m form z text
        → (HasBound m c.plan c.value → ShowsKept m form z text) → Replies Printed text reply
        → AnswersSought limit wides m c form reply
    printed_answers wides reply text shows kept is = λ call line at has.
        subst (λ (ended : Ended). Means call ended reply.text) (sym is.0)
        (worst_found (record {
          line = line;
          m = m;
          c = c;
          form = form;
          has = has;
          shows = subst (λ (t : List ℕ). ShowsWorst (limit_of line) m form z t) (sym is.1)
              (subst (λ (l : ℕ). ShowsWorst l m form z text) (sym at.limit_is) shows);
          kept = λ bound. subst (λ (t : List ℕ). ShowsKept m form z t) (sym is.1) (kept bound);
        }))

    -- a scenario, with its slack or a wide number of that
    module _ (scale peak constant : Fraction) (scenario : List Fraction) (basis : List ℕ) (amounts : List Fraction)
        (tells : TellsWorst m form z scale peak constant scenario basis amounts) where
      is_worst : IsWorstScenario m form z scenario (slack_of scale peak constant)
      is_worst = worst_found_at m model form some z size scale peak constant scenario basis amounts tells

      kept_shown : HasBound m c.plan c.value
          → ShowsKept m form z (greatest_text m form (slack_of scale peak constant) scenario)
      kept_shown bound = (
        scenario,
        slack_of scale peak constant,
        is_worst,
        subst (λ x. 0ℚ ≤ℚ x) (sym is_worst.slack_is)
            (bound_slack m model form c.plan c.value bound scenario is_worst.admitted),
        refl,
      )

      slack_wide : IsWide limit (peak +ℚ constant) ⊎ IsWide limit (slack_of scale peak constant)
          → IsWideSlack limit m form z
      slack_wide h = record {
        basis = basis;
        scenario = scenario;
        amounts = amounts;
        found = tells.found;
        wide = subst (λ k. IsWide limit (dot amounts (set_limits m) +ℚ k)
            ⊎ IsWide limit (slack_of (cleared_by z) (dot amounts (set_limits m)) k))
            tells.constant_is
            (subst (λ p. IsWide limit (p +ℚ constant) ⊎ IsWide limit (slack_of (cleared_by z) p constant)) tells.peak_is
            (subst (λ s. IsWide limit (peak +ℚ constant) ⊎ IsWide limit (slack_of s peak constant))
            tells.denominator_is h));
      }

      slack_answers : (wides : Count) (reply : Reply) → Each (Fits limit) scenario
          → RepliesSlack limit m form wides scale peak constant scenario reply
          → AnswersSought limit wides m c form reply
      slack_answers wides reply fit (inl h) =
          printed_answers wides reply (greatest_text m form (slack_of scale peak constant) scenario)
          (attained basis scenario amounts (slack_of scale peak constant) tells.found is_worst (h.1.1, fit)
          (fitting_slack m model form some z size limit scale peak constant scenario basis amounts tells h.1.0 h.1.1)
          refl)
          kept_shown h.0
      slack_answers wides reply fit (inr h) = λ call line at has.
          subst (λ (ended : Ended). Means call ended reply.text) (sym h.0.0)
          (in_model (record {
            line = line;
            m = m;
            wide = searching c form has
                (subst (λ (l : ℕ). IsWideSought l m form z (spot.Sum (where_at.Cost form) 0)) (sym at.limit_is)
                (in_slack (scenario, is_worst.admitted) refl (slack_wide h.2)));
            raised = at.raised h.1;
            printed = told_alone call line m has.plan.certificate.file.read.model
                (ap takes_route at.verb_is) reply.text
                (too_wide_line m (spot.Sum (where_at.Cost form) 0)) h.0.1;
          }))

    -- a ray; a plan that has its bound has none
    no_ray : (ray : List Fraction) → HasNoGreatestAlong m form z ray → HasBound m c.plan c.value → ⊥
    no_ray ray along bound =
        let u = along.no_greatest 1ℚ in
        lt_irrefl_ℚ 0ℚ
        (lt_le_trans_ℚ 0ℚ 1ℚ 0ℚ zero_lt_one
        (le_trans_ℚ 1ℚ (form_at m form 1ℚ u.0 z) 0ℚ u.2 (bound_at m model c.plan c.value bound u.0 u.1 form)))

    ray_answers : (wides : Count) (reply : Reply) (basis : List ℕ) (column : ℕ) (ray : List Fraction)
        → FindsRay m form z basis column ray
        → Each (Fits limit) ray → Replies Printed (along_text m form ray) reply
        → AnswersSought limit wides m c form reply
    ray_answers wides reply basis column ray found fit is =
        let along : HasNoGreatestAlong m form z ray = told_along m model form some z size basis column ray found in
        printed_answers wides reply (along_text m form ray) (endless basis column ray found along fit refl)
        (λ bound. absurd (no_ray ray along bound)) is

    pub found_answers_as : {N : Type 0} (value : N → Fraction) → ((x : N) → Fits limit (value x)) → (wides : Count)
        (worst : ending.Worst N) (reply : Reply) → Tells value m form z worst
        → RepliesWorst limit m form wides value worst reply
        → AnswersSought limit wides m c form reply
    found_answers_as value fits wides (At scale peak constant scenario basis amounts) reply tells is =
        slack_answers (value scale) (value peak) (of_int constant) (scenario_of value scenario) basis
        (map value amounts) tells wides reply
        (all_fit value limit fits scenario.values) is
    found_answers_as value fits wides (Along ray basis column) reply tells is =
        ray_answers wides reply basis column (map value ray) tells (all_fit value limit fits ray) is

  -- what the search tells can be divided by its scale
  pub told_scale : {N : Type 0} (value : N → Fraction) (form : ℕ) (z : List Fraction) (worst : ending.Worst N)
      → Tells value m form z worst
      → HasScale value worst
  told_scale value form z (At scale peak constant scenario basis amounts) tells =
      scale_some z (value scale) tells.denominator_is
  told_scale value form z (Along ray basis column) tells = tt
