-- The answers of `check`, from what the reading of a certificate and its check answer; and the places of conditions.
use Rattle.std.proofs.Common.{◌≡◌, ℕ, zero, suc, ◌+◌, ◌<◌, ◌≤◌, Bool, true, false, List, [], ◌∷◌, ◌++◌, length, map, Option, Some, None, Result, Ok, Err, IfOk, refl, subst, sym, ap, ◌∙◌, arith}
use Rattle.std.specs.Prelude.{if◌then◌else◌, ℤ}
use Rattle.std.specs.List.{filter}
use Rattle.std.proofs.lemmas.List.{length-map}
use Rattle.rob_algebra.specs.Fraction.{Fraction}
use Rattle.rob_cert.specs.Apart.{FitsLines}
use Rattle.rob_cert.specs.Shape.{AreCoversOf, HasShape, IsCoverOf}
use Rattle.rob_cert.specs.Whole.{IsTextOf}
use Rattle.rob_check.proofs.SumLaws.{numbers_each}
use Rattle.rob_check.specs.Covers.{Covering, cover_tests, column_test, constant_test, column_tests, cover_place, covers_of, form_tests, sign_place, sign_test}
use Rattle.rob_check.specs.Conditions.{base_tests, conditions_as, covering_tests, inside_tests, items_sum_tests, items_tests, item_tests, move_test, plan_covering, set_tests, step_covering, sum_test, verdict_of}
use Rattle.rob_check.specs.LiftedSet.{lifted}
use Rattle.rob_check.specs.Sums.{numbers_from}
use Rattle.rob_check.specs.Verdicts.{Condition, Judges, OnAccepted, RoseIfWide, decided, verdict}
use Rattle.rob_check.specs.declared.covering.Covered.{Covered}
use Rattle.rob_check.specs.declared.covering.Covered.TheVariants.{Plan, Step}
use Rattle.rob_check.specs.declared.verdict.Verdict.{Verdict}
use Rattle.rob_check.specs.declared.verdict.Verdict.TheVariants as verdicts
use Rattle.rob_meaning.proofs.Lists.EachLemmas.{each_map, each_append}
use Rattle.rob_meaning.specs.Certificates as meaning
use Rattle.rob_meaning.specs.Certificates.{Certificate, Item, Status, optimal, infeasible, unbounded}
use Rattle.rob_meaning.specs.Clearing.{fractions}
use Rattle.rob_meaning.specs.Forms.{forms, matrices, matrix_of}
use Rattle.rob_meaning.specs.Places.{Each}
use Rattle.rob_meaning.specs.Proves.{HasStatus, Proves}
use Rattle.rob_meaning.specs.RobustModel.{RobustModel, column_count}
use Rattle.rob_meaning.specs.SetConditions.{SetCondition, set_conditions}
use Rattle.rob_meaning.specs.SetRows.{set_column_count}
use Rattle.rob_model.specs.declared.place.Place.{Place}
use Rattle.rob_model.specs.declared.place.Place.TheVariants as At
use Rattle.rob_model.specs.declared.place.Spot.TheVariants as spot
use Rattle.rob_number.specs.declared.memory.Memory.{Memory as Want}
use Rattle.rob_report.specs.Places.{IsPlaceOf}
use Rattle.rob_report.specs.Spots.{rejected_line, too_wide_line}
use Rattle.rob_top.proofs.Meaning.DefaultRoutes.{told_alone}
use Rattle.rob_commands.specs.Answers.{accepted_text, certificate_fault_text}
use Rattle.rob_top.specs.Calls.{Call, Count, count, limit_of}
use Rattle.rob_top.specs.Files.{HasFile}
use Rattle.rob_top.specs.Headline.{Means}
use Rattle.rob_top.specs.Inputs.{BreaksCertificate}
use Rattle.rob_top.specs.Refused.{checking}
use Rattle.rob_commands.specs.Replies.{Replies}
use Rattle.rob_top.specs.Work.{AnswersCertificate, AnswersFile, AnswersWhole}
use Rattle.rob_top.specs.Ways.{a_certificate, in_model, not_checked}
use Rattle.rob_commands.specs.declared.ended.Ended.{Ended}
use Rattle.rob_commands.specs.declared.ended.Ended.TheVariants.{Accepted, Rejected, TooWide, Cert}
use Rattle.rob_top.specs.declared.files.Texts.{Texts}
use Rattle.rob_commands.specs.declared.reply.Reply.{Reply}
use Rattle.rob_top.proofs.Fetching.OwnLemmas.{file_came, has_kind}
use Rattle.rob_round_trip.proofs.Faultless.CanonicalScopes.{each_mapped}
use Rattle.rob_number.proofs.CountLemmas.{rose_later}
use Rattle.rob_top.proofs.Meaning.WorkLemmas.{call_of_verb, call_within}
use Rattle.rob_words.specs.Commands.{Line}
use Rattle.rob_words.specs.Verbs.{own_of}
use Rattle.rob_words.specs.Verbs.{takes_route}
use Rattle.rob_words.specs.declared.verb.Own.TheVariants as own
use Rattle.rob_words.specs.declared.verb.Verb.{Verb}
use Rattle.rob_words.specs.declared.verb.Verb.TheVariants.{Check}

-- ---- the places of conditions are the model's

filtered_more : {A : Type 0} (P : A → Type 0) (b : Bool) (x : A) (xs : List A) → P x → Each P xs
    → Each P (if b then x ∷ xs else xs)
filtered_more P true x xs h k = (h, k)
filtered_more P false x xs h k = k

each_filtered : {A : Type 0} (P : A → Type 0) (p : A → Bool) (xs : List A) → Each P xs → Each P (filter p xs)
each_filtered P p [] h = tt
each_filtered P p (x ∷ xs) h = filtered_more P (p x) x (filter p xs) h.0 (each_filtered P p xs h.1)

module _ (limit : ℕ) (m : RobustModel) where
  abbrev IsNamed : Condition → Type 0
  IsNamed c = IsPlaceOf m c.place

  set_named : (place : ℕ → Place) (s : Fraction) (p : List Fraction)
      → ((i : ℕ) → i < length (set_conditions m) → IsPlaceOf m (place i))
      → (k : ℕ) (cs : List SetCondition) → k + length cs ≤ length (set_conditions m)
      → Each IsNamed (set_tests limit m place s p k cs)
  set_named place s p named k [] h = tt
  set_named place s p named k (c ∷ cs) h = (named k (omega arith), set_named place s p named (suc k) cs (omega arith))

  inside_named : (inside : List Fraction) → Each IsNamed (inside_tests limit m inside)
  inside_named inside = set_named At.Inside _ inside (λ i h. h) zero (set_conditions m) (omega arith)

  items_named : (i : ℕ) (items : List Item) → Each IsNamed (items_tests limit m i items)
  items_named i [] = tt
  items_named i (item ∷ items) =
      each_append IsNamed (item_tests limit m i item) (items_tests limit m (suc i) items)
      (tt, (tt, set_named (At.Item i) item.base item.vector (λ c h. h) zero (set_conditions m) (omega arith)))
      (items_named (suc i) items)

  sums_named : (value : Option Fraction) (c : Certificate) → Each IsNamed (items_sum_tests limit m value c)
  sums_named value c =
      let n = column_count m in
      let one = sum_test limit (matrices m) m.sense n value c.items in
      each_append IsNamed (map one (numbers_from 1 (suc n))) (one zero ∷ [])
      (each_mapped IsNamed one (numbers_from 1 (suc n))
      (numbers_each (λ j. IsPlaceOf m (At.Sum j)) 1 (suc n) (λ j low high. omega arith)))
      (omega arith, tt)

  -- the places of a covering's conditions
  sign_named : (g : Covering) (i : ℕ) → i < length (forms m) → (c : meaning.Cover) → IsCoverOf m c
      → IsNamed (sign_test g i c)
  sign_named g i h c is = by g.covered
    where
      by : (covered : Covered) → IsPlaceOf m (sign_place covered i c.set_row)
      by Plan = record { form = h; set_row = is.set_row }
      by Step = record { form = h; set_row = is.set_row }

  sum_named : (covered : Covered) (i k : ℕ) → i < length (forms m) → k ≤ set_column_count m
      → IsPlaceOf m (cover_place covered i k)
  sum_named Plan i k h few = record { form = h; column = few }
  sum_named Step i k h few = record { form = h; column = few }

  form_named : (g : Covering) → AreCoversOf m g.covers → (i : ℕ) (form : List (List Fraction)) → i < length (forms m)
      → Each IsNamed (form_tests limit (lifted m) g i form (covers_of i g.covers))
  form_named g are i form h =
      let mine = covers_of i g.covers in
      let set = lifted m in
      let one = column_test limit set g i form mine in
      each_append IsNamed (map (sign_test g i) mine) (column_tests limit set g i form mine)
      (each_mapped IsNamed (sign_test g i) mine
      (each_map (IsCoverOf m) (λ c. IsNamed (sign_test g i c)) (sign_named g i h) mine
      (each_filtered (IsCoverOf m) _ g.covers are.each)))
      (each_append IsNamed (map one (numbers_from zero (set_column_count m)))
      (constant_test limit set g i form mine ∷ [])
      (each_mapped IsNamed one (numbers_from zero (set_column_count m))
      (numbers_each (λ k. IsNamed (one k)) zero (set_column_count m)
      (λ k low high. sum_named g.covered i (suc k) h (omega arith))))
      (sum_named g.covered i zero h (omega arith), tt))

  covers_named : (g : Covering) → AreCoversOf m g.covers → (i : ℕ) (all : List (List (List ℤ)))
      → i + length all ≤ length (forms m)
      → Each IsNamed (cover_tests limit (lifted m) g i all)
  covers_named g are i [] h = tt
  covers_named g are i (form ∷ all) h =
      each_append IsNamed (form_tests limit (lifted m) g i (fractions form) (covers_of i g.covers))
      (cover_tests limit (lifted m) g (suc i) all)
      (form_named g are i (fractions form) (omega arith))
      (covers_named g are (suc i) all (omega arith))

  covering_named : (g : Covering) → AreCoversOf m g.covers → Each IsNamed (covering_tests limit m g)
  covering_named g are = covers_named g are zero (matrices m) (omega (arith, length-map (forms m) (matrix_of m)))

  base_named : (c : Certificate) → Each IsNamed (base_tests limit m c)
  base_named c =
      each_append IsNamed (inside_tests limit m c.inside) (items_tests limit m zero c.items) (inside_named c.inside)
      (items_named zero c.items)

  conditions_named : (c : Certificate) → HasShape m c → (status : Status)
      → Each IsNamed (conditions_as limit m status c)
  conditions_named c shape optimal = (
    tt,
    each_append IsNamed (base_tests limit m c)
        (items_sum_tests limit m (Some c.value) c ++ covering_tests limit m (plan_covering c)) (base_named c)
        (each_append IsNamed (items_sum_tests limit m (Some c.value) c) (covering_tests limit m (plan_covering c))
        (sums_named (Some c.value) c)
        (covering_named (plan_covering c) shape.covers)),
  )
  conditions_named c shape infeasible =
      each_append IsNamed (base_tests limit m c) (items_sum_tests limit m None c) (base_named c) (sums_named None c)
  conditions_named c shape unbounded = (
    tt,
    each_append IsNamed (base_tests limit m c)
        (covering_tests limit m (plan_covering c) ++ (move_test m.sense c ∷ covering_tests limit m (step_covering c)))
        (base_named c)
        (each_append IsNamed (covering_tests limit m (plan_covering c))
        (move_test m.sense c ∷ covering_tests limit m (step_covering c))
        (covering_named (plan_covering c) shape.covers) (tt, covering_named (step_covering c) shape.holds)),
  )

  -- a verdict's place is the model's
  abbrev NamesPlace : Verdict → Type 0
  NamesPlace verdicts.Accepted = Unit {0}
  NamesPlace (verdicts.Rejected place) = IsPlaceOf m place
  NamesPlace (verdicts.TooWide place) = IsPlaceOf m place

  decided_named : (place : Place) (holds : Option Bool) (rest : Verdict) → IsPlaceOf m place → NamesPlace rest
      → NamesPlace (decided place holds rest)
  decided_named place (Some true) rest h k = k
  decided_named place (Some false) rest h k = h
  decided_named place None rest h k = h

  verdict_named : (cs : List Condition) → Each IsNamed cs → NamesPlace (verdict cs)
  verdict_named [] h = tt
  verdict_named (c ∷ cs) h = decided_named c.place c.holds (verdict cs) h.0 (verdict_named cs h.1)

  names_place : (c : Certificate) → HasShape m c → NamesPlace (verdict_of limit m c)
  names_place c shape = verdict_named (conditions_as limit m c.status c) (conditions_named c shape c.status)

  pub rejected_place : (c : Certificate) (v : Verdict) (place : Place) → HasShape m c → v ≡ verdict_of limit m c
      → v ≡ verdicts.Rejected place → IsPlaceOf m place
  rejected_place c v place shape is e = subst (λ (w : Verdict). NamesPlace w) (sym is ∙ e) (names_place c shape)

  pub too_wide_place : (c : Certificate) (v : Verdict) (place : Place) → HasShape m c → v ≡ verdict_of limit m c
      → v ≡ verdicts.TooWide place → IsPlaceOf m place
  too_wide_place c v place shape is e = subst (λ (w : Verdict). NamesPlace w) (sym is ∙ e) (names_place c shape)

-- ---- the answers
module _ (limit : ℕ) (m : RobustModel) where
  -- the command is `check`, so the file of the certificate came
  pub file_answers : (wides : Count) (line : Line) (texts : Texts) (text : List ℕ) (r : Result Reply Want)
      → line.verb ≡ Check
      → text ≡ texts.certificate.items → IfOk r (AnswersFile limit wides m text)
      → IfOk r (AnswersWhole limit wides m line texts)
  file_answers wides line texts text (Err want) here same h = tt
  file_answers wides line texts text (Ok reply) here same h = λ call at came has.
      let names : has_kind own.Certificate (own_of line.verb) ≡ true =
      subst (λ (v : Verb). has_kind own.Certificate (own_of v) ≡ true) (sym here) refl in
      h call line (call_of_verb limit wides line.verb Check call line here at)
      (record {
        read = has;
        is_verb = here;
        file = subst (λ (list : List ℕ). HasFile call line own.Certificate list) (sym same)
            (file_came call line texts own.Certificate _ refl came names);
      })

  pub rule_answers : (wides : Count) (text : List ℕ) (rule number : ℕ) (r : Result Reply Want)
      → BreaksCertificate limit m text rule number
      → IfOk r (Replies (Cert rule number) (certificate_fault_text rule number))
      → IfOk r (AnswersFile limit wides m text)
  rule_answers wides text rule number (Err want) broken is = tt
  rule_answers wides text rule number (Ok reply) broken is = λ call line at file.
      subst (λ (ended : Ended). Means call ended reply.text) (sym is.0)
      (not_checked (record {
        line = line;
        m = m;
        bytes = text;
        file = file;
        breaks = subst (λ (l : ℕ). BreaksCertificate l m text rule number) (sym at.limit_is) broken;
        printed = is.1;
      }))

  pub certificate_answers : (before middle now : ℕ) (text : List ℕ) (c : Certificate) (r : Result Reply Want)
      → before ≤ middle → IsTextOf m c text → FitsLines limit m c
      → IfOk r (AnswersCertificate limit (count middle now) m c) → IfOk r (AnswersFile limit (count before now) m text)
  certificate_answers before middle now text c (Err want) least is fits h = tt
  certificate_answers before middle now text c (Ok reply) least is fits h = λ call line at file.
      h call line
      (call_within limit (count middle now) (count before now) Check call line
      (rose_later before middle now least) at)
      (record {
        bytes = text;
        file = file;
        text = is;
        fits = subst (λ (l : ℕ). FitsLines l m c) (sym at.limit_is) fits;
      })

  module _ (c : Certificate) (v : Verdict) (is : v ≡ verdict_of limit m c) where
    verdict_is : (call : Call) (line : Line) (same : Verdict) → limit_of line ≡ limit → v ≡ same
        → verdict_of (limit_of line) m c ≡ same
    verdict_is call line same at e = ap (λ (l : ℕ). verdict_of l m c) at ∙ sym is ∙ e

    pub accepted_answers : (wides : Count) (r : Result Reply Want) → v ≡ verdicts.Accepted → Judges (Proves m c) v
        → OnAccepted v (HasStatus m c.status c.value)
        → IfOk r (Replies Accepted (accepted_text c)) → IfOk r (AnswersCertificate limit wides m c)
    accepted_answers wides (Err want) e judged holds said = tt
    accepted_answers wides (Ok reply) e judged holds said = λ call line at read.
        subst (λ (ended : Ended). Means call ended reply.text) (sym said.0)
        (a_certificate (record {
          line = line;
          m = m;
          c = c;
          read = read;
          verdict = verdict_is call line verdicts.Accepted at.limit_is e;
          proves = subst (λ (w : Verdict). Judges (Proves m c) w) e judged;
          holds = subst (λ (w : Verdict). OnAccepted w (HasStatus m c.status c.value)) e holds;
          printed = said.1;
        }))

    pub rejected_answers : (wides : Count) (place : Place) (r : Result Reply Want)
        → v ≡ verdicts.Rejected place → Judges (Proves m c) v
        → IfOk r (Replies (Rejected place) (rejected_line m place)) → IfOk r (AnswersCertificate limit wides m c)
    rejected_answers wides place (Err want) e judged said = tt
    rejected_answers wides place (Ok reply) e judged said = λ call line at read.
        subst (λ (ended : Ended). Means call ended reply.text) (sym said.0)
        (record {
          line = line;
          m = m;
          c = c;
          read = read;
          verdict = verdict_is call line (verdicts.Rejected place) at.limit_is e;
          proves_not = subst (λ (w : Verdict). Judges (Proves m c) w) e judged;
          printed = said.1;
        })

    pub too_wide_answers : (before now : ℕ) (place : Place) (r : Result Reply Want) → v ≡ verdicts.TooWide place
        → RoseIfWide before now v
        → IfOk r (Replies (TooWide (spot.Check place)) (too_wide_line m (spot.Check place)))
        → IfOk r (AnswersCertificate limit (count before now) m c)
    too_wide_answers before now place (Err want) e counted said = tt
    too_wide_answers before now place (Ok reply) e counted said = λ call line at read.
        let rose : RoseIfWide before now (verdicts.TooWide place) =
        subst (λ (w : Verdict). RoseIfWide before now w) e counted in
        subst (λ (ended : Ended). Means call ended reply.text) (sym said.0)
        (in_model (record {
          line = line;
          m = m;
          wide = checking c place read refl (verdict_is call line (verdicts.TooWide place) at.limit_is e);
          raised = at.raised rose;
          printed = told_alone call line m read.file.read.model (ap takes_route at.verb_is) reply.text
              (too_wide_line m (spot.Check place)) said.1;
        }))
