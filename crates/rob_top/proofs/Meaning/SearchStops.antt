-- The answers of `worst` where the search stops, and what the search asks for.
use Rattle.std.proofs.Common.{◌≡◌, ◌≢◌, ℕ, ◌<◌, ◌≤◌, nat_abs, List, [], ◌∷◌, false, length, map, None, Some, Result, Ok, Err, IfOk, inl, inr, refl, subst, sym, ap, ◌∙◌, arith, length-append}
use Rattle.std.proofs.lemmas.List.{length-map}
use Rattle.rob_algebra.specs.Fraction.{Fraction, of_int}
use Rattle.rob_algebra.specs.Width.{Fits}
use Rattle.rob_cert.specs.Shape.{HasParts, HasShape}
use Rattle.rob_cert.specs.declared.ending.Stop.{Stop}
use Rattle.rob_cert.specs.declared.ending.Stop.TheVariants as stop
use Rattle.rob_cert.specs.declared.ending.Worst as ending
use Rattle.rob_dualize.specs.SetSolving.{IsWideInSet}
use Rattle.rob_dualize.specs.Solving.{CountsStop}
use Rattle.rob_meaning.specs.Certificates.{Certificate, Status, infeasible, optimal, unbounded}
use Rattle.rob_meaning.specs.Forms.{form_columns, forms}
use Rattle.rob_meaning.specs.Names.{form_names}
use Rattle.rob_meaning.specs.Places.{Each}
use Rattle.rob_meaning.specs.RobustModel.{RobustModel, column_count}
use Rattle.rob_meaning.specs.WellFormed.{IsModel}
use Rattle.rob_model.specs.Naming.{Finds}
use Rattle.rob_model.specs.declared.place.Program.TheVariants as program
use Rattle.rob_model.specs.declared.place.Spot.{Spot}
use Rattle.rob_model.specs.declared.place.Spot.TheVariants as spot
use Rattle.rob_model.specs.declared.place.Where.TheVariants as where_at
use Rattle.rob_model.specs.declared.plan.Plan.{Plan}
use Rattle.rob_number.specs.Counts.{Rose}
use Rattle.rob_number.specs.declared.memory.Memory.{Memory as Want}
use Rattle.rob_report.specs.Places.{IsSpotOf}
use Rattle.rob_report.specs.Spots.{too_wide_line}
use Rattle.rob_top.proofs.Meaning.DefaultRoutes.{told_alone}
use Rattle.rob_words.specs.Verbs.{takes_route}
use Rattle.rob_words.specs.Values.{Word}
use Rattle.rob_commands.specs.Answers.{no_row_text}
use Rattle.rob_commands.specs.Replies.{Replies}
use Rattle.rob_worst.specs.Finding.{HasCause, IsWideAt, Tells}
use Rattle.rob_worst.specs.Vectors.{plan_of}
use Rattle.rob_top.proofs.Meaning.RouteLemmas.{no_rounds}
use Rattle.rob_top.proofs.Meaning.SearchingLemmas.{found_answers_as, form_matrix, named_answers, no_row_answers}
use Rattle.rob_top.specs.Calls.{Count, count}
use Rattle.rob_top.specs.Headline.{Means}
use Rattle.rob_top.specs.Refused.{searching}
use Rattle.rob_top.specs.Searched.{IsWideSought, certificate_vector, in_search, in_set}
use Rattle.rob_top.specs.SearchWork.{AnswersPlanned, AnswersSought, RepliesWorst}
use Rattle.rob_top.specs.WorkStops.{IsStopOf, RepliesStop}
use Rattle.rob_top.specs.Ways.{in_model, while_searching}
use Rattle.rob_commands.specs.declared.ended.Ended.{Ended}
use Rattle.rob_commands.specs.declared.ended.Ended.TheVariants.{NoRow}
use Rattle.rob_commands.specs.declared.reply.Reply.{Reply}
use Rattle.rob_words.specs.declared.route.Route.TheVariants.{Dual}

-- the vector has a number for each column of a form
pub given_size : {N : Type 0} (value : N → Fraction) (m : RobustModel) (plan : Plan N)
    → length plan.columns ≡ column_count m
    → length (plan_of value plan) ≡ form_columns m
given_size value m plan e =
    omega (arith, e, length-map plan.columns value, length-append (map value plan.columns) (value plan.bound ∷ []))

-- a certificate with a plan has a number for each decision column
pub plan_length : (m : RobustModel) (c : Certificate) → HasShape m c → c.status ≢ infeasible
    → length c.plan ≡ column_count m
plan_length m c shape some = by c.status shape.parts some
  where
    by : (status : Status) → HasParts m status c → status ≢ infeasible → length c.plan ≡ column_count m
    by optimal h some = h.plan
    by infeasible h some = absurd (some refl)
    by unbounded h some = h.plan

pub planned_size : {N : Type 0} (value : N → Fraction) (m : RobustModel) (c : Certificate) (plan : List N)
    → HasShape m c
    → c.plan ≡ map value plan → c.status ≢ infeasible → length plan ≡ column_count m
planned_size value m c plan shape same some = sym (ap length same ∙ length-map plan value) ∙ plan_length m c shape some

module _ (limit : ℕ) (m : RobustModel) (form : ℕ) (z : List Fraction) (some : form < length (forms m)) where
  -- ---- a wide number's spot is one of the model's
  set_spot : (place : Spot) → IsWideInSet limit m place → IsSpotOf m place
  set_spot (spot.Dictionary program.Set basis i) h = tt
  set_spot (spot.Dictionary program.Reform basis i) h = absurd h
  set_spot (spot.Dictionary program.Master basis i) h = absurd h
  set_spot (spot.Dictionary (program.SearchPlan f) basis i) h = absurd h
  set_spot (spot.Dictionary (program.SearchMove f) basis i) h = absurd h
  set_spot (spot.Coefficient where_it_is) h = absurd h
  set_spot (spot.Clearing where_it_is) h = absurd h
  set_spot (spot.Sum where_it_is j) h = absurd h
  set_spot (spot.Check place) h = absurd h
  set_spot (spot.Replay number) h = absurd h

  is_form : (f : ℕ) → f ≡ form → f < length (forms m)
  is_form f e = subst (λ i. i < length (forms m)) (sym e) some

  search_spot : (place : Spot) → IsWideAt limit m false form z place → IsSpotOf m place
  search_spot (spot.Dictionary (program.SearchPlan f) basis i) h = is_form f h.0.1
  search_spot (spot.Dictionary (program.SearchMove f) basis i) h = is_form f h.0.1
  search_spot (spot.Dictionary program.Set basis i) h = absurd h
  search_spot (spot.Dictionary program.Reform basis i) h = absurd h
  search_spot (spot.Dictionary program.Master basis i) h = absurd h
  search_spot (spot.Clearing where_at.Plan) h = tt
  search_spot (spot.Clearing where_at.Move) h = tt
  search_spot (spot.Clearing (where_at.Form i)) h = absurd h
  search_spot (spot.Clearing (where_at.SetLine i)) h = absurd h
  search_spot (spot.Clearing (where_at.SetRow i)) h = absurd h
  search_spot (spot.Clearing (where_at.Cut i)) h = absurd h
  search_spot (spot.Clearing (where_at.Cost i)) h = absurd h
  search_spot (spot.Sum (where_at.Cost f) k) h = is_form f h.0
  search_spot (spot.Sum where_at.Plan k) h = absurd h
  search_spot (spot.Sum where_at.Move k) h = absurd h
  search_spot (spot.Sum (where_at.Form i) k) h = absurd h
  search_spot (spot.Sum (where_at.SetLine i) k) h = absurd h
  search_spot (spot.Sum (where_at.SetRow i) k) h = absurd h
  search_spot (spot.Sum (where_at.Cut i) k) h = absurd h
  search_spot (spot.Coefficient where_it_is) h = absurd h
  search_spot (spot.Check place) h = absurd h
  search_spot (spot.Replay number) h = absurd h

  pub stop_of_search : (s : Stop) → HasCause limit m false form z s → IsStopOf m s
  stop_of_search (stop.EmptySet weights) (inl h) = sym (length-map weights of_int) ∙ h.shown.shows.count
  stop_of_search (stop.EmptySet weights) (inr h) = absurd h.1
  stop_of_search (stop.Wide place trace) (inl h) = (set_spot place h.0, no_rounds m trace.rounds h.1)
  stop_of_search (stop.Wide place trace) (inr h) = (search_spot place h.1.0, no_rounds m trace.rounds h.1.1)
  stop_of_search stop.Memory h = tt

-- ---- the answers where it stops
module _ (limit : ℕ) (m : RobustModel) (form : ℕ) (c : Certificate) where
  abbrev z : List Fraction
  z = certificate_vector c

  wide_sought : (place : Spot) (trace : _) → HasCause limit m false form z (stop.Wide place trace)
      → IsWideSought limit m form z place
  wide_sought place trace (inl h) = in_set h.0
  wide_sought place trace (inr h) = in_search h.0 h.1.0

  stop_answers : (before now : ℕ) (s : Stop) (reply : Reply) → HasCause limit m false form z s → CountsStop before now s
      → RepliesStop m Dual s reply → AnswersSought limit (count before now) m c form reply
  stop_answers before now (stop.EmptySet weights) reply (inl h) counts is = λ call line at has.
      subst (λ (ended : Ended). Means call ended reply.text) (sym is.0)
      (while_searching (record {
        line = line;
        m = m;
        c = c;
        form = form;
        has = has;
        shown = h.shown;
        fits = subst (λ (l : ℕ). Each (λ weight. nat_abs weight ≤ l) weights) (sym at.limit_is) h.fits;
        printed = is.1;
      }))
  stop_answers before now (stop.EmptySet weights) reply (inr h) counts is = absurd h.1
  stop_answers before now (stop.Wide place trace) reply cause counts is = λ call line at has.
      let rose : Rose before now = omega (arith, counts) in
      subst (λ (ended : Ended). Means call ended reply.text) (sym is.0)
      (in_model (record {
        line = line;
        m = m;
        wide = searching c form has
            (subst (λ (l : ℕ). IsWideSought l m form z place) (sym at.limit_is) (wide_sought place trace cause));
        raised = at.raised rose;
        printed = told_alone call line m has.plan.certificate.file.read.model (ap takes_route at.verb_is) reply.text
            (too_wide_line m place) is.1;
      }))
  stop_answers before now stop.Memory reply cause counts is = absurd is

-- ---- at the plan that was given
module _ {N : Type 0} (value : N → Fraction) (limit : ℕ) (m : RobustModel) (form : ℕ) (plan : Plan N) where
  abbrev AnswersPlan : ℕ → ℕ → Reply → Type 0
  AnswersPlan before now reply =
      (c : Certificate) → plan_of value plan ≡ certificate_vector c
      → AnswersSought limit (count before now) m c form reply

  pub stopped_search : (before now : ℕ) (s : Stop) (r : Result Reply Want)
      → HasCause limit m false form (plan_of value plan) s
      → CountsStop before now s → IfOk r (RepliesStop m Dual s) → IfOk r (AnswersPlan before now)
  stopped_search before now s (Err want) cause counts is = tt
  stopped_search before now s (Ok reply) cause counts is = λ c same.
      stop_answers limit m form c before now s reply
      (subst (λ (z : List Fraction). HasCause limit m false form z s) same cause) counts is

  pub found_search : ((x : N) → Fits limit (value x)) → IsModel m → form < length (forms m)
      → length (plan_of value plan) ≡ form_columns m → (before middle now : ℕ)
      (worst : ending.Worst N) (r : Result Reply Want) → middle ≡ before → Tells value m form (plan_of value plan) worst
      → IfOk r (RepliesWorst limit m form (count middle now) value worst) → IfOk r (AnswersPlan before now)
  found_search fits model some size before middle now worst (Err want) kept tells is = tt
  found_search fits model some size before middle now worst (Ok reply) kept tells is = λ c same.
      found_answers_as limit m model form (form_matrix m form some) c
      (subst (λ (z : List Fraction). length z ≡ form_columns m) same size) value fits (count before now) worst reply
      (subst (λ (z : List Fraction). Tells value m form z worst) same tells)
      (subst (λ n. RepliesWorst limit m form (count n now) value worst reply) kept is)

-- ---- at the plan, with the name of a form: an answer for each certificate that has the plan
module _ {N : Type 0} (value : N → Fraction) (limit : ℕ) (m : RobustModel) (plan : Plan N) (name : Word)
    (wides : Count) where
  abbrev AnswersNamed : Reply → Type 0
  AnswersNamed reply =
      (c : Certificate) → plan_of value plan ≡ certificate_vector c → AnswersPlanned limit wides m c name reply

  pub no_row_at : (r : Result Reply Want) → Finds (form_names m) name None → IfOk r (Replies NoRow (no_row_text name))
      → IfOk r AnswersNamed
  no_row_at (Err want) finds is = tt
  no_row_at (Ok reply) finds is = λ c same. no_row_answers limit m name c wides (Ok reply) finds is

  pub named_at : (form : ℕ) (r : Result Reply Want) → Finds (form_names m) name (Some form)
      → IfOk r (λ reply. (c : Certificate) → plan_of value plan ≡ certificate_vector c
      → AnswersSought limit wides m c form reply)
      → IfOk r AnswersNamed
  named_at form (Err want) finds h = tt
  named_at form (Ok reply) finds h = λ c same. named_answers limit m name c wides form (Ok reply) finds (h c same)

  -- for one of them
  pub at_certificate : (c : Certificate) (r : Result Reply Want) → plan_of value plan ≡ certificate_vector c
      → IfOk r AnswersNamed → IfOk r (AnswersPlanned limit wides m c name)
  at_certificate c (Err want) same h = tt
  at_certificate c (Ok reply) same h = h c same
