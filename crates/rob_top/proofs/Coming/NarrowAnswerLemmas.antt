-- The answer of `narrow`, and the answers of `solve` and `prove` for a narrow model.
use Rattle.std.proofs.Common.{◌≡◌, ◌≢◌, pos, ◌&&◌, ◌↔◌, ◌⊎◌, ℕ, ◌++◌, true, List, Option, Some, None, Result, Ok, Err, IfOk, codes, inl, inr, refl, sym, ◌∙◌, ap, ap₂, subst}
use Rattle.std.specs.Prelude.{is_some}
use Rattle.rob_algebra.specs.Fraction.{Fraction, of_int}
use Rattle.rob_counterpart.proofs.Proving.CompletenessLemmas.{some_status}
use Rattle.rob_dualize.proofs.SolvingLemmas.{narrow_spot}
use Rattle.rob_dualize.specs.RowBounds.{AreBothWithin, TellsBounds}
use Rattle.rob_dualize.specs.Solving.{IsNarrowModel}
use Rattle.rob_dualize.specs.declared.bounds.ModelBounds.{ModelBounds}
use Rattle.rob_elab.specs.Forms.{IsForms}
use Rattle.rob_elab.specs.declared.forms.Forms.{Forms}
use Rattle.rob_sets.specs.SetForm.{IsSetForm}
use Rattle.rob_sets.specs.declared.set_form.SetForm.{SetForm}
use Rattle.rob_meaning.specs.Certificates.{Status, optimal, infeasible, unbounded}
use Rattle.rob_meaning.specs.Proves.{HasStatus}
use Rattle.rob_meaning.specs.Status.{IsOptimal, IsInfeasible, IsUnbounded}
use Rattle.rob_meaning.specs.RobustModel.{RobustModel}
use Rattle.rob_meaning.specs.UncertaintySet.{Admits}
use Rattle.rob_meaning.specs.WellFormed.{IsModel}
use Rattle.rob_model.specs.declared.place.Program.TheVariants as program
use Rattle.rob_model.specs.declared.place.Spot.{Spot}
use Rattle.rob_model.specs.declared.place.Spot.TheVariants.{Dictionary}
use Rattle.rob_number.specs.declared.memory.Memory.{Memory as Want}
use Rattle.rob_report.specs.NarrowText.{bound_line, narrow_line}
use Rattle.rob_top.proofs.Coming.TrueAnswerLemmas.{first_of_two, formed_origin}
use Rattle.rob_top.specs.Calls.{Call, Count, Known}
use Rattle.rob_top.specs.Commands as works
use Rattle.rob_top.specs.Commands.{work_of}
use Rattle.rob_top.specs.Endings.{IsEmptyAnswer, IsShownAnswer, IsSolveAnswer}
use Rattle.rob_top.specs.Headline.{Means}
use Rattle.rob_top.specs.Inputs.{HasForms}
use Rattle.rob_top.specs.Narrowed.{RepliesNarrow, TellsNarrow, bounds_text}
use Rattle.rob_top.specs.Work.{AnswersWhole}
use Rattle.rob_top.specs.Ways.{narrowed}
use Rattle.rob_commands.specs.declared.ended.Ended.{Ended}
use Rattle.rob_commands.specs.declared.ended.Ended.TheVariants.{EmptySet, Printed, ReadFault, Memory, TooWide}
use Rattle.rob_top.specs.declared.files.Texts.{Texts}
use Rattle.rob_commands.specs.declared.reply.Reply.{Reply}
use Rattle.rob_words.specs.Commands.{Line}
use Rattle.rob_words.specs.declared.route.Route.TheVariants.{Dual}
use Rattle.rob_words.specs.declared.verb.Verb.TheVariants.{Narrow}
use Rattle.std.proofs.lemmas.Bool.{and_parts, and_from}

-- ---- what is printed
some_not_none : {A : Type 0} (o : Option A) → is_some o ≡ true → o ≢ None
some_not_none None h = λ e. cc
some_not_none (Some x) h = λ e. cc

not_none_some : {A : Type 0} (o : Option A) → o ≢ None → is_some o ≡ true
not_none_some None h = absurd (h refl)
not_none_some (Some x) h = refl

told_yes : (told : ModelBounds) (limit : ℕ) (m : RobustModel) → AreBothWithin told ↔ IsNarrowModel limit m
    → ((is_some told.set.bound && is_some told.counterpart.bound) ≡ true) ↔ IsNarrowModel limit m
told_yes told limit m h = (
  λ e. let both = and_parts (is_some told.set.bound) (is_some told.counterpart.bound) e in
      h.0 (some_not_none told.set.bound both.0, some_not_none told.counterpart.bound both.1),
  λ narrow. let both = h.1 narrow in
      and_from (is_some told.set.bound) (is_some told.counterpart.bound) (not_none_some told.set.bound both.0)
      (not_none_some told.counterpart.bound both.1),
)

pub told_narrow : (limit : ℕ) (m : RobustModel) (told : ModelBounds) (text : List ℕ) → TellsBounds limit m told
    → AreBothWithin told ↔ IsNarrowModel limit m → text ≡ bounds_text told → TellsNarrow limit m text
told_narrow limit m told text h narrow is =
    let yes = is_some told.set.bound && is_some told.counterpart.bound in
    record {
      set_size = told.set.greatest;
      set_greatest = h.set.greatest;
      counterpart_size = told.counterpart.greatest;
      counterpart_greatest = h.counterpart.greatest;
      yes = yes;
      yes_is = ap₂ (λ (a b : Option ℕ). is_some a && is_some b) h.set.bound h.counterpart.bound;
      narrow = told_yes told limit m narrow;
      printed = is
          ∙ ap₂ (λ (front rest : List ℕ). front ++ (rest ++ narrow_line yes))
          (ap₂ (λ (rows : ℕ) (bound : Option ℕ). bound_line (codes "set") rows told.set.greatest bound) h.set.rows
          h.set.bound)
          (ap₂ (λ (rows : ℕ) (bound : Option ℕ). bound_line (codes "reform") rows told.counterpart.greatest bound)
          h.counterpart.rows
          h.counterpart.bound);
    }

-- the reply for a model whose forms and set rows these are
pub of_model : (m : RobustModel) (r : Result Reply Want) (forms : Forms) (set : SetForm) (limit : ℕ)
    → IsForms m forms → IsSetForm m set
    → IfOk r (λ reply. (k : RobustModel) → IsForms k forms → IsSetForm k set → RepliesNarrow limit k reply)
    → IfOk r (RepliesNarrow limit m)
of_model m (Err want) forms set limit f st h = tt
of_model m (Ok reply) forms set limit f st h = h m f st

-- the reply of the work is the answer of the command
pub narrow_answers : (limit : ℕ) (m : RobustModel) (wides : Count) (line : Line) (texts : Texts) (r : Result Reply Want)
    → line.verb ≡ Narrow
    → IfOk r (RepliesNarrow limit m) → IfOk r (AnswersWhole limit wides m line texts)
narrow_answers limit m wides line texts (Err want) e is = tt
narrow_answers limit m wides line texts (Ok reply) e is = λ call at came has.
    subst (λ (ended : Ended). Means call ended reply.text) (sym is.0)
    (narrowed (record {
      line = line;
      m = m;
      forms = has;
      is_narrow = e;
      told = subst (λ (l : ℕ). TellsNarrow l m reply.text) (sym at.limit_is) is.1;
    }))

-- ---- no other answer may come
pub narrow_decides : (call : Call) (known : Known call.source) (line : Line) (m : RobustModel)
    → HasForms call line m → line.verb ≡ Narrow
    → (ended : Ended) (text : List ℕ) → Means call ended text → (ended ≡ Printed)
    ⊎ ((ended ≡ ReadFault) ⊎ (ended ≡ Memory))
narrow_decides call known line m has is ended text means =
    first_of_two by (formed_origin call known line m has works.narrowing (ap work_of is) ended text means)
  where
    by : HasForms call line m × (ended ≡ Printed) → ended ≡ Printed
    by printed = printed.1

-- ---- `solve` and `prove` of a narrow model
module _ (limit : ℕ) (m : RobustModel) (narrow : IsNarrowModel limit m) where
  pub no_wide_answer : (ended : Ended) (spot : Spot) → IsSolveAnswer Dual limit m ended → ended ≡ TooWide spot → ⊥
  no_wide_answer ended spot h e =
      narrow_spot limit m spot narrow (subst (λ (x : Ended). IsSolveAnswer Dual limit m x) e h)

  pub shown_answer : (ended : Ended) → IsEmptyAnswer limit m ended → IsShownAnswer m ended
  shown_answer (EmptySet weights) h = h
  shown_answer (TooWide (Dictionary program.Set basis i)) h =
      absurd (narrow_spot limit m (Dictionary program.Set basis i) narrow h)
  shown_answer other h = h

-- a model with a scenario has a status
pub has_status : (m : RobustModel) → IsModel m → (u : List Fraction) → Admits m u → (status : Status)
    × (v : Fraction) × HasStatus m status v
has_status m model u admitted = by (some_status m model u admitted)
  where
    by : ((v : Fraction) × IsOptimal m v) ⊎ (IsInfeasible m ⊎ IsUnbounded m) → (status : Status)
        × (v : Fraction) × HasStatus m status v
    by (inl h) = (optimal, h.0, h.1)
    by (inr (inl h)) = (infeasible, of_int (pos 0), h)
    by (inr (inr h)) = (unbounded, of_int (pos 0), h)
