-- The answers of `sweep` and `sweeptext`, from what the words tell and what the sweep answers.
use Rattle.std.proofs.Common.{◌≡◌, ◌≤◌, ℕ, ◌-◌, suc, true, List, [], ◌∷◌, length, map, Some, Result, Ok, Err, IfOk, inl, inr, refl, subst, sym, ap, ◌∙◌}
use Rattle.std.proofs.lemmas.List.{length-map}
use Rattle.rob_algebra.specs.Fraction.{Fraction}
use Rattle.rob_algebra.specs.Width.{Fits}
use Rattle.rob_meaning.specs.Places.{Each}
use Rattle.rob_meaning.specs.RobustModel.{RobustModel}
use Rattle.rob_number.specs.declared.memory.Memory.{Memory as Want}
use Rattle.rob_reach.specs.Sweeps.{SweepAnswer, Swept}
use Rattle.rob_sweep.specs.Answering.{AreWritten, EachAnswer, EachGrowsHarder, NamesEmpty}
use Rattle.rob_sweep.specs.Stops.{CountsSweepStop, HasCause, IsWideAtLimit, KeepsRules}
use Rattle.rob_sweep.specs.SweepText.{sweep_text}
use Rattle.rob_sweep.specs.View.{answer_of}
use Rattle.rob_sweep.specs.declared.answer.SweepAnswer as answer
use Rattle.rob_sweep.specs.declared.answer.SweepAnswer.TheVariants.{Optimal, Infeasible, Unbounded, Empty}
use Rattle.rob_sweep.specs.declared.answer.SweepStop.{SweepStop}
use Rattle.rob_sweep.specs.declared.answer.SweepStop.TheVariants as unswept
use Rattle.rob_commands.specs.Answers.{wide_budget_text, words_text}
use Rattle.rob_top.specs.Calls.{Call, Count, count, limit_of}
use Rattle.rob_top.specs.Files.{word_of}
use Rattle.rob_top.specs.Headline.{Means}
use Rattle.rob_top.specs.Inputs.{HasModel}
use Rattle.rob_commands.specs.Replies.{Replies}
use Rattle.rob_top.specs.Swept.{HasLimit, ValueFits, at_limit, at_limits, limit_value}
use Rattle.rob_top.specs.Work.{AnswersModel, AnswersSweep, AnswersWords, IsCallAt}
use Rattle.rob_commands.specs.Stops.{RepliesLimit, RepliesUnswept}
use Rattle.rob_top.specs.Ways.{priced, limited}
use Rattle.rob_commands.specs.declared.ended.Ended.{Ended}
use Rattle.rob_commands.specs.declared.ended.Ended.TheVariants.{Printed, WideBudget, Words}
use Rattle.rob_top.specs.declared.files.Texts.{Texts}
use Rattle.rob_commands.specs.declared.reply.Reply.{Reply}
use Rattle.rob_top.proofs.Fetching.OwnLemmas.{has_kind, own_of_kind, own_told}
use Rattle.rob_number.proofs.CountLemmas.{rose_later}
use Rattle.rob_top.proofs.Meaning.WorkLemmas.{call_within}
use Rattle.rob_words.specs.Commands.{Line}
use Rattle.rob_words.specs.Kinds.{IsOfKind, number_of}
use Rattle.rob_words.specs.Names.{parts_of}
use Rattle.rob_words.specs.Values.{Word}
use Rattle.rob_words.specs.Verbs.{own_of}
use Rattle.rob_words.specs.declared.verb.Own.{Own}
use Rattle.rob_words.specs.declared.verb.Own.TheVariants as own
use Rattle.rob_words.specs.declared.verb.Verb.{Verb}
use Rattle.rob_words.specs.declared.verb.Verb.TheVariants as verbs

-- ---- the command's own words are the line's
module _ (limit : ℕ) (wides : Count) (m : RobustModel) (verb : Verb) (kind : Own)
    (there : has_kind kind (own_of verb) ≡ true) (words : List Word) (word : Word)
    (told : (other : Word) → word_of kind (own_of verb) words ≡ Some other → word ≡ other) where
  pub word_told : (call : Call) (line : Line) → IsCallAt limit wides verb call line → HasModel call line m
      → line.own ≡ words → word_of kind (own_of line.verb) line.own ≡ Some word
  word_told call line at has own_is =
      own_told call line verb kind words word at.verb_is has.spelled
      (ap (λ (v : Verb). has_kind kind (own_of v)) at.verb_is ∙ there) own_is told

  -- words of which one isn't of its kind are those of no call
  pub no_line_answers : (r : Result Reply Want) → (IsOfKind limit kind word → ⊥) → IfOk r (Replies Words words_text)
      → IfOk r (AnswersWords limit wides m verb words)
  no_line_answers (Err want) none is = tt
  no_line_answers (Ok reply) none is = λ call line at given.
      absurd (none (own_of_kind limit call line kind word given.0.spelled at.limit_is
      (word_told call line at given.0 given.1)))

-- as many answers as limits
swept_count : (m : RobustModel) (n : ℕ) (gs : List Fraction) (answers : List SweepAnswer) → Swept m n gs answers
    → length answers ≡ length gs
swept_count m n [] [] h = refl
swept_count m n [] (a ∷ answers) h = absurd h
swept_count m n (g ∷ gs) [] h = absurd h
swept_count m n (g ∷ gs) (a ∷ answers) h = ap suc (swept_count m n gs answers h.1)

pub answers_count : {X Y : Type 0} (value : X → Fraction) (view : Y → SweepAnswer)
    (m : RobustModel) (n : ℕ) (xs : List X)
    (ys zs : List Y) → zs ≡ ys → Swept m n (map value xs) (map view ys) → length zs ≡ length xs
answers_count value view m n xs ys zs same h =
    ap (λ list. length list) same
    ∙ (sym (length-map ys view) ∙ (swept_count m n (map value xs) (map view ys) h ∙ length-map xs value))

-- the values of numbers fit
pub answers_fit : {N : Type 0} (value : N → Fraction) (limit : ℕ) → ((x : N) → Fits limit (value x))
    → (answers : List (answer.SweepAnswer N))
    → Each (ValueFits limit) (map (answer_of value) answers)
answers_fit value limit fits [] = tt
answers_fit value limit fits (Optimal v ∷ answers) = (fits v, answers_fit value limit fits answers)
answers_fit value limit fits (Infeasible ∷ answers) = (tt, answers_fit value limit fits answers)
answers_fit value limit fits (Unbounded ∷ answers) = (tt, answers_fit value limit fits answers)
answers_fit value limit fits (Empty ∷ answers) = (tt, answers_fit value limit fits answers)

-- ---- `sweep`
module _ (limit : ℕ) (m : RobustModel) where
  -- the words tell the statement and the limits
  pub sweep_told : (before middle now : ℕ) (words : List Word) (number behind : Word) (n : ℕ)
      (gs : List Fraction) (r : Result Reply Want)
      → ((other : Word) → word_of own.Statement (own_of verbs.Sweep) words ≡ Some other → number ≡ other)
      → ((other : Word) → word_of own.Limits (own_of verbs.Sweep) words ≡ Some other → behind ≡ other)
      → n ≡ number_of number → gs ≡ map limit_value (parts_of behind)
      → before ≤ middle → IfOk r (AnswersSweep limit (count middle now) m n gs)
      → IfOk r (AnswersWords limit (count before now) m verbs.Sweep words)
  sweep_told before middle now words number behind n gs (Err want) first second n_is gs_are least h = tt
  sweep_told before middle now words number behind n gs (Ok reply) first second n_is gs_are least h =
      λ call line at given.
      h call line
      (call_within limit (count middle now) (count before now) verbs.Sweep call line
      (rose_later before middle now least) at)
      (record {
        model = given.0;
        is_sweep = at.verb_is;
        statement =
            record {
              word = number;
              told = word_told limit (count before now) m verbs.Sweep own.Statement refl words number first call line
                  at given.0 given.1;
              spells = n_is;
            };
        limits_are =
            record {
              word = behind;
              told = word_told limit (count before now) m verbs.Sweep own.Limits refl words behind second call line
                  at given.0 given.1;
              parts = gs_are;
            };
      })

  -- the answers are printed
  pub priced_answers : (wides : Count) (n : ℕ) (gs : List Fraction) (answers : List SweepAnswer) (r : Result Reply Want)
      → KeepsRules m.set_lines n gs → AreWritten limit m n gs → Swept m n gs answers
      → EachAnswer NamesEmpty m n gs answers
      → EachGrowsHarder m.sense answers → Each (ValueFits limit) answers
      → IfOk r (Replies Printed (sweep_text gs answers)) → IfOk r (AnswersSweep limit wides m n gs)
  priced_answers wides n gs answers (Err want) keeps written each empty harder fit is = tt
  priced_answers wides n gs answers (Ok reply) keeps written each empty harder fit is = λ call line at has.
      subst (λ (ended : Ended). Means call ended reply.text) (sym is.0)
      (priced (record {
        line = line;
        m = m;
        n = n;
        limits = gs;
        has = has;
        keeps = keeps;
        written = subst (λ (l : ℕ). AreWritten l m n gs) (sym at.limit_is) written;
        answers = answers;
        swept = each;
        empty = empty;
        harder = harder;
        fits = subst (λ (l : ℕ). Each (ValueFits l) answers) (sym at.limit_is) fit;
        printed = is.1;
      }))

  -- the sweep stopped
  stop_answers : (before now n : ℕ) (gs : List Fraction) (s : SweepStop) (reply : Reply) → HasCause limit m n gs s
      → CountsSweepStop before now s
      → RepliesUnswept limit m n gs s reply → AnswersSweep limit (count before now) m n gs reply
  stop_answers before now n gs (unswept.Rule rule) reply cause counted is = λ call line at has.
      subst (λ (ended : Ended). Means call ended reply.text) (sym is.0)
      (record { line = line; m = m; breaks = at_limits n gs has cause; printed = is.1 })
  stop_answers before now n gs (unswept.Wide number spot) reply cause counted is = λ call line at has.
      let wide : IsWideAtLimit (limit_of line) m n gs number spot =
      subst (λ (l : ℕ). IsWideAtLimit l m n gs number spot) (sym at.limit_is) cause.1
      in
      let says : Replies (WideBudget number spot) (wide_budget_text m n wide.here spot) reply =
      subst (λ (l : ℕ). (h : IsWideAtLimit l m n gs number spot)
      → Replies (WideBudget number spot) (wide_budget_text m n h.here spot) reply)
      (sym at.limit_is) is wide
      in
      subst (λ (ended : Ended). Means call ended reply.text) (sym says.0)
      (record {
        line = line;
        m = m;
        n = n;
        limits = gs;
        has = has;
        keeps = cause.0;
        wide = wide;
        raised = at.raised counted;
        printed = says.1;
      })
  stop_answers before now n gs unswept.Memory reply cause counted is = absurd is

  pub unswept_answers : (before now n : ℕ) (gs : List Fraction) (s : SweepStop) (r : Result Reply Want)
      → HasCause limit m n gs s
      → CountsSweepStop before now s → IfOk r (RepliesUnswept limit m n gs s)
      → IfOk r (AnswersSweep limit (count before now) m n gs)
  unswept_answers before now n gs s (Err want) cause counted is = tt
  unswept_answers before now n gs s (Ok reply) cause counted is = stop_answers before now n gs s reply cause counted is

  -- ---- `sweeptext`
  pub limit_told : (before now : ℕ) (words : List Word) (number behind : Word) (n : ℕ)
      (g : Fraction) (r : Result Reply Want)
      → ((other : Word) → word_of own.Statement (own_of verbs.SweepText) words ≡ Some other → number ≡ other)
      → ((other : Word) → word_of own.Limit (own_of verbs.SweepText) words ≡ Some other → behind ≡ other)
      → n ≡ number_of number → g ≡ limit_value behind
      → IfOk r (RepliesLimit m n g) → IfOk r (AnswersWords limit (count before now) m verbs.SweepText words)
  limit_told before now words number behind n g (Err want) first second n_is g_is h = tt
  limit_told before now words number behind n g (Ok reply) first second n_is g_is h = λ call line at given.
      by call line
      (record {
        model = given.0;
        is_text = at.verb_is;
        statement =
            record {
              word = number;
              told = word_told limit (count before now) m verbs.SweepText own.Statement refl words number first call
                  line at given.0 given.1;
              spells = n_is;
            };
        limit_is =
            record {
              word = behind;
              told = word_told limit (count before now) m verbs.SweepText own.Limit refl words behind second call line
                  at given.0 given.1;
              spells = g_is;
            };
      })
      h
    where
      by : (call : Call) (line : Line) → HasLimit call line m n g → RepliesLimit m n g reply
          → Means call reply.ended reply.text
      by call line has (inl is) =
          subst (λ (ended : Ended). Means call ended reply.text) (sym is.1.0)
          (limited (record { line = line; m = m; n = n; g = g; has = has; budget = is.0; printed = is.1.1 }))
      by call line has (inr is) =
          subst (λ (ended : Ended). Means call ended reply.text) (sym is.1.0)
          (record { line = line; m = m; breaks = at_limit n g has is.0 refl; printed = is.1.1 })

-- ---- the command's own words are the line's
module _ (limit : ℕ) (m : RobustModel) where
  pub words_answer : (wides : Count) (line : Line) (texts : Texts) (words : List Word) (r : Result Reply Want)
      → line.own ≡ words → IfOk r (AnswersWords limit wides m line.verb words)
      → IfOk r (AnswersModel limit wides m line texts)
  words_answer wides line texts words (Err want) same h = tt
  words_answer wides line texts words (Ok reply) same h = λ call at came has. h call line at (has, same)

  pub words_answer_at : (wides : Count) (line : Line) (verb : Verb) (texts : Texts) (words : List Word)
      (r : Result Reply Want) → line.verb ≡ verb
      → line.own ≡ words → IfOk r (AnswersWords limit wides m verb words)
      → IfOk r (AnswersModel limit wides m line texts)
  words_answer_at wides line verb texts words r e same h =
      words_answer wides line texts words r same
      (subst (λ (v : Verb). IfOk r (AnswersWords limit wides m v words)) (sym e) h)
