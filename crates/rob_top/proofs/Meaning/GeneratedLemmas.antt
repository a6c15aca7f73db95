-- The answers of `text` and `gen`: what comes, and that no other may come.
use Rattle.std.proofs.Common.{◌≡◌, ℕ, List, Result, Ok, Err, IfOk, false, ap, inl, inr, ◌⊎◌, sym, subst}
use Rattle.rob_number.specs.declared.memory.Memory.{Memory as Want}
use Rattle.rob_top.proofs.Origins.CommandLemmas.{two_verbs}
use Rattle.rob_top.proofs.Origins.NumberOriginLemmas.{NumberOrigin, compares, number_origin_at, writes_model}
use Rattle.rob_top.proofs.Origins.ProgressLemmas.{Progress, absent, answers_number, broken, failed, number_here, number_names_none, number_none_absent, over, read, progress_of, wanting, wordless}
use Rattle.rob_top.specs.Calls.{Call, Count, Known}
use Rattle.rob_top.specs.Commands.{reads_model}
use Rattle.rob_top.specs.ComparedWork.{AnswersNumber}
use Rattle.rob_top.specs.Headline.{Means}
use Rattle.rob_top.specs.Ways.{generated}
use Rattle.rob_top.specs.Work.{RepliesGenerated}
use Rattle.rob_commands.specs.declared.ended.Ended.{Ended}
use Rattle.rob_commands.specs.declared.ended.Ended.TheVariants.{Printed, Memory}
use Rattle.rob_commands.specs.declared.reply.Reply.{Reply}
use Rattle.rob_words.proofs.Spellings.{one_line}
use Rattle.rob_words.specs.Commands.{Line, IsSpelled}
use Rattle.rob_words.specs.declared.verb.Verb.TheVariants.{Gen, Text}

-- ---- the answer of `text`
pub generated_answers : (line : Line) (wides : Count) (r : Result Reply Want) → line.verb ≡ Text
    → IfOk r (RepliesGenerated line)
    → IfOk r (AnswersNumber line wides)
generated_answers line wides (Err want) is h = tt
generated_answers line wides (Ok reply) is h = λ call spelled wides_is.
    subst (λ (ended : Ended). Means call ended reply.text) (sym h.2.0)
    (generated (record {
      line = line;
      spelled = spelled;
      is_text = is;
      number = h.0;
      told = h.1;
      printed = h.2.1;
    }))

-- ---- no other may come
module _ (call : Call) (known : Known call.source) (line : Line) (spelled : IsSpelled call.words line) where
  pub number_decides : reads_model line.verb ≡ false → (ended : Ended) (text : List ℕ) → Means call ended text
      → NumberOrigin call line ended ⊎ (ended ≡ Memory)
  number_decides none ended text means = by (progress_of call ended text means)
    where
      by : Progress call ended → NumberOrigin call line ended ⊎ (ended ≡ Memory)
      by (wordless unspelled) = absurd (unspelled (line, spelled))
      by (absent name h e) =
          absurd (number_none_absent call known h.line h.spelled line spelled none h.before h.request h.behind h.order)
      by (over name h e) =
          absurd (number_none_absent call known h.line h.spelled line spelled none h.before h.request h.behind h.order)
      by (broken rule number t h e) = absurd (number_here call known h.line h.spelled line spelled none h.bytes h.file)
      by (read l m h origin) = absurd (number_here call known l h.spelled line spelled none h.bytes h.file)
      by (answers_number l sp reads_none origin) =
          inl (number_origin_at call l line ended (one_line call.words l line sp spelled) origin)
      by (failed names e) = absurd (number_names_none call known line spelled line spelled none names)
      by (wanting e) = inr e

  pub generated_decides : line.verb ≡ Text → (ended : Ended) (text : List ℕ) → Means call ended text
      → (ended ≡ Printed) ⊎ (ended ≡ Memory)
  generated_decides is_text ended text means = by (number_decides (ap reads_model is_text) ended text means)
    where
      by : NumberOrigin call line ended ⊎ (ended ≡ Memory) → (ended ≡ Printed) ⊎ (ended ≡ Memory)
      by (inl (writes_model is e)) = inl e
      by (inl (compares number asks answer)) = absurd (two_verbs Text Gen line.verb (λ e. cc) is_text asks.is_gen)
      by (inr e) = inr e
