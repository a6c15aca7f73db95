-- What a call answers, from what came of its files and what the work on them answers.
use Rattle.std.proofs.Common.{◌≡◌, Result, Ok, Err, IfOk, subst, sym}
use Rattle.rob_meaning.specs.Places.{Each}
use Rattle.rob_number.specs.declared.memory.Memory.{Memory as Want}
use Rattle.rob_outside.specs.Files.{whole}
use Rattle.rob_top.specs.Calls.{Call, Count, Source, WasRaised}
use Rattle.rob_top.specs.Files.{IsFoundIn, requests}
use Rattle.rob_top.specs.ComparedWork.{AnswersNumber}
use Rattle.rob_top.specs.Headline.{Means}
use Rattle.rob_top.specs.Replies.{AreFound, CameIn, HasTexts, IsAbsence, IsAbsentAmong, IsFetched, IsLine, text_of}
use Rattle.rob_top.specs.declared.files.Files.{Files}
use Rattle.rob_top.specs.declared.files.Files.TheVariants as fetch
use Rattle.rob_top.specs.declared.files.Texts.{Texts}
use Rattle.rob_commands.specs.declared.reply.Reply.{Reply}
use Rattle.rob_top.proofs.Fetching.FilesLemmas.{means_absent}
use Rattle.rob_words.specs.Answers.{line_of}
use Rattle.rob_words.specs.Commands.{Line}
use Rattle.rob_words.specs.Verbs.{own_of}
use Rattle.rob_words.specs.declared.line.CommandLine.{CommandLine}

module _ (line : CommandLine) (source : Source) (faults wides : Count) where
  -- the reply answers each call of the line
  abbrev pub AnswersLine : Reply → Type 0
  AnswersLine reply =
      (call : Call) → IsLine call line → call.source ≡ source → call.read_faults ≡ faults → call.wides ≡ wides
      → Means call reply.ended reply.text

  -- what came of the files of the line
  abbrev LineFetched : Files → Type 0
  LineFetched files = IsFetched (own_of line.verb) (line_of line).own source faults files

  -- the files came, and the work on them answers
  pub texts_answer : (files : Files) (texts : Texts) (r : Result Reply Want)
      → files ≡ fetch.Texts texts → LineFetched files
      → IfOk r (λ reply. (call : Call) → HasTexts call (line_of line) texts → call.wides ≡ wides
      → Means call reply.ended reply.text)
      → IfOk r AnswersLine
  texts_answer files texts (Err want) e came h = tt
  texts_answer files texts (Ok reply) e came h = λ call spelled source_is faults_is wides_is.
      let found : AreFound source (own_of line.verb) (line_of line).own texts =
      subst (λ (f : Files). LineFetched f) e came in
      h call
      (record {
        spelled = spelled;
        came = subst (λ (s : Source). Each (CameIn s) (requests (line_of line))) (sym source_is) found.came;
        found = λ kind r named.
            subst (λ (s : Source). IsFoundIn s r (whole (text_of kind texts))) (sym source_is)
            (found.found kind r named);
      })
      wides_is

  -- a file didn't come
  pub absence_answers : (files : Files) (reply : Reply) → files ≡ fetch.Answer reply
      → LineFetched files → AnswersLine reply
  absence_answers files reply e came = λ call spelled source_is faults_is wides_is.
      let h : IsAbsentAmong source (requests (line_of line)) faults reply.ended reply.text =
      subst (λ (f : Files). LineFetched f) e came in
      means_absent call (line_of line) h.before h.request h.behind faults reply.ended reply.text spelled h.order
      (subst (λ (s : Source). Each (CameIn s) h.before) (sym source_is) h.came)
      (λ r. subst (λ (c : Count). WasRaised c) (sym faults_is) r)
      (subst (λ (s : Source). IsAbsence s h.request faults reply.ended reply.text) (sym source_is) h.absent)

-- what a command's work on a number answers, it answers each call of the line
pub number_answers_line : (line : Line) (texts : Texts) (wides : Count) (r : Result Reply Want)
    → IfOk r (AnswersNumber line wides)
    → IfOk r (λ reply. (call : Call) → HasTexts call line texts → call.wides ≡ wides
    → Means call reply.ended reply.text)
number_answers_line line texts wides (Err want) h = tt
number_answers_line line texts wides (Ok reply) h = λ call came wides_is. h call came.spelled wides_is
