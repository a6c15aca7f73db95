use Rattle.std.proofs.Common.{ap, map, string_bytes, sym, ◌∙◌}
use Rattle.rob_dualize.proofs.SizeLemmas.{few_within_limits}
use Rattle.rob_model.specs.View.{robust}
use Rattle.rob_top.proofs.Meaning.CheckingLemmas.{file_answers}
use Rattle.rob_top.proofs.Meaning.SearchingLemmas.{search_answers}
use Rattle.rob_top.proofs.Coming.NarrowAnswerLemmas.{narrow_answers, of_model}
use Rattle.rob_top.proofs.Meaning.WorkLemmas.{at_verb, rows_answer}
use Rattle.rob_words.specs.declared.verb.Verb.TheVariants.{Prove, Solve}
use Rattle.rob_top.proofs.work.on_forms.Goals as goal
use Rattle.rob_words.specs.Answers.{line_of}

pub returns-in-Rows-clause-answers : goal.returns-in-Rows-clause-answers
returns-in-Rows-clause-answers g c =
    rows_answer g.N.Exact.limit (robust g.N.Exact.value c.args.model.now) _ (line_of c.args.line.now) c.args.texts.now
    c.rows.result c.in-Rows.is c.rows.ensures.rows

pub returns-in-Solve-clause-answers : goal.returns-in-Solve-clause-answers
returns-in-Solve-clause-answers g c =
    at_verb g.N.Exact.limit (robust g.N.Exact.value c.args.model.now) _ (line_of c.args.line.now) Solve c.args.texts.now
    c.solve.result c.in-Solve.is c.solve.ensures.answers

pub returns-in-Prove-clause-answers : goal.returns-in-Prove-clause-answers
returns-in-Prove-clause-answers g c =
    at_verb g.N.Exact.limit (robust g.N.Exact.value c.args.model.now) _ (line_of c.args.line.now) Prove c.args.texts.now
    c.prove.result c.in-Prove.is c.prove.ensures.answers

pub returns-in-Check-clause-answers : goal.returns-in-Check-clause-answers
returns-in-Check-clause-answers g c =
    file_answers g.N.Exact.limit (robust g.N.Exact.value c.args.model.now) _ (line_of c.args.line.now) c.args.texts.now
    c.as_slice-text.result.now c.check_text.result c.in-Check.is
    c.as_slice-text.ensures.value c.check_text.ensures.answers

pub returns-in-Worst-clause-answers : goal.returns-in-Worst-clause-answers
returns-in-Worst-clause-answers g c =
    search_answers g.N.Exact.limit (robust g.N.Exact.value c.args.model.now) _ (line_of c.args.line.now)
    c.args.texts.now c.as_slice-text-in-Worst.result.now
    (map string_bytes c.as_slice.result.now) c.as_bytes.result.now c.search_text.result c.in-Worst.is
    c.as_slice-text-in-Worst.ensures.value
    (sym (ap (map string_bytes) c.as_slice.ensures.value))
    (λ word told. c.as_bytes.ensures.value ∙ c.own_word-name.ensures.word word told)
    c.search_text.ensures.answers

pub narrow-requires : goal.narrow-requires
narrow-requires g c =
    let m = robust g.N.Exact.value c.args.model.now in
    record {
      model = record {
        model = m;
        elaborated = c.requires.elaborated;
      };
      few = few_within_limits m c.args.elaborated.forms.now c.args.elaborated.set.now c.requires.valid.limits
          c.requires.elaborated.are_forms c.requires.elaborated.is_set;
    }

pub returns-in-Narrow-clause-answers : goal.returns-in-Narrow-clause-answers
returns-in-Narrow-clause-answers g c =
    let m = robust g.N.Exact.value c.args.model.now in
    narrow_answers g.N.Exact.limit m _ (line_of c.args.line.now) c.args.texts.now c.narrow.result c.in-Narrow.is
    (of_model m c.narrow.result c.args.elaborated.forms.now c.args.elaborated.set.now g.N.Exact.limit
    c.requires.elaborated.are_forms c.requires.elaborated.is_set c.narrow.ensures.narrow)
