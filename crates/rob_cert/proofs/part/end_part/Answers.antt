use Rattle.std.proofs.Common.{◌≡◌, true, false, refl}
use Rattle.rob_cert.specs.declared.error.Offence.TheVariants.{NoLine}
use Rattle.rob_cert.specs.NamesView.{naming}
use Rattle.rob_cert.specs.View.{status_of}
use Rattle.rob_cert.proofs.Readers.EndLemmas.{end_missing, end_followed, end_reads, no_end, end_line_is, whole_end}
use Rattle.rob_cert.proofs.Readers.EntryLemmas.{no_line}
use Rattle.std.specs.Prelude.{codes}
use Rattle.rob_cert.proofs.part.end_part.Goals as goal

pub returns-in-None-clause-fault : goal.returns-in-None-clause-fault
returns-in-None-clause-fault c limit text lines so = (
  NoLine,
  c.rule.ensures.rule,
  end_missing (naming c.args.names.now) limit (status_of c.args.status) text lines c.args.at.rest.now
      c.args.at.line so (λ after b. no_line c.args.at.rest.now (codes "end") after c.in-None.ensures.cut b),
)

pub returns-then-not-is_end-clause-fault : goal.returns-then-not-is_end-clause-fault
returns-then-not-is_end-clause-fault c limit text lines so =
    let cut = c.in-Some.ensures.cut in (
      NoLine,
      c.rule-then-not-is_end.ensures.rule,
      end_missing (naming c.args.names.now) limit (status_of c.args.status) text lines
          c.args.at.rest.now c.args.at.line so
          (no_end c.args.at.rest.now c.in-Some.split.front.now c.in-Some.split.back.now cut.0 cut.1
          (λ e. let t : false ≡ true = c.if-not-is_end.ensures.end.1 e in cc)),
    )

pub returns-then-is_nothing-clause-read : goal.returns-then-is_nothing-clause-read
returns-then-is_nothing-clause-read c limit text lines so =
    end_reads (naming c.args.names.now) limit (status_of c.args.status) text lines c.args.at.rest.now c.args.at.line so
    (whole_end c.args.at.rest.now c.in-Some.split.front.now c.in-Some.split.back.now c.in-Some.ensures.cut.0
    (c.if-not-is_end.ensures.end.0 refl) (c.if-is_nothing.ensures.nothing.0 refl))

pub returns-else-is_nothing-clause-fault : goal.returns-else-is_nothing-clause-fault
returns-else-is_nothing-clause-fault c limit text lines so =
    let cut = c.in-Some.ensures.cut in (
      NoLine,
      c.rule-else-is_nothing.ensures.rule,
      end_followed (naming c.args.names.now) limit (status_of c.args.status) text lines c.args.at.rest.now
          c.args.at.line so c.in-Some.split.back.now
          (end_line_is c.args.at.rest.now c.in-Some.split.front.now c.in-Some.split.back.now cut.0 cut.1
          (c.if-not-is_end.ensures.end.0 refl)) (λ e. let t : false ≡ true =
          c.if-is_nothing.ensures.nothing.1 e in cc),
    )
