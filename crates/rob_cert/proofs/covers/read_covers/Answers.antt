use Rattle.std.proofs.Common.{◌+◌, ◌∷◌, [], arith, map, ap, sym, subst, ◌∙◌}
use Rattle.std.proofs.lemmas.List.{map-append}
use Rattle.rob_number.proofs.CountLemmas.{later}
use Rattle.rob_cert.specs.NamesView.{naming}
use Rattle.rob_cert.specs.ReaderLines.{HasNoLineOf}
use Rattle.rob_cert.specs.View.{cover_of}
use Rattle.rob_cert.proofs.Readers.CoverLemmas.{CoversSoFar, covers_more, covers_fault}
use Rattle.rob_cert.proofs.Readers.SectionLemmas.{shorter}
use Rattle.rob_cert.proofs.covers.read_covers.Goals as goal

pub returns-in-Err-clause-fault : goal.returns-in-Err-clause-fault
returns-in-Err-clause-fault g c s stage h = (
  c.in-Err.offence,
  c.rule.ensures.rule,
  covers_fault (naming c.args.names.now) g.N.Exact.limit c.args.which c.args.at.rest.now c.args.at.line
      (map (cover_of g.N.Exact.value) c.loop-split.list) c.loop-split.form c.loop-split.place
      c.loop-split.rest.now c.loop-split.line c.in-Some.split.front.now c.in-Some.split.back.now
      c.in-Some.ensures.found.1.0 c.in-Err.offence c.loop-split.invariant.so c.in-Some.ensures.found.0
      (c.in-Some.ensures.found.1.1 ∙ ap (λ w. w ∷ c.in-Some.ensures.found.1.0) c.word.ensures.word)
      c.in-Err.ensures.cover s stage h,
)

pub loop-split-preserved : goal.loop-split-preserved
loop-split-preserved g c =
    let value = g.N.Exact.value in
    let begins = c.in-Some.ensures.found.0 in
    let new = cover_of value c.in-Ok.cover in
    record {
      so = subst (λ cs. CoversSoFar (naming c.args.names.now) g.N.Exact.limit c.args.which c.args.at.rest.now
          c.args.at.line cs c.in-Ok.cover.form (c.in-Ok.cover.set_row + 1) c.in-Some.split.back.now
          (c.loop-split.line + 1))
          (sym (ap (map (cover_of value)) c.in_ok-push-in-Ok.ensures.appended
          ∙ map-append (cover_of value) c.loop-split.list (c.in-Ok.cover ∷ [])))
          (covers_more (naming c.args.names.now) g.N.Exact.limit c.args.which c.args.at.rest.now c.args.at.line
          (map (cover_of value) c.loop-split.list) c.loop-split.form c.loop-split.place
          c.loop-split.rest.now c.loop-split.line c.in-Some.split.front.now c.in-Some.split.back.now new
          c.loop-split.invariant.so begins c.in-Ok.ensures.cover (g.met.N.Exact.fits c.in-Ok.cover.amount));
      small = omega (
        arith,
        c.loop-split.invariant.small,
        shorter c.loop-split.rest.now c.in-Some.split.front.now c.in-Some.split.back.now begins,
      );
      counted = later c.loop-split.invariant.counted c.in-Ok.ensures.counted;
    }

pub returns-clause-read : goal.returns-clause-read
returns-clause-read g c =
    let so = c.loop-split.invariant.so in
    record {
      section = so.section;
      each = so.each;
      ordered = so.ordered;
      form = c.loop-split.form;
      place = c.loop-split.place;
      leads = so.leads;
      stopped = subst (λ w. HasNoLineOf w c.loop-split.rest.now) c.word.ensures.word c.in_default.ensures.found;
    }
