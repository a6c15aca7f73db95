use Rattle.std.proofs.Common.{◌+◌, ◌∷◌, arith, map, ap, sym, subst, ◌∙◌}
use Rattle.rob_number.proofs.CountLemmas.{later}
use Rattle.rob_cert.specs.NamesView.{naming}
use Rattle.rob_cert.proofs.Readers.CauseLemmas.{entries_fault}
use Rattle.rob_cert.proofs.Readers.SectionLemmas.{shorter, EntriesSoFar, entries_start, entries_more, map-set}
use Rattle.rob_cert.proofs.entries.read_entries.Goals as goal

pub loop-split-init : goal.loop-split-init
loop-split-init g c =
    let z = c.in_ok-numbers.ensures.zeros in
    record {
      so = entries_start (naming c.args.names.now) g.N.Exact.limit c.args.vector c.args.at.rest.now c.args.at.line
          c.args.count (map g.N.Exact.value c.in_ok-numbers.numbers.items) z.size z.zero_at;
      small = omega arith;
      counted = c.in_ok-numbers.ensures.counted;
    }

pub returns-in-Err-clause-fault : goal.returns-in-Err-clause-fault
returns-in-Err-clause-fault g c s form stage h = (
  c.in-Err.offence,
  c.rule.ensures.rule,
  entries_fault (naming c.args.names.now) g.N.Exact.limit c.args.vector c.args.at.rest.now c.args.at.line c.args.count
      (map g.N.Exact.value c.loop-split.numbers.items) c.loop-split.least
      c.loop-split.rest.now c.loop-split.line c.in-Some.split.front.now c.in-Some.split.back.now
      c.in-Some.ensures.found.1.0 c.in-Err.offence c.loop-split.invariant.so c.in-Some.ensures.found.0
      (c.in-Some.ensures.found.1.1 ∙ ap (λ w. w ∷ c.in-Some.ensures.found.1.0) c.word.ensures.word)
      c.in-Err.ensures.entry s form stage h,
)

pub loop-split-preserved : goal.loop-split-preserved
loop-split-preserved g c =
    let value = g.N.Exact.value in
    let begins = c.in-Some.ensures.found.0 in
    record {
      so = subst (λ qs. EntriesSoFar (naming c.args.names.now) g.N.Exact.limit c.args.vector c.args.at.rest.now
          c.args.at.line c.args.count qs (c.in-Ok.entry.place + 1) c.in-Some.split.back.now (c.loop-split.line + 1))
          (sym (map-set value c.loop-split.numbers.items c.in-Ok.entry.place c.in-Ok.entry.number))
          (entries_more (naming c.args.names.now) g.N.Exact.limit c.args.vector c.args.at.rest.now c.args.at.line
          c.args.count (map value c.loop-split.numbers.items) c.loop-split.least
          c.loop-split.rest.now c.loop-split.line c.in-Some.split.front.now c.in-Some.split.back.now c.in-Ok.entry.place
          (value c.in-Ok.entry.number)
          c.loop-split.invariant.so c.requires.count begins c.in-Ok.ensures.entry
          (g.met.N.Exact.fits c.in-Ok.entry.number));
      small = omega (
        arith,
        c.loop-split.invariant.small,
        shorter c.loop-split.rest.now c.in-Some.split.front.now c.in-Some.split.back.now begins,
      );
      counted = later c.loop-split.invariant.counted c.in-Ok.ensures.counted;
    }
