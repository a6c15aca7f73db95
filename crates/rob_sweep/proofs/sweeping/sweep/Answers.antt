use Rattle.std.proofs.Common.{◌+◌, ◌∷◌, [], map, drop, refl, ap, ◌∙◌, arith}
use Rattle.std.proofs.lemmas.List.{map-append}
use Rattle.rob_model.specs.View.{robust}
use Rattle.rob_reach.proofs.SweepLemmas.{sweep_grows_harder}
use Rattle.rob_sweep.proofs.SweepLemmas.{has_swept_more, names_of, next_at, none_left, stops_there, swept_of, written_of}
use Rattle.rob_sweep.specs.View.{answer_of}
use Rattle.rob_sweep.proofs.sweeping.sweep.Goals as goal

pub returns-in-Err-clause-cause : goal.returns-in-Err-clause-cause
returns-in-Err-clause-cause g c =
    let value = g.N.Exact.value in
    let m = robust value c.args.model.now in
    let all = map value c.args.limits.now in
    let l = c.loop-limit in
    let x = c.limit-item.result in
    let answers = map (answer_of value) l.answers in
    stops_there g.N.Exact.limit m c.args.n all (map value (drop (l.limit-index + 1) c.args.limits.now)) (value x)
    l.number (l.number + 1) answers
    c.in-Err.stop c.in_default.ensures.rule
    (next_at g.N.Exact.limit m c.args.n value c.args.limits.now l.limit-index x all l.number answers
    c.loop-limit-test.true c.limit-item.is l.invariant.answered)
    refl c.in-Err.ensures.cause

pub loop-limit-preserved : goal.loop-limit-preserved
loop-limit-preserved g c =
    let value = g.N.Exact.value in
    let m = robust value c.args.model.now in
    let all = map value c.args.limits.now in
    let l = c.loop-limit in
    let x = c.limit-item.result in
    let answers = map (answer_of value) l.answers in
    record {
      answered = has_swept_more g.N.Exact.limit m c.args.n all (map value (drop (l.limit-index + 1) c.args.limits.now))
          (value x) l.number (l.number + 1) answers
          (map (answer_of value) c.push.new.self) (answer_of value c.in-Ok.next)
          (next_at g.N.Exact.limit m c.args.n value c.args.limits.now l.limit-index x all l.number answers
          c.loop-limit-test.true c.limit-item.is
          l.invariant.answered)
          refl (ap (map (answer_of value)) c.in_ok-push-in-Ok.ensures.appended
          ∙ map-append (answer_of value) l.answers (c.in-Ok.next ∷ []))
          c.in-Ok.ensures.written c.in-Ok.ensures.answers c.in-Ok.ensures.empty;
      counted = record {
        ops = omega (arith, l.invariant.counted.ops, c.at_limit.ensures.counted.never_fell.ops);
        wides = omega (arith, l.invariant.counted.wides, c.at_limit.ensures.counted.never_fell.wides);
      };
      number = omega (arith, l.invariant.number);
    }

pub returns-clause-written : goal.returns-clause-written
returns-clause-written g c =
    let value = g.N.Exact.value in
    let m = robust value c.args.model.now in
    let all = map value c.args.limits.now in
    let l = c.loop-limit in
    let answers = map (answer_of value) l.answers in
    written_of g.N.Exact.limit m c.args.n all answers
    (none_left g.N.Exact.limit m c.args.n value c.args.limits.now l.limit-index all l.number answers
    c.loop-limit-test.false l.invariant.answered)

pub returns-clause-swept : goal.returns-clause-swept
returns-clause-swept g c =
    let value = g.N.Exact.value in
    let m = robust value c.args.model.now in
    let all = map value c.args.limits.now in
    let l = c.loop-limit in
    let answers = map (answer_of value) l.answers in
    swept_of g.N.Exact.limit m c.args.n all answers
    (none_left g.N.Exact.limit m c.args.n value c.args.limits.now l.limit-index all l.number answers
    c.loop-limit-test.false l.invariant.answered)

pub returns-clause-empty : goal.returns-clause-empty
returns-clause-empty g c =
    let value = g.N.Exact.value in
    let m = robust value c.args.model.now in
    let all = map value c.args.limits.now in
    let l = c.loop-limit in
    let answers = map (answer_of value) l.answers in
    names_of g.N.Exact.limit m c.args.n all answers
    (none_left g.N.Exact.limit m c.args.n value c.args.limits.now l.limit-index all l.number answers
    c.loop-limit-test.false l.invariant.answered)

pub returns-clause-harder : goal.returns-clause-harder
returns-clause-harder g c =
    let value = g.N.Exact.value in
    let m = robust value c.args.model.now in
    let all = map value c.args.limits.now in
    let l = c.loop-limit in
    let answers = map (answer_of value) l.answers in
    sweep_grows_harder m c.args.n all answers c.in_default.ensures.rule.rises
    (swept_of g.N.Exact.limit m c.args.n all answers
    (none_left g.N.Exact.limit m c.args.n value c.args.limits.now l.limit-index all l.number answers
    c.loop-limit-test.false l.invariant.answered))
