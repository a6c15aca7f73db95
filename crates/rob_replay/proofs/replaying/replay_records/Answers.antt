use Rattle.std.proofs.Common.{map, sym, ◌∙◌, arith}
use Rattle.std.proofs.lemmas.List.{map-append}
use Rattle.csv.specs.Records.{fields_of}
use Rattle.rob_model.specs.View.{plan_of, robust}
use Rattle.rob_replay.proofs.OutcomeLemmas.{records_end, records_next, records_refuse}
use Rattle.rob_replay.specs.View.{line_of}
use Rattle.rob_replay.proofs.replaying.replay_records.Goals as goal

pub overflow_add-i : goal.overflow_add-i
overflow_add-i g c = omega (arith, c.loop-i-test.true, c.requires.few)

pub returns-in-Err-clause-lines : goal.returns-in-Err-clause-lines
returns-in-Err-clause-lines g c =
    let value = g.N.Exact.value in
    records_refuse fields_of g.N.Exact.limit (robust value c.args.model.now) (plan_of value c.args.plan.now)
    c.args.places.now c.args.rows.now c.loop-i.i (map (line_of value) c.loop-i.lines) c.index-rows-i.result
    c.loop-i-test.true c.index-rows-i.is _ c.loop-i.invariant.rest c.in-Err.error c.in-Err.ensures.line

pub loop-i-preserved : goal.loop-i-preserved
loop-i-preserved g c =
    let value = g.N.Exact.value in
    record {
      rest = rw (c.in_ok-push-in-Ok.ensures.appended, map-append)
          (sym (records_next fields_of g.N.Exact.limit (robust value c.args.model.now) (plan_of value c.args.plan.now)
          c.args.places.now c.args.rows.now c.loop-i.i (map (line_of value) c.loop-i.lines) c.index-rows-i.result
          c.loop-i-test.true c.index-rows-i.is (line_of value c.in-Ok.line) c.in-Ok.ensures.line)
          ∙ c.loop-i.invariant.rest);
      ops = omega (arith, c.loop-i.invariant.ops, c.in-Ok.ensures.counted.ops);
      wides = omega (arith, c.loop-i.invariant.wides, c.in-Ok.ensures.counted.wides);
    }

pub returns-clause-lines : goal.returns-clause-lines
returns-clause-lines g c =
    let value = g.N.Exact.value in
    sym c.loop-i.invariant.rest
    ∙ records_end fields_of g.N.Exact.limit (robust value c.args.model.now) (plan_of value c.args.plan.now)
    c.args.places.now c.args.rows.now c.loop-i.i (map (line_of value) c.loop-i.lines) c.loop-i-test.false
