use Rattle.std.proofs.Common.{arith}
use Rattle.rob_model.specs.View.{robust}
use Rattle.rob_number.proofs.AnswerLaws.{on_ok_any}
use Rattle.rob_dualize.proofs.ModelLemmas.{cause_of_route, refused_counted_behind, refused_written, route_counted_behind}
use Rattle.rob_dualize.proofs.SizeLemmas.{few_within_limits}
use Rattle.rob_dualize.proofs.model.solve_model.Goals as goal

-- ---- the route
pub solve_dual-requires : goal.solve_dual-requires
solve_dual-requires g c =
    let m = robust g.N.Exact.value c.args.model.now in
    record {
      model = record { model = m; elaborated = c.in-Ok.ensures.elaborated };
      few = few_within_limits m c.in-Ok.forms c.in-Ok.set c.requires.valid.limits
          c.in-Ok.ensures.elaborated.are_forms c.in-Ok.ensures.elaborated.is_set;
    }

pub returns-in-Ok : goal.returns-in-Ok
returns-in-Ok g c =
    let limit = g.N.Exact.limit in
    let m = robust g.N.Exact.value c.args.model.now in
    let solves =
    c.solve_dual.ensures.solves m c.requires.valid.well_formed c.in-Ok.ensures.elaborated.are_forms
    c.in-Ok.ensures.elaborated.is_set in
    let whole = c.in-Ok.ensures.written in
    record {
      written = on_ok_any c.solve_dual.result whole;
      solved = solves.solved;
      cause = cause_of_route limit m c.solve_dual.result whole solves.stopped;
      counted = record {
        never_fell = record {
          ops = omega (arith, c.written.ensures.counted.ops, c.solve_dual.ensures.counted.ops);
          wides = omega (arith, c.written.ensures.counted.wides, c.solve_dual.ensures.counted.wides);
        };
        refused = route_counted_behind (g.L.Ledger.wides c.args.ledger.now) (g.L.Ledger.wides c.written.new.ledger)
            (g.L.Ledger.wides c.solve_dual.new.ledger) c.written.ensures.counted.wides c.solve_dual.result
            solves.counted;
      };
    }

-- ---- a number of the set rows or forms is wide, or memory is refused
pub returns-in-Err-clause-cause : goal.returns-in-Err-clause-cause
returns-in-Err-clause-cause g c =
    refused_written g.N.Exact.limit (robust g.N.Exact.value c.args.model.now) c.in-Err.error c.refused.result
    c.in-Err.ensures.cause c.refused.ensures.stop

pub returns-in-Err-clause-counted : goal.returns-in-Err-clause-counted
returns-in-Err-clause-counted g c = record {
  never_fell = c.written.ensures.counted;
  refused = refused_counted_behind (g.L.Ledger.wides c.args.ledger.now) (g.L.Ledger.wides c.args.ledger.now)
      (g.L.Ledger.wides c.written.new.ledger) (omega arith) c.in-Err.error c.refused.result c.in-Err.ensures.rose
      c.refused.ensures.stop;
}
