use Rattle.rob_cells.proofs.CellLemmas.{bound_made}
use Rattle.rob_cells.proofs.rows.append_bound.Goals as goal

pub returns-in_ok-push-2 : goal.returns-in_ok-push-2
returns-in_ok-push-2 g c = record {
  appended = λ m k same.
      bound_made g.N.Exact.value m c.args.c k c.args.rule c.args.bound.rel c.in_ok-side.field-0 c.args.list.now
      c.args.bound.end.now c.in-Some.is c.in_ok-text.ensures.equal c.in_ok-push.ensures.appended
      c.in_ok-numbered.ensures.numbered c.in_ok-side.ensures.side
      c.in_ok-push-2.ensures.appended same;
}
