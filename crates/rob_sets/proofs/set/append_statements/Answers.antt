use Rattle.std.proofs.Common.{◌+◌, List, [], ◌∷◌, ap, arith, length, map, refl, zero}
use Rattle.rob_meaning.specs.SetRows.{lift_count, statement_rows}
use Rattle.rob_model.specs.View.{robust, set_line_of}
use Rattle.rob_model.specs.declared.model.SetLine.{SetLine as SetLineData}
use Rattle.rob_sets.specs.SetForm.{judged_statements}
use Rattle.rob_number.proofs.CountLemmas.{later}
use Rattle.rob_sets.proofs.Cells.ItemLemmas.{drop_item, drop_over}
use Rattle.rob_sets.proofs.Judging.AppendingLemmas.{appended_length}
use Rattle.rob_sets.proofs.WholeRows.StatementCounts.{few_here, lifts_below, lifts_fit, lifts_left, number_fits, statement_inside}
use Rattle.rob_sets.proofs.Judging.ProgressLemmas.{begins, ends, goes_on, so_many, stops}
use Rattle.rob_sets.proofs.WholeRows.StatementLemmas.{judged_at, statements_at, statements_many}
use Rattle.rob_sets.proofs.set.append_statements.Goals as goal

pub loop-line-init : goal.loop-line-init
loop-line-init g c = record {
  number = refl;
  lifts = omega arith;
  progress = begins c.args.rows.now;
  counted = record { ops = omega arith; wides = omega arith };
}

pub append_statement-requires-clause-line : goal.append_statement-requires-clause-line
append_statement-requires-clause-line g c =
    statement_inside c.requires.valid c.items-line-items.ensures.list c.loop-line-test.true c.line-item.is

pub append_statement-requires-clause-few : goal.append_statement-requires-clause-few
append_statement-requires-clause-few g c =
    let m = robust g.N.Exact.value c.args.model.now in
    omega (
      arith,
      so_many c.loop-line.invariant.progress,
      statements_many m zero m.set_lines,
      c.requires.valid.limits.set_lines,
      c.requires.valid.limits.members,
      c.requires.few,
      few_here c.requires.valid c.items-line-items.ensures.list c.loop-line-test.true c.line-item.is
          c.loop-line.lift c.loop-line.invariant.lifts,
    )

pub append_statement-requires-clause-few_lifts : goal.append_statement-requires-clause-few_lifts
append_statement-requires-clause-few_lifts g c =
    lifts_below c.requires.valid c.items-line-items.ensures.list c.loop-line-test.true c.line-item.is
    c.loop-line.lift c.loop-line.invariant.lifts

pub member_count-lift-requires : goal.member_count-lift-requires
member_count-lift-requires g c = record {
  few = few_here c.requires.valid c.items-line-items.ensures.list c.loop-line-test.true c.line-item.is
      c.loop-line.lift c.loop-line.invariant.lifts;
}

pub overflow_add-number : goal.overflow_add-number
overflow_add-number g c =
    number_fits c.requires.valid c.items-line-items.ensures.list c.loop-line-test.true c.loop-line.invariant.number

pub overflow_add-lift : goal.overflow_add-lift
overflow_add-lift g c =
    lifts_fit c.requires.valid c.items-line-items.ensures.list c.loop-line-test.true c.line-item.is
    c.loop-line.lift c.loop-line.invariant.lifts c.member_count-lift.ensures.count

pub returns-in_err-append_statement-clause-rows : goal.returns-in_err-append_statement-clause-rows
returns-in_err-append_statement-clause-rows g c =
    let value = g.N.Exact.value in
    let at = drop_item c.loop-line.line-index c.items-line-items.ensures.list c.loop-line-test.true c.line-item.is in
    stops c.append_statement.new.rows (g.L.Ledger.wides c.args.ledger.now) c.from_residual.result
    c.loop-line.invariant.progress
    (judged_at (robust value c.args.model.now) (set_line_of value) c.args.model.now.set_lines c.loop-line.line-index
    c.loop-line.lift (c.loop-line.lift + lift_count (set_line_of value c.line-item.result ∷ [])) at refl
    c.loop-line.number (length c.loop-line.rows) _ refl)
    c.loop-line.invariant.counted.wides c.in_err-append_statement.ensures.rows c.from_residual.ensures.1

pub loop-line-preserved : goal.loop-line-preserved
loop-line-preserved g c =
    let value = g.N.Exact.value in
    let m = robust value c.args.model.now in
    let i = c.loop-line.line-index in
    let at = drop_item i c.items-line-items.ensures.list c.loop-line-test.true c.line-item.is in
    let more = ap (λ n. c.loop-line.lift + n) c.member_count-lift.ensures.count in
    record {
      number = omega (arith, c.loop-line.invariant.number);
      lifts = lifts_left c.requires.valid c.items-line-items.ensures.list c.loop-line-test.true c.line-item.is
          c.loop-line.lift c.loop-line.invariant.lifts c.member_count-lift.ensures.count;
      progress = goes_on c.loop-line.invariant.progress
          (record { is = statements_at m (set_line_of value) c.args.model.now.set_lines i c.loop-line.lift _ at more })
          (judged_at m (set_line_of value) c.args.model.now.set_lines i c.loop-line.lift _ at more c.loop-line.number
          (length c.loop-line.rows) (length c.append_statement.new.rows)
          (appended_length c.in_ok-append_statement.ensures.rows)) c.in_ok-append_statement.ensures.rows;
      counted = later c.loop-line.invariant.counted c.append_statement.ensures.counted;
    }

pub returns-clause-rows : goal.returns-clause-rows
returns-clause-rows g c =
    let value = g.N.Exact.value in
    let m = robust value c.args.model.now in
    let over = drop_over c.loop-line.line-index c.items-line-items.ensures.list c.loop-line-test.false in
    ends c.loop-line.invariant.progress
    (ap (λ (ys : List (SetLineData g.row.N.Denot)). statement_rows m c.loop-line.lift (map (set_line_of value) ys))
    over)
    (ap (λ (ys : List (SetLineData g.row.N.Denot)).
    judged_statements m c.loop-line.number c.loop-line.lift (length c.loop-line.rows) (map (set_line_of value) ys))
    over)
