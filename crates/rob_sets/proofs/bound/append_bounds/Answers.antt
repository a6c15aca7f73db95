use Rattle.std.proofs.Common.{arith, ap, sym, subst}
use Rattle.std.specs.Prelude.{zero, [], List, length, option_map, refl}
use Rattle.rob_meaning.specs.SetRows.{bound_rows, lower_row}
use Rattle.rob_model.specs.View.{robust}
use Rattle.rob_sets.specs.SetForm.{judged_rows}
use Rattle.rob_sets.specs.declared.set_form.SetRow.{SetRow}
use Rattle.rob_sets.proofs.WholeRows.BoundRowLemmas.{bounds_end, bounds_here, length-declared, upper_at}
use Rattle.rob_sets.proofs.WholeRows.ParameterCounts.{next_below, number_below, number_fits, rows_below}
use Rattle.rob_number.proofs.CountLemmas.{later}
use Rattle.rob_sets.proofs.Cells.ItemLemmas.{drop_over}
use Rattle.rob_sets.proofs.Judging.AppendingLemmas.{appended_length}
use Rattle.rob_sets.proofs.Judging.ProgressLemmas.{begins, ends, so_many}
use Rattle.rob_sets.proofs.Judging.RowSteps.{RowProgress, rows_go_on, rows_stop}
use Rattle.rob_sets.proofs.bound.append_bounds.Goals as goal

pub loop-parameter-init : goal.loop-parameter-init
loop-parameter-init g c =
    let m = robust g.N.Exact.value c.args.model.now in
    let all = bound_rows zero m.parameters in
    record {
      number = refl;
      progress = subst (λ (rows : List SetRow). RowProgress g.N.Exact.limit m all all [] rows)
          (sym c.requires.empty) (begins []);
      counted = record { ops = omega arith; wides = omega arith };
    }

pub append_bound-requires-clause-few : goal.append_bound-requires-clause-few
append_bound-requires-clause-few g c =
    rows_below c.requires.valid.limits _ _ (so_many c.loop-parameter.invariant.progress)

pub append_bound-requires-in-loop-parameter-clause-few : goal.append_bound-requires-in-loop-parameter-clause-few
append_bound-requires-in-loop-parameter-clause-few g c =
    next_below c.requires.valid.limits _ _ (so_many c.loop-parameter.invariant.progress)
    (appended_length c.in_ok-append_bound.ensures.row)
    (length-declared (lower_row c.loop-parameter.number) (option_map g.N.Exact.value c.parameter-item.result.lower))

pub append_bound-requires-clause-few_parameters : goal.append_bound-requires-clause-few_parameters
append_bound-requires-clause-few_parameters g c =
    number_below c.requires.valid c.items-parameter-items.ensures.list c.loop-parameter-test.true
    c.loop-parameter.invariant.number

pub append_bound-requires-in-loop-parameter-clause-few_parameters :
    goal.append_bound-requires-in-loop-parameter-clause-few_parameters
append_bound-requires-in-loop-parameter-clause-few_parameters g c =
    number_below c.requires.valid c.items-parameter-items.ensures.list c.loop-parameter-test.true
    c.loop-parameter.invariant.number

pub overflow_add-number : goal.overflow_add-number
overflow_add-number g c =
    number_fits c.requires.valid c.items-parameter-items.ensures.list c.loop-parameter-test.true
    c.loop-parameter.invariant.number

pub returns-in_err-append_bound : goal.returns-in_err-append_bound
returns-in_err-append_bound g c =
    let at = bounds_here g.N.Exact.value c.items-parameter-items.ensures.list c.loop-parameter-test.true
    c.parameter-item.is c.loop-parameter.invariant.number in
    record {
      rows = rows_stop c.loop-parameter.invariant.progress at c.append_bound.new.rows
          (g.L.Ledger.wides c.args.ledger.now) c.from_residual.result
          c.loop-parameter.invariant.counted.wides c.in_err-append_bound.ensures.row c.from_residual.ensures.1;
      counted = later c.loop-parameter.invariant.counted c.append_bound.ensures.counted;
    }

pub returns-in_err-append_bound-2 : goal.returns-in_err-append_bound-2
returns-in_err-append_bound-2 g c =
    let at = bounds_here g.N.Exact.value c.items-parameter-items.ensures.list c.loop-parameter-test.true
    c.parameter-item.is c.loop-parameter.invariant.number in
    let counted = later c.loop-parameter.invariant.counted c.append_bound.ensures.counted in
    record {
      rows = rows_stop (rows_go_on c.loop-parameter.invariant.progress at c.in_ok-append_bound.ensures.row)
          (upper_at g.N.Exact.value c.args.model.now.params c.loop-parameter.parameter-index c.loop-parameter.number
          c.parameter-item.result) c.append_bound-in-loop-parameter.new.rows
          (g.L.Ledger.wides c.args.ledger.now) c.from_residual-in_err-append_bound-2.result counted.wides
          c.in_err-append_bound-2.ensures.row c.from_residual-in_err-append_bound-2.ensures.1;
      counted = later counted c.append_bound-in-loop-parameter.ensures.counted;
    }

pub loop-parameter-preserved : goal.loop-parameter-preserved
loop-parameter-preserved g c =
    let at = bounds_here g.N.Exact.value c.items-parameter-items.ensures.list c.loop-parameter-test.true
    c.parameter-item.is c.loop-parameter.invariant.number in
    record {
      number = omega (arith, c.loop-parameter.invariant.number);
      progress = rows_go_on (rows_go_on c.loop-parameter.invariant.progress at c.in_ok-append_bound.ensures.row)
          (upper_at g.N.Exact.value c.args.model.now.params c.loop-parameter.parameter-index c.loop-parameter.number
          c.parameter-item.result) c.in_ok-append_bound-2.ensures.row;
      counted = later (later c.loop-parameter.invariant.counted c.append_bound.ensures.counted)
          c.append_bound-in-loop-parameter.ensures.counted;
    }

pub returns : goal.returns
returns g c =
    let m = robust g.N.Exact.value c.args.model.now in
    let i = c.loop-parameter.parameter-index in
    let over = bounds_end g.N.Exact.value c.args.model.now.params i
    (drop_over i c.items-parameter-items.ensures.list c.loop-parameter-test.false) in
    record {
      rows = ends c.loop-parameter.invariant.progress over (ap (judged_rows m (length c.loop-parameter.rows)) over);
      counted = c.loop-parameter.invariant.counted;
    }
