use Rattle.std.proofs.Common.{arith, subst, sym}
use Rattle.std.proofs.lemmas.List.{length-map}
use Rattle.std.specs.Prelude.{◌<◌, zero, length, refl}
use Rattle.rob_meaning.specs.WellFormed.{IsExpression}
use Rattle.rob_model.specs.View.{variable_of, robust}
use Rattle.rob_model.proofs.PartLemmas.{variable_is}
use Rattle.rob_number.proofs.CountLemmas.{later}
use Rattle.rob_sets.proofs.Cells.ItemLemmas.{drop_item, drop_over}
use Rattle.rob_algebra.proofs.ListLemmas.{item_inside}
use Rattle.rob_sets.proofs.Expressions.LeafLemmas.{few_variables}
use Rattle.rob_sets.proofs.Judging.ProgressLemmas.{begins, so_many}
use Rattle.rob_elab.proofs.AppendLemmas.{forms_end, forms_go_on, forms_stop}
use Rattle.rob_elab.proofs.LeftLemmas.{variables_at, variables_end, variables_many}
use Rattle.rob_elab.proofs.bounds.append_variable_bounds.Goals as goal

pub loop-variable-init : goal.loop-variable-init
loop-variable-init g c =
    record {
      number = refl;
      progress = begins c.args.matrices.now;
      counted = record {
        ops = omega arith;
        wides = omega arith;
      };
    }

pub append_bounds-requires-clause-bounded : goal.append_bounds-requires-clause-bounded
append_bounds-requires-clause-bounded g c =
    let value = g.N.Exact.value in
    let m = robust value c.args.model.now in
    let n = c.loop-variable.number in
    let inside : n < length m.variables = omega (
      arith,
      item_inside c.loop-variable.variable-index c.items-variable-items.ensures.list c.loop-variable-test.true,
      c.loop-variable.invariant.number,
      length-map c.args.model.now.vars (variable_of value),
    ) in
    subst (IsExpression m) (sym (variable_is value n)) (inside, tt)

pub append_bounds-requires-clause-few : goal.append_bounds-requires-clause-few
append_bounds-requires-clause-few g c =
    let m = robust g.N.Exact.value c.args.model.now in
    omega (
      arith,
      so_many c.loop-variable.invariant.progress,
      variables_many zero m.variables,
      few_variables m,
      c.requires.valid.limits.columns,
      c.requires.few,
    )

pub overflow_add-number : goal.overflow_add-number
overflow_add-number g c =
    let value = g.N.Exact.value in
    omega (
      arith,
      item_inside c.loop-variable.variable-index c.items-variable-items.ensures.list c.loop-variable-test.true,
      c.loop-variable.invariant.number,
      length-map c.args.model.now.vars (variable_of value),
      few_variables (robust value c.args.model.now),
      c.requires.valid.limits.columns,
    )

pub returns-in_err-append_bounds-clause-forms : goal.returns-in_err-append_bounds-clause-forms
returns-in_err-append_bounds-clause-forms g c =
    let at = variables_at g.N.Exact.value c.args.model.now.vars c.loop-variable.variable-index c.loop-variable.number
    (drop_item c.loop-variable.variable-index c.items-variable-items.ensures.list c.loop-variable-test.true
    c.variable-item.is) c.loop-variable.invariant.number in
    forms_stop c.loop-variable.invariant.progress c.append_bounds.new.matrices (g.L.Ledger.wides c.args.ledger.now)
    c.from_residual.result at
    c.loop-variable.invariant.counted.wides c.in_err-append_bounds.ensures.forms c.from_residual.ensures.1

pub loop-variable-preserved : goal.loop-variable-preserved
loop-variable-preserved g c =
    let at = variables_at g.N.Exact.value c.args.model.now.vars c.loop-variable.variable-index c.loop-variable.number
    (drop_item c.loop-variable.variable-index c.items-variable-items.ensures.list c.loop-variable-test.true
    c.variable-item.is) c.loop-variable.invariant.number in
    record {
      number = omega (arith, c.loop-variable.invariant.number);
      progress = forms_go_on c.loop-variable.invariant.progress at c.in_ok-append_bounds.ensures.forms;
      counted = later c.loop-variable.invariant.counted c.append_bounds.ensures.counted;
    }

pub returns-clause-forms : goal.returns-clause-forms
returns-clause-forms g c =
    let i = c.loop-variable.variable-index in
    forms_end c.loop-variable.invariant.progress
    (variables_end g.N.Exact.value c.args.model.now.vars i
    (drop_over i c.items-variable-items.ensures.list c.loop-variable-test.false))
