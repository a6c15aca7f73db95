use Rattle.std.proofs.Common.{arith, subst, sym}
use Rattle.std.proofs.lemmas.List.{length-map}
use Rattle.std.specs.Prelude.{◌<◌, zero, length, refl}
use Rattle.rob_meaning.specs.WellFormed.{IsExpression}
use Rattle.rob_model.specs.View.{adaptive_of, robust}
use Rattle.rob_number.proofs.CountLemmas.{later}
use Rattle.rob_sets.proofs.Cells.ItemLemmas.{drop_item, drop_over}
use Rattle.rob_algebra.proofs.ListLemmas.{item_inside}
use Rattle.rob_model.proofs.PartLemmas.{adaptive_is}
use Rattle.rob_sets.proofs.Judging.ProgressLemmas.{begins, so_many}
use Rattle.rob_elab.proofs.AppendLemmas.{forms_end, forms_go_on, forms_stop}
use Rattle.rob_elab.proofs.LeftLemmas.{adaptives_many, few_rules, rules_at, rules_end}
use Rattle.rob_elab.proofs.bounds.append_adaptive_bounds.Goals as goal

pub loop-rule-init : goal.loop-rule-init
loop-rule-init g c =
    record {
      number = refl;
      progress = begins c.args.matrices.now;
      counted = record {
        ops = omega arith;
        wides = omega arith;
      };
    }

pub append_bounds-requires-clause-bounded : goal.append_bounds-requires-clause-bounded
append_bounds-requires-clause-bounded g c =
    let value = g.N.Exact.value in
    let m = robust value c.args.model.now in
    let n = c.loop-rule.number in
    let inside : n < length m.adaptives = omega (
      arith,
      item_inside c.loop-rule.rule-index c.items-rule-items.ensures.list c.loop-rule-test.true,
      c.loop-rule.invariant.number,
      length-map c.args.model.now.adaptives (adaptive_of value),
    ) in
    subst (IsExpression m) (sym (adaptive_is value n)) (inside, tt)

pub append_bounds-requires-clause-few : goal.append_bounds-requires-clause-few
append_bounds-requires-clause-few g c =
    let m = robust g.N.Exact.value c.args.model.now in
    omega (
      arith,
      so_many c.loop-rule.invariant.progress,
      adaptives_many zero m.adaptives,
      few_rules m,
      c.requires.valid.limits.columns,
      c.requires.few,
    )

pub overflow_add-number : goal.overflow_add-number
overflow_add-number g c =
    let value = g.N.Exact.value in
    omega (
      arith,
      item_inside c.loop-rule.rule-index c.items-rule-items.ensures.list c.loop-rule-test.true,
      c.loop-rule.invariant.number,
      length-map c.args.model.now.adaptives (adaptive_of value),
      few_rules (robust value c.args.model.now),
      c.requires.valid.limits.columns,
    )

pub returns-in_err-append_bounds-clause-forms : goal.returns-in_err-append_bounds-clause-forms
returns-in_err-append_bounds-clause-forms g c =
    let at = rules_at g.N.Exact.value c.args.model.now.adaptives c.loop-rule.rule-index c.loop-rule.number
    (drop_item c.loop-rule.rule-index c.items-rule-items.ensures.list c.loop-rule-test.true c.rule-item.is)
    c.loop-rule.invariant.number in
    forms_stop c.loop-rule.invariant.progress c.append_bounds.new.matrices (g.L.Ledger.wides c.args.ledger.now)
    c.from_residual.result at
    c.loop-rule.invariant.counted.wides c.in_err-append_bounds.ensures.forms c.from_residual.ensures.1

pub loop-rule-preserved : goal.loop-rule-preserved
loop-rule-preserved g c =
    let at = rules_at g.N.Exact.value c.args.model.now.adaptives c.loop-rule.rule-index c.loop-rule.number
    (drop_item c.loop-rule.rule-index c.items-rule-items.ensures.list c.loop-rule-test.true c.rule-item.is)
    c.loop-rule.invariant.number in
    record {
      number = omega (arith, c.loop-rule.invariant.number);
      progress = forms_go_on c.loop-rule.invariant.progress at c.in_ok-append_bounds.ensures.forms;
      counted = later c.loop-rule.invariant.counted c.append_bounds.ensures.counted;
    }

pub returns-clause-forms : goal.returns-clause-forms
returns-clause-forms g c =
    let i = c.loop-rule.rule-index in
    forms_end c.loop-rule.invariant.progress
    (rules_end g.N.Exact.value c.args.model.now.adaptives i
    (drop_over i c.items-rule-items.ensures.list c.loop-rule-test.false))
