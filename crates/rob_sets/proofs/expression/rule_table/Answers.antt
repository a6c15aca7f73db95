use Rattle.std.proofs.Common.{rules, arith, ap, sym, ◌∙◌, ◌+◌, ◌*◌, length, refl}
use Rattle.rob_model.specs.View.{robust}
use Rattle.rob_model.specs.declared.model.Adaptive.{Adaptive}
use Rattle.rob_number.proofs.CountLemmas.{later}
use Rattle.rob_meaning.specs.Expressions.{adaptive_in}
use Rattle.rob_sets.specs.Tables.{numbers_of}
use Rattle.rob_sets.proofs.Expressions.JointLemmas.{listed_below}
use Rattle.rob_sets.proofs.Expressions.RuleLemmas.{list_is, rule_few}
use Rattle.rob_sets.proofs.Expressions.RuleSteps.{rule_begins, rule_ends, rule_goes_on, rule_stops}
use Rattle.rob_sets.proofs.Expressions.TabulatingLemmas.{leaf_is, memory_stops}
use Rattle.rob_sets.proofs.expression.rule_table.Goals as goal

pub overflow_cast-column : goal.overflow_cast-column
overflow_cast-column g c =
    let few =
    rule_few g.N.Exact.value c.args.model.now c.args.adaptive c.requires.inside c.requires.valid.limits.columns in
    omega (arith, few, c.column_of.ensures.column)

pub overflow_add-column : goal.overflow_add-column
overflow_add-column g c =
    let few =
    rule_few g.N.Exact.value c.args.model.now c.args.adaptive c.requires.inside c.requires.valid.limits.columns in
    omega (arith, few, c.column_of.ensures.column)

pub loop-parameter-init : goal.loop-parameter-init
loop-parameter-init g c =
    let value = g.N.Exact.value in
    let list = list_is value c.args.model.now c.args.adaptive c.index-items-adaptive.result c.items.result.now
    c.items-parameter-items.result.now c.items.ensures.list c.requires.inside c.index-items-adaptive.is
    (c.items-parameter-items.ensures.list
    ∙ ap (λ (z : Adaptive g.row.N.Denot). z.on) (sym c.index-items-adaptive.is)) in
    record {
      list = list;
      column = omega (arith, c.column_of.ensures.column);
      so_far = rule_begins _ list (ap (λ n. n + 1) c.column_of.ensures.column) c.in_ok-table.ensures.number;
      counted = record { ops = search rules; wides = search rules };
    }

pub overflow_add-column-in-loop-parameter : goal.overflow_add-column-in-loop-parameter
overflow_add-column-in-loop-parameter g c =
    let few =
    rule_few g.N.Exact.value c.args.model.now c.args.adaptive c.requires.inside c.requires.valid.limits.columns in
    omega (
      arith,
      few,
      c.loop-parameter.invariant.column,
      c.loop-parameter-test.true,
      ap length c.loop-parameter.invariant.list,
    )

pub overflow_add-first : goal.overflow_add-first
overflow_add-first g c =
    let below = listed_below (robust g.N.Exact.value c.args.model.now) c.args.set c.args.adaptive
    c.items-parameter-items.result.now c.loop-parameter.parameter-index c.requires.set
    c.requires.valid.well_formed.lists c.loop-parameter.invariant.list c.loop-parameter-test.true in
    omega (arith, below, c.requires.valid.limits.parameters, ap (λ n. c.args.set * n) c.written_count.ensures.count)

pub overflow_add-first-in-loop-parameter : goal.overflow_add-first-in-loop-parameter
overflow_add-first-in-loop-parameter g c =
    let below = listed_below (robust g.N.Exact.value c.args.model.now) c.args.set c.args.adaptive
    c.items-parameter-items.result.now c.loop-parameter.parameter-index c.requires.set
    c.requires.valid.well_formed.lists c.loop-parameter.invariant.list c.loop-parameter-test.true in
    omega (arith, below, c.requires.valid.limits.parameters, ap (λ n. c.args.set * n) c.written_count.ensures.count)

pub loop-parameter-preserved : goal.loop-parameter-preserved
loop-parameter-preserved g c = record {
  list = c.loop-parameter.invariant.list;
  column = omega (arith, c.loop-parameter.invariant.column);
  so_far = rule_goes_on c.loop-parameter.invariant.so_far c.written_count.ensures.count c.loop-parameter-test.true
      c.one-number.ensures.value (numbers_of g.N.Exact.value c.add.new.self) c.in_ok-add.ensures.added;
  counted = later (later c.loop-parameter.invariant.counted c.one-number.ensures.counted) c.add.ensures.counted;
}

pub returns-clause-table : goal.returns-clause-table
returns-clause-table g c =
    leaf_is g.N.Exact.value g.N.Exact.limit g.met.N.Exact.fits g.met.N.Exact.limit_low
    (robust g.N.Exact.value c.args.model.now) (adaptive_in c.args.adaptive c.args.set) c.loop-parameter.table refl
    (rule_ends c.loop-parameter.invariant.so_far c.loop-parameter-test.false)

pub returns-in_err-table-clause-table : goal.returns-in_err-table-clause-table
returns-in_err-table-clause-table g c =
    memory_stops g.N.Exact.value g.N.Exact.limit (robust g.N.Exact.value c.args.model.now)
    (adaptive_in c.args.adaptive c.args.set) (g.L.Ledger.wides c.args.ledger.now) (g.L.Ledger.wides c.unit.new.ledger)
    c.from_residual.result c.in_err-table.field-0.0 c.in_err-table.ensures.memory c.from_residual.ensures.1

pub returns-in_err-add-clause-table : goal.returns-in_err-add-clause-table
returns-in_err-add-clause-table g c =
    rule_stops c.loop-parameter.invariant.so_far c.written_count.ensures.count c.loop-parameter-test.true
    c.one-number.ensures.value g.N.Exact.value g.N.Exact.limit (g.L.Ledger.wides c.args.ledger.now)
    (g.L.Ledger.wides c.one-number.new.ledger) (g.L.Ledger.wides c.add.new.ledger) c.from_residual-in_err-add.result
    c.in_err-add.field-0.0 (omega (arith, c.loop-parameter.invariant.counted.wides, c.one-number.ensures.counted.wides))
    c.in_err-add.ensures.wide c.from_residual-in_err-add.ensures.1
