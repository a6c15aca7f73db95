use Rattle.std.proofs.Common.{get_or, map, ap, sym, ◌∙◌, arith, ◌*◌, ◌+◌}
use Rattle.rob_model.proofs.ColumnLemmas.{first_fits, rule_fits, rule_of_set}
use Rattle.rob_model.specs.Within.{rule_within}
use Rattle.rob_meaning.specs.Places.{at}
use Rattle.rob_model.specs.declared.model.Adaptive.{Adaptive}
use Rattle.rob_model.proofs.policy.rule_value_in.Goals as goal

pub overflow_mul-first : goal.overflow_mul-first
overflow_mul-first g c =
    omega (
      arith,
      first_fits g.N.Exact.value c.args.model.now c.args.set c.requires.set,
      c.written_count.ensures.few,
      ap (λ n. c.args.set * n) c.written_count.ensures.count,
    )

pub rule-requires : goal.rule-requires
rule-requires g c =
    let y = c.index-items-adaptive.result in
    record {
      few = rule_fits g.N.Exact.value c.args.model.now c.args.adaptive y c.items-on.result.now
          c.column_of-column.result c.requires.inside
          (c.index-items-adaptive.is ∙ ap (λ xs. get_or xs c.args.adaptive y) c.items.ensures.list)
          (c.items-on.ensures.list ∙ ap (λ (z : Adaptive g.row.N.Denot). z.on) (sym c.index-items-adaptive.is))
          c.column_of-column.ensures.column c.requires.few;
    }

pub returns-clause-exact : goal.returns-clause-exact
returns-clause-exact g c =
    let y = c.index-items-adaptive.result in
    let columns = map g.N.Exact.value c.args.columns.now in
    c.rule.ensures.exact
    ∙ ap (λ vs. rule_within g.N.Exact.limit columns (map g.N.Exact.value vs) c.items-on.result.now
    (c.column_of-column.result + 1) (at columns c.column_of-column.result))
    c.behind.ensures.rest
    ∙ rule_of_set g.N.Exact.value c.args.model.now c.args.adaptive y c.items-on.result.now
    c.column_of-column.result c.requires.inside
    (c.index-items-adaptive.is ∙ ap (λ xs. get_or xs c.args.adaptive y) c.items.ensures.list)
    (c.items-on.ensures.list ∙ ap (λ (z : Adaptive g.row.N.Denot). z.on) (sym c.index-items-adaptive.is))
    c.column_of-column.ensures.column g.N.Exact.limit columns c.args.values.now c.args.set
    (c.args.set * c.written_count.result)
    (ap (λ n. c.args.set * n) c.written_count.ensures.count)
