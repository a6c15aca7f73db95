use Rattle.std.proofs.Common.{get_or, map, ap, sym, ◌∙◌}
use Rattle.rob_model.proofs.ColumnLemmas.{rule_fits, rule_of_policy}
use Rattle.rob_model.specs.declared.model.Adaptive.{Adaptive}
use Rattle.rob_model.proofs.policy.rule_value.Goals as goal

pub rule-requires : goal.rule-requires
rule-requires g c =
    let y = c.index-items-adaptive.result in
    record {
      few = rule_fits g.N.Exact.value c.args.model.now c.args.adaptive y c.items-on.result.now
          c.column_of-column.result c.requires.inside
          (c.index-items-adaptive.is ∙ ap (λ xs. get_or xs c.args.adaptive y) c.items.ensures.list)
          (c.items-on.ensures.list ∙ ap (λ (z : Adaptive g.row.N.Denot). z.on) (sym c.index-items-adaptive.is))
          c.column_of-column.ensures.column c.requires.few;
    }

pub returns-clause-exact : goal.returns-clause-exact
returns-clause-exact g c =
    let y = c.index-items-adaptive.result in
    c.rule.ensures.exact
    ∙ rule_of_policy g.N.Exact.value c.args.model.now c.args.adaptive y c.items-on.result.now
    c.column_of-column.result c.requires.inside
    (c.index-items-adaptive.is ∙ ap (λ xs. get_or xs c.args.adaptive y) c.items.ensures.list)
    (c.items-on.ensures.list ∙ ap (λ (z : Adaptive g.row.N.Denot). z.on) (sym c.index-items-adaptive.is))
    c.column_of-column.ensures.column g.N.Exact.limit (map g.N.Exact.value c.args.columns.now)
    (map g.N.Exact.value c.args.values.now)
