use Rattle.std.proofs.Common.{arith, map, ap, sym, ◌∙◌, ◌<◌}
use Rattle.std.specs.Prelude.{Some}
use Rattle.rob_model.specs.View.{parameter_of}
use Rattle.rob_model.proofs.GroupLemmas.{rule_later}
use Rattle.rob_model.proofs.group.rule_name.Goals as goal

pub returns : goal.returns
returns g c =
    let value = g.N.Exact.value in
    let some : 0 < c.args.index = omega (arith, c.if-index-eq0.false) in
    record {
      name = rule_later value (map (parameter_of value) c.args.params.now) 0 c.args.rule.now c.args.index
          c.items.result.now c.bytes-2.result.now c.parameter_name.result.now
          c.items.ensures.list c.bytes-2.ensures.list some c.requires.inside c.parameter_name.ensures.name
          ∙ ap Some (sym c.dotted.ensures.name);
    }
