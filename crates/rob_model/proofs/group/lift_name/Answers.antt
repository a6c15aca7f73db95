use Rattle.std.proofs.Common.{arith, map, length, ◌<◌}
use Rattle.rob_model.specs.View.{parameter_of}
use Rattle.rob_model.proofs.GroupLemmas.{lift_of_budget, length-lift_names}
use Rattle.rob_model.proofs.group.lift_name.Goals as goal

pub returns : goal.returns
returns g c =
    let value = g.N.Exact.value in
    let ps = map (parameter_of value) c.args.params.now in
    let inside : c.args.index < length c.items.result.now =
    omega (
      arith,
      c.requires.inside,
      length-lift_names value ps c.args.number c.args.line.now _ _ _ c.in-Budget.is c.items.ensures.list,
    ) in
    record {
      name = lift_of_budget value ps c.args.number c.args.line.now _ _ _ c.in-Budget.is c.items.ensures.list
          c.args.index _ _ inside c.index-items-index.is c.parameter_name.ensures.name;
    }
