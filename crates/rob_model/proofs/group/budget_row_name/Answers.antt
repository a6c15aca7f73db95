use Rattle.std.proofs.Common.{arith, map, ◌/◌, ◌%◌, ◌<◌, ◌≡◌, ◌*◌, ◌+◌, length, ap, sym, ◌∙◌}
use Rattle.rob_meaning.specs.Names.{parameter_name}
use Rattle.rob_model.specs.declared.model.Member.{Member}
use Rattle.rob_model.specs.View.{parameter_of}
use Rattle.rob_model.proofs.GroupLemmas.{budget_member, budget_sum}
use Rattle.rob_model.proofs.group.budget_row_name.Goals as goal

pub returns-then-place-members : goal.returns-then-place-members
returns-then-place-members g c =
    let value = g.N.Exact.value in
    let index = c.args.index in
    let small : index % 2 < 2 = omega arith in
    let split : index ≡ 2 * (index / 2) + index % 2 = omega arith in
    record {
      name = λ limit. budget_member value (map (parameter_of value) c.args.params.now) c.args.number limit
          c.args.members.now (index / 2) (index % 2) index
          c.index-members-place.result c.parameter_name.result.now c.direction.result.now c.if-place-members.true
          c.index-members-place.is small split
          (c.parameter_name.ensures.name
          ∙ ap (λ (h : Member g.row.N.Denot). parameter_name (map (parameter_of value) c.args.params.now) h.param)
          (sym c.index-members-place.is))
          c.direction.ensures.direction;
    }

pub returns-else-place-members : goal.returns-else-place-members
returns-else-place-members g c =
    let value = g.N.Exact.value in
    let last : c.args.index ≡ 2 * length c.args.members.now =
    omega (arith, c.if-place-members.false, c.requires.inside) in
    record {
      name = λ limit. budget_sum value (map (parameter_of value) c.args.params.now) c.args.number limit
          c.args.members.now c.args.index last;
    }
