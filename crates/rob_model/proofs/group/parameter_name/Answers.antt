use Rattle.std.proofs.Common.{ap, sym, ◌∙◌}
use Rattle.rob_model.specs.declared.model.Param.{Param}
use Rattle.rob_model.proofs.GroupLemmas.{parameter_here, parameter_past}
use Rattle.rob_model.proofs.group.parameter_name.Goals as goal

pub returns-then-k-params : goal.returns-then-k-params
returns-then-k-params g c =
    let d = c.index-params-k.result in
    record {
      name = c.bytes.ensures.list ∙ ap (λ (q : Param g.row.N.Denot). q.name) (sym c.index-params-k.is)
          ∙ sym (parameter_here g.N.Exact.value c.args.params.now c.args.k d c.if-k-params.true c.index-params-k.is);
    }

pub returns-else-k-params : goal.returns-else-k-params
returns-else-k-params g c =
    record { name = sym (parameter_past g.N.Exact.value c.args.params.now c.args.k c.if-k-params.false) }
