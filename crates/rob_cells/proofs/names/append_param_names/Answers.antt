use Rattle.std.proofs.Common.{map, refl}
use Rattle.rob_cells.proofs.ListLemmas.{appended_all, appended_more}
use Rattle.rob_model.specs.declared.model.Param.{Param}
use Rattle.rob_cells.proofs.names.append_param_names.Goals as goal

pub loop-param-preserved : goal.loop-param-preserved
loop-param-preserved g c =
    appended_more (map (λ (p : Param g.row.N.Denot). p.name))
    c.args.params.now c.loop-param.names c.loop-param.param-index (λ (p : Param g.row.N.Denot). p.name) (λ x xs. refl)
    c.loop-param-test.true c.param-item.is c.in_ok-name.ensures.equal
    c.in_ok-push.ensures.appended c.loop-param.invariant

pub returns : goal.returns
returns g c = record {
  appended = appended_all (map (λ (p : Param g.row.N.Denot). p.name))
      c.args.params.now c.loop-param.names c.loop-param.param-index refl c.loop-param-test.false c.loop-param.invariant;
}
