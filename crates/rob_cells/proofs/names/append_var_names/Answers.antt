use Rattle.std.proofs.Common.{map, refl}
use Rattle.rob_cells.proofs.ListLemmas.{appended_all, appended_more}
use Rattle.rob_model.specs.declared.model.Var.{Var}
use Rattle.rob_cells.proofs.names.append_var_names.Goals as goal

pub loop-var-preserved : goal.loop-var-preserved
loop-var-preserved g c =
    appended_more (map (λ (x : Var g.row.N.Denot). x.name))
    c.args.vars.now c.loop-var.names c.loop-var.var-index (λ (x : Var g.row.N.Denot). x.name) (λ x xs. refl)
    c.loop-var-test.true c.var-item.is c.in_ok-name.ensures.equal
    c.in_ok-push.ensures.appended c.loop-var.invariant

pub returns : goal.returns
returns g c = record {
  appended = appended_all (map (λ (x : Var g.row.N.Denot). x.name))
      c.args.vars.now c.loop-var.names c.loop-var.var-index refl c.loop-var-test.false c.loop-var.invariant;
}
