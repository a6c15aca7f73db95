use Rattle.std.proofs.Common.{◌≡◌, ℤ, List, length, get_or, map, arith, ap, subst, ◌∙◌}
use Rattle.rob_cert.specs.View.{cover_of}
use Rattle.rob_check.specs.LiftedSet.{lifted_of}
use Rattle.rob_check.specs.View.{HasColumns, covering_of}
use Rattle.rob_elab.specs.Forms.{MatrixFits}
use Rattle.rob_model.proofs.PartLemmas.{each_at}
use Rattle.rob_check.proofs.CoverLemmas.{forms_stop, forms_go}
use Rattle.rob_check.proofs.RunLemmas.{mine_is, mine_named, rest_is}
use Rattle.rob_check.proofs.covers.check_covers.Goals as goal

pub check_form-requires-clause-rows : goal.check_form-requires-clause-rows
check_form-requires-clause-rows g c =
    let value = g.N.Exact.value in
    mine_named value (length c.args.set.now.rows) c.loop-index.index c.args.covering.now.covers.now
    c.loop-index.rest.now c.loop-index.invariant.left c.run_of.result c.split_at.result.0.now
    c.split_at.ensures.front

pub returns-in_default-clause-exact : goal.returns-in_default-clause-exact
returns-in_default-clause-exact g c =
    let value = g.N.Exact.value in
    let form = c.form-item.result in
    forms_stop g.N.Exact.limit (lifted_of c.args.set.now) (covering_of value c.args.covering.now)
    c.args.forms.now.matrices c.loop-index.index form c.items.result.now
    (map (cover_of value) c.split_at.result.0.now)
    (omega (arith, c.loop-index-test.true, ap length c.items-form-items.ensures.list))
    (subst (λ (forms : List (List (List ℤ))). form ≡ get_or forms c.loop-index.index form)
    c.items-form-items.ensures.list c.form-item.is) c.items.ensures.list
    (mine_is value (length c.args.set.now.rows) c.loop-index.index c.args.covering.now.covers.now c.loop-index.rest.now
    c.loop-index.invariant.left c.run_of.result c.split_at.result.0.now
    c.run_of.ensures.count c.split_at.ensures.front)
    c.check_form.result c.in_default.not-Accepted c.check_form.ensures.exact
    ∙ c.loop-index.invariant.rest

pub loop-index-preserved : goal.loop-index-preserved
loop-index-preserved g c =
    let value = g.N.Exact.value in
    let form = c.form-item.result in
    let is = subst (λ (forms : List (List (List ℤ))). form ≡ get_or forms c.loop-index.index form)
    c.items-form-items.ensures.list c.form-item.is in
    record {
      rest = forms_go g.N.Exact.limit (lifted_of c.args.set.now) (covering_of value c.args.covering.now)
          c.args.forms.now.matrices c.loop-index.index form c.items.result.now
          (map (cover_of value) c.split_at.result.0.now)
          (omega (arith, c.loop-index-test.true, ap length c.items-form-items.ensures.list))
          is c.items.ensures.list
          (mine_is value (length c.args.set.now.rows) c.loop-index.index c.args.covering.now.covers.now
          c.loop-index.rest.now c.loop-index.invariant.left c.run_of.result c.split_at.result.0.now
          c.run_of.ensures.count c.split_at.ensures.front)
          c.in-Accepted.ensures.exact
          ∙ c.loop-index.invariant.rest;
      left = rest_is value (length c.args.set.now.rows) c.loop-index.index c.args.covering.now.covers.now
          c.loop-index.rest.now c.loop-index.invariant.left c.run_of.result c.split_at.result.1.now
          c.run_of.ensures.count c.split_at.ensures.back;
      fits = (each_at (MatrixFits g.N.Exact.limit) c.args.forms.now.matrices c.loop-index.index form
          (omega (arith, c.loop-index-test.true, ap length c.items-form-items.ensures.list)) is
          c.loop-index.invariant.fits).1;
      columns = (each_at (HasColumns (length c.args.covering.now.columns.now)) c.args.forms.now.matrices
          c.loop-index.index form (omega (arith, c.loop-index-test.true, ap length c.items-form-items.ensures.list)) is
          c.loop-index.invariant.columns).1;
      counted = record {
        ops = omega (arith, c.loop-index.invariant.counted.ops, c.in-Accepted.ensures.counted.ops);
        wides = omega (arith, c.loop-index.invariant.counted.wides, c.in-Accepted.ensures.counted.wides);
      };
    }
