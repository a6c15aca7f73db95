use Rattle.std.proofs.Common.{◌++◌, ◌∷◌, ℕ, List, ap, ap₂, map, ◌∙◌}
use Rattle.std.specs.Prelude.{codes}
use Rattle.rob_model.proofs.SmallLemmas.{one_item}
use Rattle.rob_report.proofs.LabelLemmas.{front_of, map-front_of, names_all, names_more}
use Rattle.rob_report.proofs.labels.form_fronts.Goals as goal

pub loop-param-init : goal.loop-param-init
loop-param-init g c =
    ap (λ xs. xs ++ map (front_of g.N.Exact.value) c.args.params.now)
    (one_item c.new-list.ensures.empty c.in_ok-push.ensures.appended)
    ∙ ap₂ ◌∷◌ c.in_ok-starred.ensures.text (map-front_of g.N.Exact.value c.args.params.now)

pub loop-param-preserved : goal.loop-param-preserved
loop-param-preserved g c =
    names_more (front_of g.N.Exact.value) c.args.params.now c.loop-param.param-index c.loop-param.list
    c.loop-param-test.true c.param-item.is
    (c.in_ok-starred-2.ensures.text ∙ ap (λ (name : List ℕ). name ++ codes "*") c.bytes.ensures.list)
    c.in_ok-push-2.ensures.appended c.loop-param.invariant

pub returns : goal.returns
returns g c = record {
  list = names_all (front_of g.N.Exact.value) c.args.params.now c.loop-param.param-index c.loop-param.list
      c.loop-param-test.false c.loop-param.invariant;
}
