use Rattle.std.proofs.Common.{◌++◌, map}
use Rattle.rob_cells.proofs.ListLemmas.{mapped_all, mapped_more}
use Rattle.rob_meaning.specs.RobustModel.{in_set}
use Rattle.rob_model.specs.View.{parameter_of}
use Rattle.rob_cells.proofs.copies.append_params_in.Goals as goal

pub loop-param-preserved : goal.loop-param-preserved
loop-param-preserved g c =
    let view = parameter_of g.N.Exact.value in
    let joint = in_set c.args.set.now in
    mapped_more view view joint c.args.params.now (map view c.args.list.now ++ map joint (map view c.args.params.now))
    c.loop-param.param-index c.param-item.result c.in_ok-next.next c.loop-param.list c.push.new.self
    c.loop-param-test.true c.param-item.is c.in_ok-next.ensures.of_set c.in_ok-push.ensures.appended
    c.loop-param.invariant

pub returns : goal.returns
returns g c =
    let view = parameter_of g.N.Exact.value in
    let joint = in_set c.args.set.now in
    record {
      appended = mapped_all view view joint c.args.params.now
          (map view c.args.list.now ++ map joint (map view c.args.params.now)) c.loop-param.param-index
          c.loop-param.list c.loop-param-test.false c.loop-param.invariant;
    }
