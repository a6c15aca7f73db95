use Rattle.std.proofs.Common.{◌++◌, ap, ◌∙◌}
use Rattle.rob_cert.proofs.Words.NameListLemmas.{parameter_more}
use Rattle.rob_cert.proofs.names.parameter_list.Goals as goal

pub loop-param-preserved : goal.loop-param-preserved
loop-param-preserved g c =
    c.in_ok-push-2.ensures.appended
    ∙ parameter_more g.N.Exact.value c.args.params.now c.loop-param.list c.loop-param.param-index c.param-item.result
    c.new-name.result c.push.new.self
    c.loop-param-test.true c.param-item.is c.new-name.ensures.empty
    (c.in_ok-push.ensures.appended ∙ ap (λ bs. c.new-name.result ++ bs) c.bytes.ensures.list) c.loop-param.invariant
