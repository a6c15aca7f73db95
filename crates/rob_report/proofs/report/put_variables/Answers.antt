use Rattle.std.proofs.Common.{arith, map}
use Rattle.rob_cert.proofs.Writing.WriterLemmas.{text_more}
use Rattle.rob_model.proofs.SmallLemmas.{at_map}
use Rattle.rob_report.proofs.ReportLemmas.{variable_line, variables_from, variables_from-cons}
use Rattle.rob_report.proofs.report.put_variables.Goals as goal

pub loop-column-preserved : goal.loop-column-preserved
loop-column-preserved g c =
    let value = g.N.Exact.value in
    let plan = map value c.args.plan.now in
    text_more (variables_from value plan) (variables_from-cons value plan) c.loop-column.column c.args.vars.now
    c.loop-column.column c.index-vars-column.result c.loop-column.out c.put_named.new.out _ c.loop-column-test.true
    c.index-vars-column.is
    (variable_line value plan c.loop-column.column c.index-vars-column.result c.bytes.result.now
    (value c.index-plan-column.result) c.loop-column.out c.put_named.new.out c.bytes.ensures.list
    (at_map value c.args.plan.now c.loop-column.column c.index-plan-column.result
    (omega (arith, c.loop-column-test.true, c.requires.columns)) c.index-plan-column.is)
    c.in_ok-put_named.ensures.appended)
    c.loop-column.invariant
