use Rattle.std.proofs.Common.{arith, map, sym}
use Rattle.std.proofs.lemmas.Option.{get_or_from_slice_get, slice_get-get_or}
use Rattle.rob_cert.proofs.Writing.WriterLemmas.{text_more}
use Rattle.rob_model.proofs.SmallLemmas.{at_map}
use Rattle.rob_model.specs.View.{parameter_of}
use Rattle.rob_report.proofs.ReportLemmas.{coefficient_here, coefficients_text-cons}
use Rattle.rob_report.specs.Report.{coefficients_text}
use Rattle.rob_report.proofs.report.put_coefficients.Goals as goal

pub loop-k-preserved : goal.loop-k-preserved
loop-k-preserved g c =
    let value = g.N.Exact.value in
    let plan = map value c.args.plan.now in
    let ps = map (parameter_of value) c.args.params.now in
    record {
      place = omega (arith, c.loop-k.invariant.place);
      rest = text_more (coefficients_text plan ps) (coefficients_text-cons value plan ps) c.loop-k.place
          c.args.on.now c.loop-k.k-index _
          c.loop-k.out c.put_coefficient.new.out _ c.loop-k-test.true
          (sym (get_or_from_slice_get c.args.on.now c.loop-k.k-index _ _
          (slice_get-get_or c.args.on.now c.loop-k.k-index 0 c.loop-k-test.true)))
          (coefficient_here value plan ps c.loop-k.place _ c.parameter_name.result.now (value c.index-plan-place.result)
          c.loop-k.out c.put_coefficient.new.out
          c.parameter_name.ensures.name
          (at_map value c.args.plan.now c.loop-k.place c.index-plan-place.result
          (omega (arith, c.loop-k.invariant.place, c.loop-k-test.true, c.requires.columns)) c.index-plan-place.is)
          c.in_ok-put_coefficient.ensures.appended)
          c.loop-k.invariant.rest;
    }
