use Rattle.std.proofs.Common.{take, subst}
use Rattle.std.specs.Prelude.{List, ℤ}
use Rattle.rob_ranges.specs.Spans.{IsIn}
use Rattle.rob_ranges.proofs.SpanLemmas.{every_more, every_taken, every_all}
use Rattle.rob_ranges.proofs.span.widened.Goals as goal

pub loop-setting-preserved : goal.loop-setting-preserved
loop-setting-preserved c =
    let here = c.loop-setting in
    record {
      begun = λ vs within. c.hull-span.ensures.first vs (here.invariant.begun vs within);
      so_far =
          every_taken (IsIn c.hull-span.result) c.args.settings.now here.setting-index c.setting-item.result
          c.loop-setting-test.true c.setting-item.is
          (every_more (IsIn here.span) (IsIn c.hull-span.result) c.hull-span.ensures.first
          (take here.setting-index c.args.settings.now) here.invariant.so_far)
          (c.hull-span.ensures.second c.setting-item.result
          (subst (λ (vs : List ℤ). IsIn c.in_ok-here.here vs) c.items.ensures.list c.in_ok-here.ensures.span));
    }

pub returns : goal.returns
returns c =
    let here = c.loop-setting in
    record {
      begun = here.invariant.begun;
      span = every_all (IsIn here.span) c.args.settings.now here.setting-index c.loop-setting-test.false
          here.invariant.so_far;
    }
