use Rattle.std.proofs.Common.{ap, ◌∙◌}
use Rattle.rob_algebra.proofs.ListLemmas.{drop_at, drop_all}
use Rattle.rob_expand.specs.Judging.{indices_found}
use Rattle.rob_expand.proofs.Walks.FindingLemmas.{worst_more, worst_all}
use Rattle.rob_judge.proofs.judging.judge_entries.Goals as goal

pub loop-setting-preserved : goal.loop-setting-preserved
loop-setting-preserved c =
    let f = indices_found c.args.indices.now in
    let step = drop_at c.args.settings.now c.loop-setting.setting-index c.setting-item.result c.loop-setting-test.true
    c.setting-item.is in
    worst_more f c.loop-setting.found c.in_ok-here.here _ _ _ c.setting-item.result step
    (c.in_ok-here.ensures.found ∙ ap f c.items.ensures.list) c.worse-found.ensures.worse c.loop-setting.invariant

pub returns : goal.returns
returns c =
    let none = drop_all c.loop-setting.setting-index c.args.settings.now c.loop-setting-test.false in
    record {
      found = worst_all (indices_found c.args.indices.now) c.loop-setting.found _ none c.loop-setting.invariant;
    }
