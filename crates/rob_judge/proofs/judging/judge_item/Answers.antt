use Rattle.std.proofs.Common.{sym, ◌∙◌}
use Rattle.rob_index.specs.Forms.{extensions}
use Rattle.rob_expand.specs.Judging.{worst, indices_found, ranges_found}
use Rattle.rob_expand.proofs.Walks.FindingLemmas.{worse_both}
use Rattle.rob_judge.proofs.JudgeLemmas.{quiet_item, long_first}
use Rattle.rob_judge.proofs.judging.judge_item.Goals as goal

pub returns-then-is_quiet_at : goal.returns-then-is_quiet_at
returns-then-is_quiet_at c = record {
  found =
      sym (quiet_item c.args.item.now c.args.values.now (c.is_quiet_at.ensures.empty c.if-is_quiet_at.true)
      (c.is_quiet_at.ensures.short c.if-is_quiet_at.true));
}

pub returns-then-is_too_long : goal.returns-then-is_too_long
returns-then-is_too_long c =
    let x = c.args.item.now in
    let vs = c.args.values.now in
    record {
      found =
          long_first c.in_ok-found.found (ranges_found x.ranges vs)
          (worst (indices_found x.name.indices) (extensions x.ranges vs))
          c.in_ok-found.ensures.found
          (sym c.is_too_long.ensures.is ∙ c.if-is_too_long.true);
    }

pub returns : goal.returns
returns c =
    let x = c.args.item.now in
    let vs = c.args.values.now in
    let settings = c.items-2.ensures.list ∙ c.in_ok-settings.ensures.settings in
    record {
      found =
          c.worse.ensures.worse
          ∙ worse_both
          c.in_ok-found.ensures.found
          (c.in_ok-here.ensures.found ∙ (λ i. worst (indices_found (c.items.ensures.list i)) (settings i)));
    }
