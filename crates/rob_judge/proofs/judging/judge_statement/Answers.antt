use Rattle.std.proofs.Common.{[], true, ap, sym, ◌∙◌}
use Rattle.rob_index.specs.Forms.{extensions}
use Rattle.rob_expand.specs.Judging.{worst, line_found, ranges_found}
use Rattle.rob_settings.proofs.AppendLemmas.{thin_moved}
use Rattle.rob_expand.proofs.Walks.FindingLemmas.{worse_both}
use Rattle.rob_judge.proofs.JudgeLemmas.{long_first}
use Rattle.rob_judge.proofs.judging.judge_statement.Goals as goal

pub judge_lines-requires : goal.judge_lines-requires
judge_lines-requires c = record {
  thin =
      thin_moved true _ _ _ _ _ _ (sym c.items.ensures.list) c.items-3.ensures.list
      (c.items-4.ensures.list ∙ sym c.items-2.ensures.list) c.in_ok-kept.ensures.thin;
}

pub returns-then-is_too_long : goal.returns-then-is_too_long
returns-then-is_too_long c = record {
  found =
      long_first c.in_ok-found.found (ranges_found c.args.ranges.now [])
      (worst (line_found c.args.line.now) (extensions c.args.ranges.now [])) c.in_ok-found.ensures.found
      (sym c.is_too_long.ensures.is ∙ c.if-is_too_long.true);
}

pub returns : goal.returns
returns c = record {
  found =
      c.worse.ensures.worse
      ∙ worse_both c.in_ok-found.ensures.found
      (c.in_ok-here.ensures.found
      ∙ ap (worst (line_found c.args.line.now)) (c.items-4.ensures.list ∙ c.in_ok-settings.ensures.settings));
}
