use Rattle.std.proofs.Common.{false, ap, ◌∙◌}
use Rattle.rob_expand.specs.Judging.{finding, is_outside}
use Rattle.rob_judge.proofs.judging.judge_index.Goals as goal

pub returns : goal.returns
returns c = record {
  found =
      c.found_where.ensures.finding
      ∙ ap (finding false) (c.in_ok-out.ensures.outside ∙ ap is_outside c.in_ok-value.ensures.value);
}
