use Rattle.rob_judge.proofs.JudgeLemmas.{short_ranges}
use Rattle.rob_judge.proofs.judging.judge_lengths.Goals as goal

pub returns-then-is_short_at : goal.returns-then-is_short_at
returns-then-is_short_at c = record {
  found = short_ranges c.args.ranges.now c.args.values.now (c.is_short_at.ensures.short c.if-is_short_at.true);
}
