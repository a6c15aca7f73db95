use Rattle.std.proofs.Common.{Bool, false, ap, ◌∙◌}
use Rattle.std.specs.Prelude.{int_lt}
use Rattle.rob_expand.specs.Judging.{finding}
use Rattle.rob_judge.proofs.judging.judge_length_inside.Goals as goal

pub returns : goal.returns
returns c = record {
  found =
      c.found_where.ensures.finding
      ∙ ap (λ (b : Bool). finding b false)
      (c.in_ok-long.ensures.less
      ∙ (λ i. int_lt (c.small-most.ensures.value i) (c.in_ok-length.ensures.length i)));
}
