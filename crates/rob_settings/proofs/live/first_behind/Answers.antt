use Rattle.std.proofs.Common.{sym, ◌∙◌}
use Rattle.std.specs.Prelude.{pos}
use Rattle.rob_index.proofs.Faults.NestLemmas.{lt_from, lt_not}
use Rattle.rob_settings.proofs.LiveLemmas.{alive_there, none_live, some_live}
use Rattle.rob_settings.proofs.live.first_behind.Goals as goal

pub returns-then-branch : goal.returns-then-branch
returns-then-branch c = record {
  live =
      some_live c.args.range.now c.args.values.now c.args.from.now c.args.here.now c.in_ok-step.step c.in_ok-steps.steps
      c.in_ok-live.live c.requires.here c.requires.over c.in_ok-step.ensures.fall
      (lt_from (pos 0) c.in_ok-step.step (sym c.in_ok-is_positive.ensures.positive ∙ c.if-branch.true))
      c.in_ok-steps.ensures.enough c.in_ok-steps.ensures.least c.in_ok-live.ensures.sum;
  alive =
      alive_there c.args.range.now c.args.values.now c.args.from.now c.args.here.now c.in_ok-step.step
      c.in_ok-steps.steps c.in_ok-live.live c.requires.here c.in_ok-step.ensures.fall c.in_ok-steps.ensures.enough
      c.in_ok-live.ensures.sum;
}

pub returns : goal.returns
returns c = record {
  live =
      none_live c.args.range.now c.args.values.now c.args.from.now c.args.here.now c.in_ok-step.step c.requires.here
      c.requires.over c.in_ok-step.ensures.fall
      (lt_not (pos 0) c.in_ok-step.step (sym c.in_ok-is_positive.ensures.positive ∙ c.if-branch.false));
  alive = tt;
}
