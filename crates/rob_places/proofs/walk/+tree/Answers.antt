use Rattle.std.proofs.Common.{◌∙◌, ap}
use Rattle.rob_syntax.specs.Seen.{seen_range}
use Rattle.rob_places.specs.Around.{outside}
use Rattle.rob_places.proofs.AroundLemmas.{outside_is}
use Rattle.rob_places.proofs.walk.+tree.Goals as goal

pub ranged-returns-clause-around : goal.ranged-returns-clause-around
ranged-returns-clause-around t c =
    c.leave.ensures.left ∙ ap outside (c.in_ok-found.ensures.around ∙ c.in_ok-enter.ensures.entered)
    ∙ outside_is c.args.around.now (seen_range c.args.range.now)
