use Rattle.std.proofs.Common.{◌∙◌, ap}
use Rattle.rob_places.specs.Around.{outside}
use Rattle.rob_places.proofs.around.Around.leave.Goals as goal

pub returns : goal.returns
returns c = record {
  left =
      (λ i. record { names = c.remove_first.ensures.left i; nest = c.leave.ensures.left i })
      ∙ ap outside c.self.view_is;
}
