use Rattle.std.proofs.Common.{◌∙◌, ap}
use Rattle.rob_expand.specs.Scopes.{outside}
use Rattle.rob_expand.proofs.scope.Scope.leave.Goals as goal

pub returns : goal.returns
returns c = record {
  left =
      (λ i. record { names = c.remove_first.ensures.left i; bound = c.remove_first-2.ensures.left i })
      ∙ ap outside c.self.view_is;
}
