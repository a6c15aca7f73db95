use Rattle.std.proofs.Common.{ℕ, List, ap, ◌∙◌}
use Rattle.rob_rules.proofs.Judging.TwiceLemmas.{comes_again, comes_again_is}
use Rattle.rob_rules.proofs.fault.has_twice.Goals as goal

pub loop-leaf-init : goal.loop-leaf-init
loop-leaf-init c =
    ap (λ (seen : List ℕ). comes_again seen c.args.leaves.now) c.new-seen.ensures.empty
    ∙ comes_again_is c.args.leaves.now
