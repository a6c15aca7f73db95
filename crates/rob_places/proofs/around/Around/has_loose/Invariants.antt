use Rattle.std.proofs.Common.{◌≡◌, drop, map}
use Rattle.std.specs.List.{list_any}
use Rattle.rob_index.specs.Statements.{Step}
use Rattle.rob_syntax.specs.Seen.{seen_step}
use Rattle.rob_places.specs.Around.{is_loose}
use Rattle.rob_places.proofs.around.Around.has_loose.Given as goal

-- what is left to be looked at decides
abbrev pub invariant-loop-step : goal.invariant-loop-step
invariant-loop-step l =
    list_any (λ (s : Step). is_loose l.self s.atom) (map seen_step (drop l.step-index l.index.more))
    ≡ list_any (λ (s : Step). is_loose l.self s.atom) (map seen_step l.index.more)
