use Rattle.std.proofs.Common.{◌≡◌, [], ◌∷◌, ◌++◌, drop}
use Rattle.std.specs.List.{flat_map}
use Rattle.rob_syntax.specs.Known.{texts}
use Rattle.rob_syntax.specs.Numbered.{numbered}
use Rattle.rob_syntax.specs.Seen.{seen_statement}
use Rattle.rob_settings.specs.declared.spot.Spot.{Spot}
use Rattle.rob_expand.specs.Growing.{printed}
use Rattle.rob_expand.specs.Instances.{instance}
use Rattle.rob_expand.proofs.instance.append_instances.Given as goal

abbrev pub invariant-loop-spot : goal.invariant-loop-spot
invariant-loop-spot l =
    l.list ++ flat_map
    (λ (s : Spot). numbered (texts l.names.words.now.keys)
    (instance (texts l.names.own.now.keys) printed (seen_statement l.statement) s.values) ∷ [])
    (drop l.spot-index l.spots)
    ≡ l.fn.list ++ flat_map
    (λ (s : Spot). numbered (texts l.names.words.now.keys)
    (instance (texts l.names.own.now.keys) printed (seen_statement l.statement) s.values) ∷ [])
    l.spots
