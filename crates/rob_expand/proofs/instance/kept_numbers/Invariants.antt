use Rattle.std.proofs.Common.{◌≡◌, ◌++◌, drop}
use Rattle.std.specs.List.{flat_map}
use Rattle.rob_syntax.specs.Known.{texts}
use Rattle.rob_settings.specs.Spots.{picks}
use Rattle.rob_expand.proofs.Expanding.MakeLemmas.{item_made}
use Rattle.rob_expand.proofs.instance.kept_numbers.Given as goal

abbrev pub invariant-loop-k : goal.invariant-loop-k
invariant-loop-k l =
    l.numbers ++ flat_map (item_made (texts l.names.own.now.keys) (texts l.names.words.now.keys) l.values)
    (picks l.items (drop l.k-index l.kept))
    ≡ flat_map (item_made (texts l.names.own.now.keys) (texts l.names.words.now.keys) l.values) (picks l.items l.kept)
