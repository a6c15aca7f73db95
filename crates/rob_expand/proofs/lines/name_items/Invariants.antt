use Rattle.std.proofs.Common.{◌≡◌, ◌++◌, drop, map}
use Rattle.rob_syntax.specs.Seen.{seen_ranged, seen_ref}
use Rattle.rob_expand.specs.Statements.{name_item}
use Rattle.rob_expand.proofs.lines.name_items.Given as goal

abbrev pub invariant-loop-entry : goal.invariant-loop-entry
invariant-loop-entry l =
    l.made ++ map (name_item l.names) (map (seen_ranged seen_ref) (drop l.entry-index l.on))
    ≡ map (name_item l.names) (map (seen_ranged seen_ref) l.on)
