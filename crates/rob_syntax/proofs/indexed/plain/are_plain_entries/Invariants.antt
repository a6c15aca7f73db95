use Rattle.std.proofs.Common.{◌≡◌, drop, map}
use Rattle.rob_syntax.specs.Plain.{are_plain_entries}
use Rattle.rob_syntax.specs.Seen.{seen_ranged, seen_ref}
use Rattle.rob_syntax.proofs.indexed.plain.are_plain_entries.Given as goal

abbrev pub invariant-loop-entry : goal.invariant-loop-entry
invariant-loop-entry l =
    are_plain_entries (map (seen_ranged seen_ref) (drop l.entry-index l.entries))
    ≡ are_plain_entries (map (seen_ranged seen_ref) l.entries)
