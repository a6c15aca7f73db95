use Rattle.std.proofs.Common.{◌≡◌, drop, map}
use Rattle.rob_syntax.specs.Few.{all_few}
use Rattle.rob_syntax.specs.Seen.{seen_ranged, seen_ref}
use Rattle.rob_syntax.proofs.indexed.limits.all_entries_few.Given as goal

abbrev pub invariant-loop-entry : goal.invariant-loop-entry
invariant-loop-entry l =
    all_few (map (seen_ranged seen_ref) (drop l.entry-index l.entries)) ≡ all_few (map (seen_ranged seen_ref) l.entries)
