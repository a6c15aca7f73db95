use Rattle.std.proofs.Common.{◌≡◌, drop, map}
use Rattle.rob_index.specs.FewIndices.{are_few_items}
use Rattle.rob_syntax.specs.Seen.{seen_ranged, seen_ref}
use Rattle.rob_syntax.proofs.indexed.few.are_few_entries.Given as goal

abbrev pub invariant-loop-entry : goal.invariant-loop-entry
invariant-loop-entry l =
    are_few_items (λ r. r) (map (seen_ranged seen_ref) (drop l.entry-index l.entries))
    ≡ are_few_items (λ r. r) (map (seen_ranged seen_ref) l.entries)
