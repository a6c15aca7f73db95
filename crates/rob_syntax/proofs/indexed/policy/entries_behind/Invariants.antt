use Rattle.std.proofs.Common.{[], ◌∷◌, length, map}
use Rattle.rob_index.specs.Grammar.{spell_more, spell_ref}
use Rattle.rob_index.specs.Lines.{spell_ranged}
use Rattle.rob_syntax.specs.Fronts.{EndsList, EndsEntry}
use Rattle.rob_syntax.specs.SeenSymbols.{seen_line}
use Rattle.rob_syntax.specs.Seen.{seen_ranged, seen_ref}
use Rattle.rob_syntax.proofs.Fronts.ChainLemmas.{Front}
use Rattle.rob_syntax.proofs.indexed.policy.entries_behind.Given as goal

abbrev pub invariant-loop-behind : goal.invariant-loop-behind
invariant-loop-behind l =
    Front (spell_more (spell_ranged spell_ref)) (EndsList EndsEntry) (λ xs. xs) (seen_line l.symbols) (seen_line l.rest)
    (seen_ranged seen_ref l.fn.first ∷ []) (map (seen_ranged seen_ref) l.list)

abbrev pub decreases-loop-behind : goal.decreases-loop-behind
decreases-loop-behind l = length (seen_line l.rest)
