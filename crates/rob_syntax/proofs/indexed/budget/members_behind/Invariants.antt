use Rattle.std.proofs.Common.{[], ◌∷◌, length, map}
use Rattle.rob_index.specs.Grammar.{spell_more}
use Rattle.rob_index.specs.Lines.{spell_ranged, spell_share}
use Rattle.rob_syntax.specs.Fronts.{EndsList, EndsShare}
use Rattle.rob_syntax.specs.SeenSymbols.{seen_line}
use Rattle.rob_syntax.specs.Seen.{seen_ranged, seen_share}
use Rattle.rob_syntax.proofs.Fronts.ChainLemmas.{Front}
use Rattle.rob_syntax.proofs.indexed.budget.members_behind.Given as goal

abbrev pub invariant-loop-behind : goal.invariant-loop-behind
invariant-loop-behind l =
    Front (spell_more (spell_ranged spell_share)) (EndsList EndsShare) (λ xs. xs)
    (seen_line l.symbols) (seen_line l.rest)
    (seen_ranged seen_share l.fn.first ∷ []) (map (seen_ranged seen_share) l.list)

abbrev pub decreases-loop-behind : goal.decreases-loop-behind
decreases-loop-behind l = length (seen_line l.rest)
