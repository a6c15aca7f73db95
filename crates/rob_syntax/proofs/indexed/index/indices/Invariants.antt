use Rattle.std.proofs.Common.{[], ◌∷◌, length, map}
use Rattle.rob_index.specs.Grammar.{spell_more, spell_index}
use Rattle.rob_syntax.specs.Fronts.{EndsIndex, EndsList}
use Rattle.rob_syntax.specs.SeenSymbols.{seen_line}
use Rattle.rob_syntax.specs.Seen.{seen_index}
use Rattle.rob_syntax.proofs.Fronts.ChainLemmas.{Front}
use Rattle.rob_syntax.proofs.indexed.index.indices.Given as goal

abbrev pub invariant-loop-behind : goal.invariant-loop-behind
invariant-loop-behind l =
    Front (spell_more spell_index) (EndsList EndsIndex) (λ xs. xs) (seen_line l.symbols) (seen_line l.rest)
    (seen_index l.fn.first ∷ []) (map seen_index l.list)

abbrev pub decreases-loop-behind : goal.decreases-loop-behind
decreases-loop-behind l = length (seen_line l.rest)
