use Rattle.std.proofs.Common.{[], ◌∷◌, length, map}
use Rattle.rob_index.specs.Grammar.{spell_more, spell_range}
use Rattle.rob_syntax.specs.Fronts.{EndsRanges}
use Rattle.rob_syntax.specs.SeenSymbols.{seen_line}
use Rattle.rob_syntax.specs.Seen.{seen_range}
use Rattle.rob_syntax.proofs.Fronts.ChainLemmas.{Front}
use Rattle.rob_syntax.proofs.indexed.range.ranges_behind.Given as goal

abbrev pub invariant-loop-behind : goal.invariant-loop-behind
invariant-loop-behind l =
    Front (spell_more spell_range) EndsRanges (λ xs. xs) (seen_line l.symbols) (seen_line l.rest)
    (seen_range l.fn.first ∷ []) (map seen_range l.list)

abbrev pub decreases-loop-behind : goal.decreases-loop-behind
decreases-loop-behind l = length (seen_line l.rest)
