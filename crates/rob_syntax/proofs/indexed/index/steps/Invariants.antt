use Rattle.std.proofs.Common.{[], length, map}
use Rattle.rob_index.specs.Grammar.{spell_steps}
use Rattle.rob_syntax.specs.Fronts.{EndsIndex}
use Rattle.rob_syntax.specs.SeenSymbols.{seen_line}
use Rattle.rob_syntax.specs.Seen.{seen_step}
use Rattle.rob_syntax.proofs.Fronts.ChainLemmas.{Front}
use Rattle.rob_syntax.proofs.indexed.index.steps.Given as goal

abbrev pub invariant-loop-minus : goal.invariant-loop-minus
invariant-loop-minus l =
    Front spell_steps EndsIndex (λ xs. xs) (seen_line l.symbols) (seen_line l.rest) [] (map seen_step l.list)

abbrev pub decreases-loop-minus : goal.decreases-loop-minus
decreases-loop-minus l = length (seen_line l.rest)
