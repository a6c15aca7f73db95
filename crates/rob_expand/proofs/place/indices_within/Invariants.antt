use Rattle.std.proofs.Common.{take}
use Rattle.rob_syntax.specs.Seen.{seen_index}
use Rattle.rob_expand.specs.Scopes.{IsIndex, Pairwise}
use Rattle.rob_expand.proofs.place.indices_within.Given as goal

abbrev pub invariant-loop-index : goal.invariant-loop-index
invariant-loop-index l =
    Pairwise (λ f x. IsIndex l.scope.bound l.scope.names f (seen_index x)) l.forms (take l.index-index l.indices)
