use Rattle.std.proofs.Common.{◌≡◌, ◌++◌, drop, map}
use Rattle.rob_index.specs.Fast.{index_form}
use Rattle.rob_syntax.specs.Seen.{seen_index}
use Rattle.rob_expand.proofs.place.index_forms.Given as goal

abbrev pub invariant-loop-index : goal.invariant-loop-index
invariant-loop-index l =
    l.forms ++ map (index_form l.names) (map seen_index (drop l.index-index l.indices))
    ≡ map (index_form l.names) (map seen_index l.indices)
