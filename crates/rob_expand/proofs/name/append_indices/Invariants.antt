use Rattle.std.proofs.Common.{◌≡◌, ◌++◌, drop}
use Rattle.std.specs.List.{flat_map}
use Rattle.rob_expand.specs.Growing.{index_bytes}
use Rattle.rob_expand.proofs.name.append_indices.Given as goal

abbrev pub invariant-loop-form : goal.invariant-loop-form
invariant-loop-form l =
    l.bytes.items ++ flat_map (index_bytes l.values) (drop l.form-index l.forms)
    ≡ l.fn.bytes.items ++ flat_map (index_bytes l.values) l.forms
