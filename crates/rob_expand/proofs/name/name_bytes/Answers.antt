use Rattle.std.proofs.Common.{ap, ◌∙◌}
use Rattle.std.specs.List.{flat_map}
use Rattle.rob_expand.specs.Growing.{index_bytes}
use Rattle.rob_expand.proofs.Walks.WalkLemmas.{join_both}
use Rattle.rob_expand.proofs.name.name_bytes.Goals as goal

pub returns : goal.returns
returns c = record {
  bytes =
      c.in_ok-append_indices.ensures.appended
      ∙ join_both c.in_ok-bytes.ensures.bytes
      (ap (flat_map (index_bytes c.args.values.now)) c.items.ensures.list);
}
