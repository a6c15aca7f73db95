use Rattle.std.proofs.Common.{◌≡◌, ◌++◌, drop}
use Rattle.rob_index.specs.Fast.{names_in, nest_of}
use Rattle.rob_syntax.specs.Seen.{seen_ranges}
use Rattle.rob_expand.proofs.lines.nest_in.Given as goal

abbrev pub invariant-loop-range : goal.invariant-loop-range
invariant-loop-range l = record {
  ends : l.ends ++ nest_of l.inside (seen_ranges (drop l.range-index l.ranges))
      ≡ nest_of l.names (seen_ranges l.ranges);
  names : names_in l.inside (seen_ranges (drop l.range-index l.ranges)) ≡ names_in l.names (seen_ranges l.ranges);
}
