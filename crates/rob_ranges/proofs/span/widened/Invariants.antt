use Rattle.std.proofs.Common.{List, take}
use Rattle.std.specs.Prelude.{ℤ}
use Rattle.rob_ranges.specs.Spans.{Every, IsIn}
use Rattle.rob_ranges.proofs.span.widened.Given as goal

abbrev pub invariant-loop-setting : goal.invariant-loop-setting
invariant-loop-setting l = record {
  begun : (vs : List ℤ) → IsIn l.fn.begun vs → IsIn l.span vs;
  so_far : Every (IsIn l.span) (take l.setting-index l.settings);
}
