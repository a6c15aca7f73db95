use Rattle.std.proofs.Common.{◌≡◌, ◌-◌, vec_len}
use Rattle.rob_rules.specs.Stages.{padded}
use Rattle.rob_rules.proofs.lines.pad.Given as goal

abbrev pub invariant-loop-value : goal.invariant-loop-value
invariant-loop-value g l = padded l.count l.value l.list.items ≡ padded l.count l.value l.fn.list.items

abbrev pub decreases-loop-value : goal.decreases-loop-value
decreases-loop-value g l = l.count - vec_len l.list
