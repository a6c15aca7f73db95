-- The lowest column so far.
use Rattle.std.proofs.Common.{map, get_or}
use Rattle.rob_linear.specs.Vectors.{at}
use Rattle.rob_entries.specs.Choices.{IsLowest}
use Rattle.rob_entries.proofs.rows.lowest_column.Given as goal

abbrev pub invariant-loop-k : goal.invariant-loop-k
invariant-loop-k g l = IsLowest (at (map g.E.Entry.value l.fn.row)) (λ k. get_or l.fn.near k 0) l.k l.fn.before l.best
