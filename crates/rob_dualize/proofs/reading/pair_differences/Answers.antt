use Rattle.std.proofs.Common.{arith}
use Rattle.rob_counterpart.specs.Splitting.{difference}
use Rattle.rob_dualize.specs.Numbers.{told}
use Rattle.rob_dualize.proofs.TabulateLemmas.{row_more}
use Rattle.rob_dualize.proofs.reading.pair_differences.Goals as goal

pub pair_difference-requires-clause-inside : goal.pair_difference-requires-clause-inside
pair_difference-requires-clause-inside g c = omega (arith, c.loop-j-test.true, c.requires.inside)

pub pair_difference-requires-clause-one : goal.pair_difference-requires-clause-one
pair_difference-requires-clause-one g c = c.requires.pairs c.loop-j.j c.loop-j-test.true

pub loop-j-preserved : goal.loop-j-preserved
loop-j-preserved g c =
    row_more g.N.Exact.value c.loop-j.plan c.push.new.self c.pair_difference.result c.loop-j.j
    (difference (told g.N.Exact.value c.args.numbers.now)) c.loop-j.invariant c.in_ok-push.ensures.appended
    c.pair_difference.ensures.difference
