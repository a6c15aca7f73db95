use Rattle.std.proofs.Common.{◌≡◌, ◌+◌, rules}
use Rattle.std.specs.Prelude.{pos}
use Rattle.rob_ranges.proofs.ValueLemmas.{one_counted}
use Rattle.rob_ranges.proofs.values.counted.Goals as goal

pub returns-in-Some-clause-counted : goal.returns-in-Some-clause-counted
returns-in-Some-clause-counted c truth vs =
    let none : c.args.value.now ≡ pos 0 = search rules in
    let more : c.in-Some.zeros ≡ c.index-near-0.result.zeros + 1 = search rules in
    one_counted c.args.near.now c.index-near-0.result c.in-Some.zeros c.args.value.now vs c.in-len1-up.len_at_least
    c.index-near-0.is none more
