use Rattle.std.proofs.Common.{◌≡◌, ◌+◌, ◌*◌, ◌^◌, ◌<◌, arith, rules, nat_abs}
use mir.Syntax.{w128}
use mir.Val.{SFits}
use Rattle.rob_deep.specs.Bigs.{value_of}
use Rattle.rob_deep.proofs.NarrowEntries.{sum_below, bound_is, low_word}
use Rattle.rob_deep.proofs.narrow.bound_of.Goals as goal

pub plus-sum-requires : goal.plus-sum-requires
plus-sum-requires c =
    let first : value_of c.product-first.result ≡ c.unsigned_abs.result * c.args.bound =
    c.product-first.ensures.value in
    let second : value_of c.product-second.result ≡ c.unsigned_abs-2.result * c.args.other =
    c.product-second.ensures.value in
    let below : c.unsigned_abs.result * c.args.bound + c.unsigned_abs-2.result * c.args.other < 2 ^ 256 =
    sum_below c.unsigned_abs.result c.args.bound c.unsigned_abs-2.result c.args.other (omega arith) (omega arith)
    (omega arith) (omega arith) in
    record { sum = omega arith }

pub returns-then-is_at_most-clause-bound : goal.returns-then-is_at_most-clause-bound
returns-then-is_at_most-clause-bound c =
    let fp : SFits w128 c.args.factors.p = search rules in
    let fq : SFits w128 c.args.factors.q = search rules in
    let whole : value_of c.plus-sum.result ≡ nat_abs c.args.factors.p * c.args.bound
    + nat_abs c.args.factors.q * c.args.other =
    bound_is c.args.factors.p c.args.factors.q c.unsigned_abs.result c.unsigned_abs-2.result c.args.bound c.args.other
    (value_of c.product-first.result) (value_of c.product-second.result)
    (value_of c.plus-sum.result) fp fq c.unsigned_abs.ensures.value c.unsigned_abs-2.ensures.value
    c.product-first.ensures.value c.product-second.ensures.value c.plus-sum.ensures.value in
    low_word c.plus-sum.result.high c.plus-sum.result.low _ c.args.limit whole
    c.if-is_at_most.ensures.at_most (omega arith)

pub returns-else-is_at_most-clause-wide : goal.returns-else-is_at_most-clause-wide
returns-else-is_at_most-clause-wide c =
    let fp : SFits w128 c.args.factors.p = search rules in
    let fq : SFits w128 c.args.factors.q = search rules in
    let whole : value_of c.plus-sum.result ≡ nat_abs c.args.factors.p * c.args.bound
    + nat_abs c.args.factors.q * c.args.other =
    bound_is c.args.factors.p c.args.factors.q c.unsigned_abs.result c.unsigned_abs-2.result c.args.bound c.args.other
    (value_of c.product-first.result) (value_of c.product-second.result)
    (value_of c.plus-sum.result) fp fq c.unsigned_abs.ensures.value c.unsigned_abs-2.ensures.value
    c.product-first.ensures.value c.product-second.ensures.value c.plus-sum.ensures.value in
    let above : 0 + c.args.limit < value_of c.plus-sum.result = c.if-is_at_most.ensures.above in
    omega arith
