use Rattle.std.proofs.lemmas.Result.{on_ok_weaker, on_err_weaker}
use Rattle.rob_rows.proofs.Combinations.{part-lowest, wide_part-lowest, multiple_read}
use Rattle.rob_rows.proofs.combination.combine_rows.Goals as goal

pub returns-clause-part : goal.returns-clause-part
returns-clause-part c =
    on_ok_weaker c.combine_lowest.result
    (part-lowest c.combine_lowest.new.out c.args.p c.args.top.now c.args.q c.args.low.now c.lowest-factors.result
    (multiple_read c.args.p c.args.q c.lowest-factors.result c.ranges.p c.ranges.q
    c.lowest-factors.ensures.multiple)) c.combine_lowest.ensures.part

pub returns-clause-wide : goal.returns-clause-wide
returns-clause-wide c =
    on_err_weaker c.combine_lowest.result
    (wide_part-lowest c.args.limit c.args.p c.args.top.now c.args.q c.args.low.now c.lowest-factors.result
    (multiple_read c.args.p c.args.q c.lowest-factors.result c.ranges.p c.ranges.q
    c.lowest-factors.ensures.multiple)) c.combine_lowest.ensures.wide
