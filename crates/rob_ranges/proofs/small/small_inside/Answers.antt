use Rattle.std.proofs.Common.{rules}
use mir.Syntax.{w64}
use mir.Val.{SFits}
use Rattle.rob_ranges.proofs.ProductLemmas.{alone_inside, begun_inside}
use Rattle.rob_ranges.proofs.small.small_inside.Goals as goal

pub returns-in-empty : goal.returns-in-empty
returns-in-empty c =
    let fits : SFits w64 c.in_ok-constant.constant = search rules in
    record {
      value =
          alone_inside c.args.form.now c.constant.result.now c.in_ok-constant.constant c.args.innermost.now
          c.factors.result.now c.args.values.now c.constant.ensures.constant c.in_ok-constant.ensures.single fits
          c.factors.ensures.factors c.in-empty.len_below;
    }

pub returns-in_ok-begun-in-len1-up : goal.returns-in_ok-begun-in-len1-up
returns-in_ok-begun-in-len1-up c =
    let fits : SFits w64 c.in_ok-constant.constant = search rules in
    let sum : SFits w64 c.in_ok-begun-in-len1-up.begun = search rules in
    record {
      value =
          begun_inside c.args.form.now c.constant.result.now c.in_ok-constant.constant c.args.innermost.now
          c.factors.result.now c.args.values.now c.constant.ensures.constant c.in_ok-constant.ensures.single fits
          c.factors.ensures.factors c.short_weighed.result c.factor-item.result c.in_ok-begun-in-len1-up.begun
          c.in-len1-up.len_at_least c.factor-item.is sum c.in_ok-begun-in-len1-up.ensures.sum
          c.short_weighed.ensures.sum;
    }
