use Rattle.std.proofs.Common.{rules, SFits}
use mir.Syntax.{w128}
use Rattle.rob_deep.proofs.NarrowEntries.{narrow_fits, narrow_read}
use Rattle.rob_deep.proofs.narrow.fused.Goals as goal

pub overflow_sub-result : goal.overflow_sub-result
overflow_sub-result c =
    let fp : SFits w128 c.args.factors.p = search rules in
    let fq : SFits w128 c.args.factors.q = search rules in
    narrow_fits c.args.factors.p c.args.a c.args.factors.q c.args.b fp c.ranges.a fq c.ranges.b c.requires.narrow

pub returns : goal.returns
returns c =
    let fp : SFits w128 c.args.factors.p = search rules in
    let fq : SFits w128 c.args.factors.q = search rules in
    record {
      value = narrow_read c.args.factors.p c.args.a c.args.factors.q c.args.b fp c.ranges.a fq c.ranges.b
          c.requires.narrow;
    }
