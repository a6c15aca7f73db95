use Rattle.std.proofs.Common.{arith}
use Rattle.rob_rows.proofs.Entries.{narrow_fits, narrow_read}
use Rattle.rob_entries.proofs.short.I64Entry.fused.Goals as goal

pub overflow_sub-result : goal.overflow_sub-result
overflow_sub-result c =
    narrow_fits c.args.p c.args.a c.args.q c.args.b c.ranges.p c.ranges.a c.ranges.q c.ranges.b
    (let h = c.requires.narrow in omega arith)

pub returns : goal.returns
returns c =
    record {
      value = narrow_read c.args.p c.args.a c.args.q c.args.b c.ranges.p c.ranges.a c.ranges.q c.ranges.b
          (let h = c.requires.narrow in omega arith);
    }
