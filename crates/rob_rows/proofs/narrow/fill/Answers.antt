use Rattle.std.proofs.Common.{arith, rules, pos, get_or}
use mir.Syntax.{w64}
use mir.Val.{SFits}
use Rattle.rob_rows.proofs.Entries.{entry_fits, narrow_fits, narrow_read, combination_written, entry_more}
use Rattle.rob_rows.proofs.narrow.fill.Goals as goal

pub overflow_mul-out : goal.overflow_mul-out
overflow_mul-out c =
    let k = c.loop-k.k in
    let fp : SFits w64 c.args.factors.p = search rules in
    let fa : SFits w64 (get_or c.args.top.now k (pos 0)) = search rules in
    entry_fits c.args.factors.p (get_or c.args.top.now k (pos 0)) fp fa
    (omega (arith, c.requires.narrow k (omega arith) (omega arith)))

pub overflow_mul-out-in-loop-k : goal.overflow_mul-out-in-loop-k
overflow_mul-out-in-loop-k c =
    let k = c.loop-k.k in
    let fq : SFits w64 c.args.factors.q = search rules in
    let fb : SFits w64 (get_or c.args.low.now k (pos 0)) = search rules in
    entry_fits c.args.factors.q (get_or c.args.low.now k (pos 0)) fq fb
    (omega (arith, c.requires.narrow k (omega arith) (omega arith)))

pub overflow_sub-out : goal.overflow_sub-out
overflow_sub-out c =
    let k = c.loop-k.k in
    let fp : SFits w64 c.args.factors.p = search rules in
    let fq : SFits w64 c.args.factors.q = search rules in
    let fa : SFits w64 (get_or c.args.top.now k (pos 0)) = search rules in
    let fb : SFits w64 (get_or c.args.low.now k (pos 0)) = search rules in
    narrow_fits c.args.factors.p (get_or c.args.top.now k (pos 0)) c.args.factors.q
    (get_or c.args.low.now k (pos 0)) fp fa fq fb
    (c.requires.narrow k (omega arith) (omega arith))

pub loop-k-preserved : goal.loop-k-preserved
loop-k-preserved c =
    let k = c.loop-k.k in
    let fp : SFits w64 c.args.factors.p = search rules in
    let fq : SFits w64 c.args.factors.q = search rules in
    let fa : SFits w64 (get_or c.args.top.now k (pos 0)) = search rules in
    let fb : SFits w64 (get_or c.args.low.now k (pos 0)) = search rules in
    entry_more c.args.factors.p c.args.top.now c.args.factors.q c.args.low.now c.loop-k.out k _
    (omega arith) c.loop-k.invariant
    (narrow_read c.args.factors.p (get_or c.args.top.now k (pos 0)) c.args.factors.q
    (get_or c.args.low.now k (pos 0)) fp fa fq fb
    (c.requires.narrow k (omega arith) (omega arith)))

pub returns : goal.returns
returns c =
    record {
      row =
          combination_written c.args.factors.p c.args.top.now c.args.factors.q c.args.low.now c.loop-k.out
          (omega arith) (omega arith)
          (λ j l. c.loop-k.invariant j (omega arith));
    }
