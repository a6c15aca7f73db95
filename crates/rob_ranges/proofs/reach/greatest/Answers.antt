use Rattle.std.proofs.Common.{arith}
use Rattle.rob_ranges.proofs.NestLemmas.{as_well, put_in_more, put_in_all}
use Rattle.rob_ranges.proofs.reach.greatest.Goals as goal

pub outwards-preserved : goal.outwards-preserved
outwards-preserved c =
    let here = c.outwards in
    record {
      within = omega (arith, here.invariant.within);
      so_far =
          put_in_more c.args.values.now c.args.ranges.now here.left here.rest c.index-ranges-left.result
          c.put_in.new.self c.outwards-test.true here.invariant.within c.index-ranges-left.is
          c.in_ok-put_in.ensures.put_in here.invariant.so_far;
    }

pub returns : goal.returns
returns c =
    let here = c.outwards in
    record {
      greatest =
          as_well c.value-2.result
          (put_in_all c.args.values.now c.args.ranges.now here.left here.rest c.outwards-test.false
          here.invariant.so_far)
          c.value-2.ensures.value;
    }
