use Rattle.std.proofs.Common.{arith}
use Rattle.rob_settings.proofs.SpotLemmas.{places_more, places_all}
use Rattle.rob_settings.proofs.spot.all_places.Goals as goal

pub upwards-preserved : goal.upwards-preserved
upwards-preserved c =
    let here = c.upwards in
    record {
      within = omega (arith, c.upwards-test.true);
      so_far =
          places_more c.args.items.now here.places _ here.k c.upwards-test.true c.in_ok-push.ensures.appended
          here.invariant.so_far;
    }

pub returns : goal.returns
returns c =
    let here = c.upwards in
    record { all = places_all c.args.items.now here.places here.k c.upwards-test.false here.invariant.so_far }
