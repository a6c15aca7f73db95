use Rattle.std.proofs.Common.{length, map, refl, ap, arith}
use Rattle.rob_meaning.specs.RobustModel.{in_set}
use Rattle.rob_model.specs.View.{parameter_of}
use Rattle.rob_parse.proofs.Sets.JoinLemmas.{front_all, front_stays, longer, sets_end, sets_step}
use Rattle.rob_parse.proofs.model.join.Goals as goal

pub loop-set-init : goal.loop-set-init
loop-set-init g c = record {
  count = ap length c.items-count.ensures.list;
  long = omega arith;
  front = front_all (parameter_of g.N.Exact.value) c.args.params.now _ (ap length c.items-count.ensures.list);
  so_far = refl;
}

pub join_set-requires : goal.join_set-requires
join_set-requires g c =
    record {
      count =
          omega (arith, c.loop-set.invariant.count, c.loop-set.invariant.long);
    }

pub loop-set-preserved : goal.loop-set-preserved
loop-set-preserved g c =
    let view = parameter_of g.N.Exact.value in
    let now = map view c.loop-set.params in
    let base = map view c.args.params.now in
    record {
      count = c.loop-set.invariant.count;
      long =
          longer view c.args.params.now c.loop-set.params c.join_set.new.params _ c.loop-set.invariant.long
          c.in_ok-join_set.ensures.joint;
      front =
          front_stays view base c.loop-set.params _ _
          (omega (arith, c.loop-set.invariant.count, c.loop-set.invariant.long)) c.loop-set.invariant.front
          c.in_ok-join_set.ensures.joint;
      so_far =
          sets_step in_set base c.args.sets.now _ now _ c.loop-set.set-index c.set-item.result c.loop-set-test.true
          c.set-item.is c.loop-set.invariant.front c.in_ok-join_set.ensures.joint
          c.loop-set.invariant.so_far;
    }

pub returns : goal.returns
returns g c =
    record {
      joint =
          let view = parameter_of g.N.Exact.value in
          sets_end in_set (map view c.args.params.now) c.args.sets.now _ (map view c.loop-set.params)
          c.loop-set.set-index c.loop-set-test.false c.loop-set.invariant.so_far;
    }
